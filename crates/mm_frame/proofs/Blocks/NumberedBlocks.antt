-- Blocks by number, as statements are added one by one.
use Rattle.std.proofs.Common.{◌≡◌, ℕ, zero, suc, ◌+◌, ◌-◌, ◌≤◌, ◌⊎◌, inl, inr, Bool, cond, length}
use Rattle.std.proofs.Common.{take, drop, count_by, List, [], ◌∷◌, ◌++◌, refl, sym, ap, ◌∙◌, subst}
use Rattle.std.proofs.Common.{drop_of_length-le, arith, Some, slice_get, ◌<◌, true, false, set}
use Rattle.std.proofs.Common.{length-append, length-set}
use Rattle.std.proofs.lemmas.List.{drop-append-le, take-take, drop-drop, drop-take, take-append-le}
use Rattle.std.proofs.lemmas.List.{take_all}
use Rattle.std.proofs.Math.Seq.{take-append_seam, take-add, take-length, take-nil}
use Rattle.std.proofs.lemmas.List.Sums.{sum_by-append}
use Rattle.std.proofs.lemmas.Bool.{cases_lt, cases_order}
use Rattle.mm_frame.specs.Sentence.{Sentence}
use Rattle.mm_frame.specs.Active.{open_marks, close_marks, IsOpen}
use Rattle.mm_base.specs.Blocks.{is_closing, is_opening}
use Rattle.mm_frame.specs.Mirror.Gathered.{AreRisingIndices}
use Rattle.mm_frame.specs.Mirror.Scopes.{IsUnclosed, IsBegun, IsEnd, IsOnStack, DirectlyHolds}
use Rattle.mm_frame.specs.Mirror.Gathered.{AreRisingIndices}
use Rattle.mm_frame.specs.Mirror.Scopes.{AreScopes}
use Rattle.std.proofs.lemmas.Option.{slice_get_within}
use Rattle.mm_base.specs.declared.statement.Kind.TheVariants.{Opening, Closing}
use Rattle.mm_base.proofs.Lists.{get_kept, get_pushed, pushed_cases, get_before, get_set_cases}
use Rattle.mm_base.proofs.Lists.{split_at}

-- ==== how many blocks the parts of a list of statements open and close, and which blocks stay open
-- as statements are appended

pub count_append : {X : Type 0} (p : X → Bool) (xs ys : List X) → count_by p (xs ++ ys) ≡ count_by p xs + count_by p ys
count_append p xs ys = sum_by-append (λ x. cond (p x) 1 0) xs ys

pub openings-append : (xs ys : List Sentence) → open_marks (xs ++ ys) ≡ open_marks xs + open_marks ys
openings-append xs ys = count_append (λ s. is_opening s.kind) xs ys

pub closings-append : (xs ys : List Sentence) → close_marks (xs ++ ys) ≡ close_marks xs + close_marks ys
closings-append xs ys = count_append (λ s. is_closing s.kind) xs ys

-- a prefix of what lies past an index of a prefix lies so in the whole list
prefix_of_prefix : {X : Type 0} (n x p : ℕ) (xs : List X) → (m : ℕ) × (take n (drop x (take p xs)) ≡ take m (drop x xs))
prefix_of_prefix (suc n) zero (suc p) (y ∷ xs) = let (m, e) = prefix_of_prefix n zero p xs in (suc m, ap (λ ys. y ∷ ys) e)
prefix_of_prefix (suc n) (suc x) (suc p) (y ∷ xs) = prefix_of_prefix (suc n) x p xs
prefix_of_prefix n x p xs = (0, refl)

pub unclosed_prefix : (xs : List Sentence) (p x : ℕ) → IsUnclosed xs x → IsUnclosed (take p xs) x
unclosed_prefix xs p x open_still n =
    let (m, e) = prefix_of_prefix n x p xs in
    rw e (open_still m)

-- a prefix of a list and one more is a prefix of the list, or is all
prefix_cases : {X : Type 0} (xs : List X) (y : X) (n : ℕ) → (take n (xs ++ y ∷ []) ≡ take n xs) ⊎ (take n (xs ++ y ∷ []) ≡ xs ++ y ∷ [])
prefix_cases xs y zero = inl refl
prefix_cases [] y (suc zero) = inr refl
prefix_cases [] y (suc (suc n)) = inr refl
prefix_cases (x ∷ xs) y (suc n) = elim (prefix_cases xs y n) [ inl e ↦ inl (ap (λ ys. x ∷ ys) e) | inr e ↦ inr (ap (λ ys. x ∷ ys) e) ]

-- a block stays open after one statement more, if the `$}` are no more than the `${` then
pub unclosed_pushed : (xs : List Sentence) (e : Sentence) (x : ℕ) → x ≤ length xs → IsUnclosed xs x
    → close_marks (drop x xs ++ e ∷ []) ≤ open_marks (drop x xs ++ e ∷ []) → IsUnclosed (xs ++ e ∷ []) x
unclosed_pushed xs e x le open_still last n =
    let same : drop x (xs ++ e ∷ []) ≡ drop x xs ++ e ∷ [] = drop-append-le x xs (e ∷ []) le in
    let P : List Sentence → Type 0 = λ ys. close_marks ys ≤ open_marks ys in
    elim (prefix_cases (drop x xs) e n) [
      | inl prefix ↦ subst P (sym (ap (take n) same ∙ prefix)) (open_still n)
      | inr all ↦ subst P (sym (ap (take n) same ∙ all)) last
    ]

-- a block that is open after all is so after those before
pub unclosed_before : (xs ys : List Sentence) (x : ℕ) → IsUnclosed (xs ++ ys) x → IsUnclosed xs x
unclosed_before xs ys x open_still = subst (λ zs. IsUnclosed zs x) (take-append_seam xs ys) (unclosed_prefix (xs ++ ys) (length xs) x open_still)

-- all that lies past the index where an open block begins has no more `$}` than `${`
pub unclosed_all : (xs : List Sentence) (x : ℕ) → IsUnclosed xs x → close_marks (drop x xs) ≤ open_marks (drop x xs)
unclosed_all xs x open_still = rw (take-length (drop x xs)) at (open_still (length (drop x xs)))

-- what begins at the end is open
pub unclosed_new : (xs : List Sentence) (x : ℕ) → length xs ≤ x → IsUnclosed xs x
unclosed_new xs x le n = rw (ap (take n) (drop_of_length-le xs le) ∙ take-nil n) (omega arith)

-- the prefixes past an index that go past a further index
prefix_past : {X : Type 0} (xs : List X) (y d m : ℕ) → take (d + m) (drop y xs) ≡ take d (drop y (take (y + d) xs)) ++ take m (drop (y + d) xs)
prefix_past xs y d m =
    let whole : take d (drop y (take (y + d) xs)) ≡ drop y (take (y + d) xs) =
    ap (take d) (drop-take y d xs) ∙ take-take d d (drop y xs) (omega arith) ∙ sym (drop-take y d xs) in
    take-add d m (drop y xs) ∙ ap (λ ys. ys ++ take m (drop d (drop y xs))) (sym (drop-take y d xs) ∙ sym (whole))
    ∙ ap (λ ys. take d (drop y (take (y + d) xs)) ++ take m ys) (drop-drop d y xs)

-- a block that was open where another began inside it, which is open, is open
pub unclosed_outer : (xs : List Sentence) (x y : ℕ) → y ≤ x → IsUnclosed (take x xs) y → IsUnclosed xs x → IsUnclosed xs y
unclosed_outer xs x y le outer inner n =
    let P : List Sentence → Type 0 = λ ys. close_marks ys ≤ open_marks ys in
    let d = x - y in
    let e : y + d ≡ x = omega arith in
    let outer' : IsUnclosed (take (y + d) xs) y = subst (λ k. IsUnclosed (take k xs) y) (sym e) outer in
    let inner' : IsUnclosed xs (y + d) = subst (λ k. IsUnclosed xs k) (sym e) inner in
    elim (cases_lt d n) [
      | inl lt ↦
          let m = n - d in
          let f : d + m ≡ n = omega arith in
          let b = inner' m in
          let o = openings-append (take d (drop y (take (y + d) xs))) (take m (drop (y + d) xs)) in
          let c = closings-append (take d (drop y (take (y + d) xs))) (take m (drop (y + d) xs)) in
          let h : P (take d (drop y (take (y + d) xs)) ++ take m (drop (y + d) xs)) = omega arith in
          subst (λ k. P (take k (drop y xs))) f (subst P (sym (prefix_past xs y d m)) h)
      | inr ge ↦ subst P (ap (take n) (drop-take y d xs) ∙ take-take n d (drop y xs) ge) (outer' n)
    ]

-- a block that is open is so in another list that has its `${` and doesn't close it
pub open_in : {xs ys : List Sentence} {p q : ℕ} → (still : IsOpen xs p)
    → slice_get ys q ≡ Some still.opening → IsUnclosed ys (suc q) → IsOpen ys q
open_in still there unclosed = record {
  opening = still.opening;
  there = there;
  opened = still.opened;
  unclosed = unclosed;
}

-- ==== blocks by number, as statements are added one by one

-- what one statement opens and closes
pub openings_one : (e : Sentence) (b : Bool) → is_opening e.kind ≡ b → open_marks (e ∷ []) ≡ cond b 1 0
openings_one e b is = ap (λ c. 0 + cond c 1 0) is ∙ omega arith

pub closings_one : (e : Sentence) (b : Bool) → is_closing e.kind ≡ b → close_marks (e ∷ []) ≡ cond b 1 0
closings_one e b is = ap (λ c. 0 + cond c 1 0) is ∙ omega arith

-- where no `$}` before an open block lacks its `${`, there are fewer `$}` than `${`
pub open_unclosed : (xs : List Sentence) (p : ℕ)
    → close_marks (take p xs) ≤ open_marks (take p xs) → IsOpen xs p
    → close_marks xs < open_marks xs
open_unclosed xs p before still =
    let rest = drop (suc p) xs in
    let whole = split_at xs p still.opening still.there in
    let os = ap open_marks whole ∙ openings-append (take p xs) (still.opening ∷ rest) in
    let cs = ap close_marks whole ∙ closings-append (take p xs) (still.opening ∷ rest) in
    let o = openings-append (still.opening ∷ []) rest in
    let c = closings-append (still.opening ∷ []) rest in
    let o1 = openings_one still.opening true (ap is_opening still.opened) in
    let c1 = closings_one still.opening false (ap is_closing still.opened) in
    omega (arith, unclosed_all xs (suc p) still.unclosed)

pub length_pushed : {X : Type 0} (xs : List X) (x : X) → length (xs ++ x ∷ []) ≡ suc (length xs)
length_pushed xs x = length-append xs (x ∷ []) ∙ (omega arith)

-- what is open after one statement more was open before it, or is opened by it
pub open_before : (xs : List Sentence) (e : Sentence) (p : ℕ) → IsOpen (xs ++ e ∷ []) p → p < length xs → IsOpen xs p
open_before xs e p o lt = open_in o (get_before xs (e ∷ []) p o.opening lt o.there)
    (unclosed_before xs (e ∷ []) (suc p) o.unclosed)

pub opened_last : (xs : List Sentence) (e : Sentence) (p : ℕ) → IsOpen (xs ++ e ∷ []) p → ¬ (p < length xs) → (p ≡ length xs) × (e.kind ≡ Opening)
opened_last xs e p o past =
    elim (pushed_cases xs e p o.opening o.there) [
      | inl before ↦ absurd (past (slice_get_within xs p o.opening before))
      | inr (last, same) ↦ (last, ap (λ (s : Sentence). s.kind) same ∙ o.opened)
    ]

pub all_taken : (xs : List Sentence) (e : Sentence) → take (suc (length xs)) (xs ++ e ∷ []) ≡ xs ++ e ∷ []
all_taken xs e = take_all (suc (length xs)) (xs ++ e ∷ []) (let h = length_pushed xs e in omega arith)

-- and so is the prefix up to the index of the one more
pub taken_at : (xs : List Sentence) (e : Sentence) (index : ℕ) → index ≡ length xs
    → take (index + 1) (xs ++ e ∷ []) ≡ xs ++ e ∷ []
taken_at xs e index last =
    let next : index + 1 ≡ suc (length xs) = omega arith in
    ap (λ n. take n (xs ++ e ∷ [])) next ∙ all_taken xs e

begun_grown : (xs : List Sentence) (e : Sentence) (x : ℕ) → IsBegun xs x → IsBegun (xs ++ e ∷ []) x
begun_grown xs e x b = record { index = b.index; opening = b.opening; next = b.next; there = get_kept xs (e ∷ []) b.index b.opening b.there; opened = b.opened }

end_grown : (xs : List Sentence) (e : Sentence) (x c : ℕ) → IsEnd xs x c → IsEnd (xs ++ e ∷ []) x c
end_grown xs e x c end =
    let more = length_pushed xs e in
    record {
      within = omega arith;
      before = rw (take-append-le c xs (e ∷ []) (omega arith)) end.before;
      after = rw (take-append-le (suc c) xs (e ∷ []) (omega arith)) end.after;
    }

-- each start is a start in the other list too
abbrev pub AreKept : List ℕ → List ℕ → Type 0
AreKept starts others = (b x : ℕ) → slice_get starts b ≡ Some x → slice_get others b ≡ Some x

holder_grown : (xs : List Sentence) (e : Sentence) (starts others : List ℕ) (b i : ℕ) → AreKept starts others → i < length xs → DirectlyHolds xs starts b i → DirectlyHolds (xs ++ e ∷ []) others b i
holder_grown xs e starts others b i kept lt h =
    let same = take-append-le (suc i) xs (e ∷ []) (omega arith) in
    record {
      start = h.start;
      there = kept b h.start h.there;
      before = h.before;
      unclosed = rw same h.unclosed;
      nearest = λ outer (before, still). h.nearest outer (before, rw same at still);
    }

-- a block on the stack stays there, where the statement's opening and closing is what the stack grows by
on_stack_grown : (xs : List Sentence) (e : Sentence) (starts others stack next : List ℕ) (k b : ℕ) → (h : IsOnStack xs starts stack k b) → h.start ≤ length xs → AreKept starts others
    → open_marks (e ∷ []) + length stack ≡ close_marks (e ∷ []) + length next → k < length next → IsOnStack (xs ++ e ∷ []) others next k b
on_stack_grown xs e starts others stack next k b h le kept balance lt =
    let x = h.start in
    let o = openings-append (drop x xs) (e ∷ []) in
    let c = closings-append (drop x xs) (e ∷ []) in
    let above = h.above in
    record {
      start = x;
      there = kept b x h.there;
      unclosed = unclosed_pushed xs e x le h.unclosed (omega arith);
      above = rw (drop-append-le x xs (e ∷ []) le) (omega arith);
    }

-- each start lies within
pub start_within : (never : ℕ) (xs : List Sentence) (blocks ends stack : List ℕ) (a : AreScopes never xs blocks ends stack) (b x : ℕ) → slice_get a.starts b ≡ Some x → x ≤ length xs
start_within never xs blocks ends stack a zero x there = let first = a.outermost in let e : x ≡ 0 = cc in omega arith
start_within never xs blocks ends stack a (suc b) x there =
    let begun = a.begun b x there in
    let lt = slice_get_within xs begun.index begun.opening begun.there in
    omega arith

-- the last block on the stack begins after each other block on it
innermost : (starts stack : List ℕ) (k top x j b outer : ℕ) → AreRisingIndices starts
    → AreRisingIndices stack → length stack ≡ suc k → slice_get stack k ≡ Some top
    → slice_get starts top ≡ Some x → slice_get stack j ≡ Some b → slice_get starts b ≡ Some (suc outer) → outer < x
innermost starts stack k top x j b outer rising stacked size last there on begins =
    let lt = slice_get_within stack j b on in
    elim (cases_order j k) [
      | inl same ↦ let f : suc outer ≡ x = cc in omega arith
      | inr (inl before) ↦ let h = rising b top (suc outer) x begins there (stacked j k b top on last before) in omega arith
      | inr (inr after) ↦ absurd (omega arith)
    ]

-- the block that holds one statement more
holder_new : (xs : List Sentence) (e : Sentence) (starts : List ℕ) (b x : ℕ) → slice_get starts b ≡ Some x → x ≤ length xs → IsUnclosed (xs ++ e ∷ []) x
    → ((outer : ℕ) → outer < length xs → IsOpen (xs ++ e ∷ []) outer → outer < x) → DirectlyHolds (xs ++ e ∷ []) starts b (length xs)
holder_new xs e starts b x there le still nearest = record {
  start = x;
  there = there;
  before = le;
  unclosed = subst (λ ys. IsUnclosed ys x) (sym (all_taken xs e)) still;
  nearest = λ outer (before, opened). nearest outer before (subst (λ ys. IsOpen ys outer) (all_taken xs e) opened);
}

-- the blocks that hold the statements, with one statement more
holders_grown : (xs : List Sentence) (e : Sentence) (starts others blocks : List ℕ) (new : ℕ) → length blocks ≡ length xs → AreKept starts others
    → ((i b : ℕ) → slice_get blocks i ≡ Some b → DirectlyHolds xs starts b i) → DirectlyHolds (xs ++ e ∷ []) others new (length xs)
    → (i b : ℕ) → slice_get (blocks ++ new ∷ []) i ≡ Some b → DirectlyHolds (xs ++ e ∷ []) others b i
holders_grown xs e starts others blocks new size kept old last i b there =
    elim (pushed_cases blocks new i b there) [
      | inl before ↦ let lt = slice_get_within blocks i b before in holder_grown xs e starts others b i kept (omega arith) (old i b before)
      | inr (at_end, same) ↦ rw (← same, at_end ∙ size) last
    ]

held_grown : (xs : List Sentence) (e : Sentence) (blocks : List ℕ) (b : ℕ) → length blocks ≡ length xs → length (blocks ++ b ∷ []) ≡ length (xs ++ e ∷ [])
held_grown xs e blocks b size = length_pushed blocks b ∙ ap suc size ∙ sym (length_pushed xs e)

pub scopes_ordinary : (never : ℕ) (xs : List Sentence) (e : Sentence) (blocks ends stack : List ℕ) (k top : ℕ) → AreScopes never xs blocks ends stack
    → length stack ≡ suc k → slice_get stack k ≡ Some top → is_opening e.kind ≡ false → is_closing e.kind ≡ false
    → AreScopes never (xs ++ e ∷ []) (blocks ++ top ∷ []) ends stack
scopes_ordinary never xs e blocks ends stack k top a size last not_opening not_closing =
    let same : AreKept a.starts a.starts = λ b x there. there in
    let o = openings_one e false not_opening in
    let c = closings_one e false not_closing in
    let within = start_within never xs blocks ends stack a in
    let balance : open_marks (e ∷ []) + length stack ≡ close_marks (e ∷ []) + length stack = omega arith in
    let grown : (k b : ℕ) → slice_get stack k ≡ Some b → IsOnStack (xs ++ e ∷ []) a.starts stack k b = λ k b there.
    let h = a.on_stack k b there in
    on_stack_grown xs e a.starts a.starts stack stack k b h (within b h.start h.there) same balance (slice_get_within stack k b there) in
    let earlier : (outer : ℕ) → IsOpen (xs ++ e ∷ []) outer → IsOpen xs outer = λ outer still. elim (cases_lt outer (length xs)) [
      | inl lt ↦ open_before xs e outer still lt
      | inr ge ↦ absurd (cc (ap is_opening (opened_last xs e outer still (λ lt. omega arith)).1))
    ] in
    let holder = grown k top last in
    record {
      starts = a.starts;
      held = held_grown xs e blocks top a.held;
      sized = a.sized;
      outermost = a.outermost;
      bottom = a.bottom;
      rising = a.rising;
      begun = λ b x there. begun_grown xs e x (a.begun b x there);
      stacked = a.stacked;
      on_stack = grown;
      complete = λ index still. a.complete index (earlier index still);
      ended = λ b x c begins ends_at. elim (a.ended b x c begins ends_at) [
        | inl still ↦ inl still
        | inr end ↦ inr (end_grown xs e x c end)
      ];
      holders = holders_grown xs e a.starts a.starts blocks top a.held same a.holders
          (holder_new xs e a.starts top holder.start holder.there (within top holder.start holder.there) holder.unclosed
          (λ outer before still.
          let (j, b, on, begins) = a.complete outer (earlier outer still) in
          innermost a.starts stack k top holder.start j b outer a.rising a.stacked size last holder.there on begins));
    }

-- the elements of a list and one more rise, where the one more is above all
pub rising_grown : (xs : List ℕ) (y : ℕ) → AreRisingIndices xs
    → ((k a : ℕ) → slice_get xs k ≡ Some a → a < y) → AreRisingIndices (xs ++ y ∷ [])
rising_grown xs y rising below j k a b at_j at_k lt =
    elim (pushed_cases xs y k b at_k) [
      | inl k_before ↦
          let within = slice_get_within xs k b k_before in
          rising j k a b (get_before xs (y ∷ []) j a (omega arith) at_j) k_before lt
      | inr (last, same) ↦
          let h = below j a (get_before xs (y ∷ []) j a (omega arith) at_j) in
          omega arith
    ]

on_stack_new : (xs : List Sentence) (e : Sentence) (starts next : List ℕ) (k b : ℕ) → slice_get starts b ≡ Some (suc (length xs)) → length next ≡ suc k → IsOnStack (xs ++ e ∷ []) starts next k b
on_stack_new xs e starts next k b there size =
    let longer = length_pushed xs e in
    let past : drop (suc (length xs)) (xs ++ e ∷ []) ≡ [] = drop_of_length-le (xs ++ e ∷ []) {i = suc (length xs)} (omega arith) in
    record {
      start = suc (length xs);
      there = there;
      unclosed = unclosed_new (xs ++ e ∷ []) (suc (length xs)) (omega arith);
      above = subst (λ ys. open_marks ys + suc k ≡ close_marks ys + length next) (sym past) (ap (λ m. 0 + m) (sym size));
    }

ended_new : (never : ℕ) (xs : List Sentence) (e : Sentence) (blocks ends stack : List ℕ) (a : AreScopes never xs blocks ends stack) (new b x c : ℕ) → slice_get (a.starts ++ new ∷ []) b ≡ Some x → slice_get (ends ++ never ∷ []) b ≡ Some c
    → ((c ≡ never) × (k : ℕ) × (slice_get (stack ++ length ends ∷ []) k ≡ Some b)) ⊎ IsEnd (xs ++ e ∷ []) x c
ended_new never xs e blocks ends stack a new b x c begins ends_at =
    elim (pushed_cases a.starts new b x begins) [
      | inl before ↦
          let lt = slice_get_within a.starts b x before in
          elim (a.ended b x c before (get_before ends (never ∷ []) b c (omega arith) ends_at)) [
            | inl (is_never, k, on) ↦ inl (is_never, k, get_kept stack (length ends ∷ []) k b on)
            | inr end ↦ inr (end_grown xs e x c end)
          ]
      | inr (at_end, same) ↦ elim (pushed_cases ends never b c ends_at) [
        | inl before ↦ absurd (let lt = slice_get_within ends b c before in omega arith)
        | inr (last, is_never) ↦ inl (sym is_never, length stack, subst (λ m. slice_get (stack ++ length ends ∷ []) (length stack) ≡ Some m) (sym last) (get_pushed stack (length ends)))
      ]
    ]

pub scopes_opening : (never : ℕ) (xs : List Sentence) (e : Sentence) (blocks ends stack : List ℕ) (k top : ℕ) → AreScopes never xs blocks ends stack
    → length stack ≡ suc k → slice_get stack k ≡ Some top → e.kind ≡ Opening
    → AreScopes never (xs ++ e ∷ []) (blocks ++ top ∷ []) (ends ++ never ∷ []) (stack ++ length ends ∷ [])
scopes_opening never xs e blocks ends stack k top a size last opens =
    let n = length xs in
    let starts = a.starts ++ suc n ∷ [] in
    let next = stack ++ length ends ∷ [] in
    let kept : AreKept a.starts starts = λ b x there. get_kept a.starts (suc n ∷ []) b x there in
    let sized = a.sized in
    let o = openings_one e true (ap is_opening opens) in
    let c = closings_one e false (ap is_closing opens) in
    let more = length_pushed stack (length ends) in
    let longer = length_pushed xs e in
    let within = start_within _ _ _ _ _ a in
    let new_start : slice_get starts (length ends) ≡ Some (suc n) = rw sized (get_pushed a.starts (suc n)) in
    let balance : open_marks (e ∷ []) + length stack ≡ close_marks (e ∷ []) + length next = omega arith in
    let old : (k b : ℕ) → slice_get stack k ≡ Some b → IsOnStack (xs ++ e ∷ []) starts next k b = λ k b there.
    let h = a.on_stack k b there in
    let lt = slice_get_within stack k b there in
    on_stack_grown _ e _ _ _ next _ _ h (within b h.start h.there) kept balance (omega arith) in
    let holder = old k top last in
    let begins = a.on_stack k top last in
    let same_start : holder.start ≡ begins.start = let one = holder.there in let other = kept top begins.start begins.there in cc in
    let still_open = rw same_start at holder.unclosed in
    record {
      starts = starts;
      held = held_grown xs e blocks top a.held;
      sized = length_pushed ends never ∙ ap suc sized ∙ sym (length_pushed a.starts (suc n));
      outermost = kept 0 0 a.outermost;
      bottom = get_kept stack (length ends ∷ []) 0 0 a.bottom;
      rising = rising_grown a.starts (suc n) a.rising
          (λ b x there. let le = within b x there in omega arith);
      begun = λ b x there. elim (pushed_cases a.starts (suc n) (suc b) x there) [
        | inl before ↦ begun_grown _ e _ (a.begun b x before)
        | inr (at_end, same) ↦ record { index = n; opening = e; next = sym same; there = get_pushed xs e; opened = opens }
      ];
      stacked = rising_grown stack (length ends) a.stacked (λ k b there.
          let h = a.on_stack k b there in
          let lt = slice_get_within a.starts b h.start h.there in omega arith);
      on_stack = λ k b there. elim (pushed_cases stack (length ends) k b there) [
        | inl before ↦ old k b before
        | inr (at_end, same) ↦
            on_stack_new xs e starts next k b (rw same at new_start) (omega arith)
      ];
      complete = λ index still. elim (cases_lt index n) [
        | inl lt ↦
            let (k, b, on, begins) = a.complete _ (open_before xs e _ still lt) in
            (k, b, get_kept stack (length ends ∷ []) k b on, kept b (suc index) begins)
        | inr ge ↦
            let (at_end, opened) = opened_last xs e _ still (λ lt. omega arith) in
            (length stack, length ends, get_pushed stack (length ends), new_start ∙ ap (λ m. Some (suc m)) (sym at_end))
      ];
      ended = ended_new _ _ e _ _ _ a (suc n);
      holders = holders_grown xs e _ _ blocks _ a.held kept a.holders
          (holder_new xs e starts top begins.start (kept top begins.start begins.there) (within top begins.start begins.there) still_open
          (λ outer before still.
          let (j, b, on, starting) = a.complete _ (open_before xs e _ still before) in
          innermost a.starts stack k top begins.start j b outer a.rising a.stacked size last begins.there on starting));
    }

-- the block that a `$}` closes is open no more
closed_by : (xs : List Sentence) (e : Sentence) (starts stack : List ℕ) (k b : ℕ) → (h : IsOnStack xs starts stack k b) → h.start ≤ length xs → length stack ≡ suc k → e.kind ≡ Closing
    → ¬ (IsUnclosed (xs ++ e ∷ []) h.start)
closed_by xs e starts stack k b h le size closes still =
    let x = h.start in
    let all' = rw (drop-append-le x xs (e ∷ []) le) at (unclosed_all (xs ++ e ∷ []) x still) in
    let o = openings_one e false (ap is_opening closes) in
    let c = closings_one e true (ap is_closing closes) in
    let os = openings-append (drop x xs) (e ∷ []) in
    let cs = closings-append (drop x xs) (e ∷ []) in
    omega arith

end_new : (xs : List Sentence) (e : Sentence) (x : ℕ) → IsUnclosed xs x → ¬ (IsUnclosed (xs ++ e ∷ []) x) → IsEnd (xs ++ e ∷ []) x (length xs)
end_new xs e x still not_after = record {
  within = let h = length_pushed xs e in omega arith;
  before = subst (λ ys. IsUnclosed ys x) (sym (take-append_seam xs (e ∷ []))) still;
  after = subst (λ ys. ¬ (IsUnclosed ys x)) (sym (all_taken xs e)) not_after;
}

pub scopes_closing : (never : ℕ) (xs : List Sentence) (e : Sentence) (blocks ends below : List ℕ) (k top under : ℕ) → AreScopes never xs blocks ends (below ++ top ∷ [])
    → length below ≡ suc k → slice_get below k ≡ Some under → e.kind ≡ Closing
    → AreScopes never (xs ++ e ∷ []) (blocks ++ under ∷ []) (set ends top (length xs)) below
scopes_closing never xs e blocks ends below k top under a size last closes =
    let n = length xs in
    let stack = below ++ top ∷ [] in
    let more = length_pushed below top in
    let same : AreKept a.starts a.starts = λ b x there. there in
    let o = openings_one e false (ap is_opening closes) in
    let c = closings_one e true (ap is_closing closes) in
    let within = start_within _ _ _ _ _ a in
    let up : (k b : ℕ) → slice_get below k ≡ Some b → slice_get stack k ≡ Some b = λ k b there. get_kept below (top ∷ []) k b there in
    let balance : open_marks (e ∷ []) + length stack ≡ close_marks (e ∷ []) + length below = omega arith in
    let grown : (k b : ℕ) → slice_get below k ≡ Some b → IsOnStack (xs ++ e ∷ []) a.starts below k b = λ k b there.
    let h = a.on_stack k b (up k b there) in
    on_stack_grown _ e _ _ _ below _ _ h (within b h.start h.there) same balance (slice_get_within below k b there) in
    let ending = a.on_stack (length below) top (get_pushed below top) in
    let ended = closed_by _ e _ _ _ _ ending (within top ending.start ending.there) more closes in
    let earlier : (outer : ℕ) → IsOpen (xs ++ e ∷ []) outer → IsOpen xs outer = λ outer still. elim (cases_lt outer n) [
      | inl lt ↦ open_before xs e _ still lt
      | inr ge ↦ absurd (let h = ap is_opening (opened_last xs e _ still (λ lt. omega arith)).1 in let g = ap is_opening closes in cc)
    ] in
    let complete : (index : ℕ) → IsOpen (xs ++ e ∷ []) index → (k : ℕ) × (b : ℕ) × (slice_get below k ≡ Some b) × (slice_get a.starts b ≡ Some (suc index)) = λ index still.
    let (k, b, on, begins) = a.complete _ (earlier index still) in
    elim (pushed_cases below top k b on) [
      | inl before ↦ (k, b, before, begins)
      | inr (at_end, is_top) ↦ absurd (ended (
          let start_is : suc index ≡ ending.start = cc in
          rw start_is at still.unclosed))
    ] in
    let holder = grown k under last in
    record {
      starts = a.starts;
      held = held_grown xs e blocks under a.held;
      sized = length-set ends top n ∙ a.sized;
      outermost = a.outermost;
      bottom = get_before below (top ∷ []) 0 0 (omega arith) a.bottom;
      rising = a.rising;
      begun = λ b x there. begun_grown _ e _ (a.begun b x there);
      stacked = λ j k b c at_j at_k lt. a.stacked j k b c (up j b at_j) (up k c at_k) lt;
      on_stack = grown;
      complete = complete;
      ended = λ b x c begins ends_at. elim (get_set_cases ends top b n c ends_at) [
        | inl (is_top, is_end) ↦
            let start_is : ending.start ≡ x = let there = ending.there in cc in
            inr (rw (← is_end) (rw start_is at (end_new xs e ending.start ending.unclosed ended)))
        | inr (apart, old) ↦ elim (a.ended b x c begins old) [
          | inl (is_never, k, on) ↦ elim (pushed_cases below top k b on) [
            | inl before ↦ inl (is_never, k, before)
            | inr (at_end, is_top) ↦ absurd (apart (sym is_top))
          ]
          | inr end ↦ inr (end_grown _ e _ _ end)
        ]
      ];
      holders = holders_grown xs e _ _ blocks _ a.held same a.holders
          (holder_new xs e a.starts under holder.start holder.there (within under holder.start holder.there) holder.unclosed
          (λ outer before still.
          let (j, b, on, begins) = complete outer still in
          innermost a.starts below k under holder.start j b outer a.rising (λ j k b c at_j at_k lt. a.stacked j k b c (up j b at_j) (up k c at_k) lt) size last holder.there on begins));
    }
