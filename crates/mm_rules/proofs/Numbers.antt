-- Numbers of labels: in the order of the database, put in order each once, as ranges of one list,
-- and the labels that they stand for.
use Rattle.std.proofs.Common.{◌≡◌, ◌↔◌, ℕ, ◌<◌, List, [], ◌∷◌, ◌++◌, length, Contains, ◌⊎◌, inl}
use Rattle.std.proofs.Common.{inr, sym, subst, arith, zero, suc, slice_get, Bool, true, false, Some}
use Rattle.std.proofs.Common.{⊎_elim, refl, ◌∙◌, get_or, ap, map, filter, count_by, is_some, cond}
use Rattle.std.proofs.Common.{Option, None}
use Rattle.std.proofs.lemmas.List.Elements.{Contains-append_left}
use Rattle.std.proofs.lemmas.Option.{slice_get_within, same_Some, none-some, get_or_from_slice_get}
use Rattle.mm_base.proofs.Lists.{get_pushed, pushed_cases, at_from_contains, contains_from_at}
use Rattle.mm_base.proofs.Lists.{get_kept, get_within}
use Rattle.mm_rules.specs.Rests.{AreRising, AreInOrder}
use Rattle.std.specs.Prelude.{if◌then◌else◌, nat_lt}
use Rattle.std.proofs.lemmas.Bool.Decides.{nat_tests}
use Rattle.mm_frame.specs.Sentence.{Sentence}
use Rattle.mm_step.specs.Tree.{Trees}
use Rattle.mm_proof.specs.Used.{AreUsedNumbers, AreUsed}
use Rattle.mm_rules.specs.Mirror.Ordered.{put, ordered}
use Rattle.std.specs.List.{slice_range, flat_map, AllByRecursion}
use Rattle.std.proofs.lemmas.List.{map-append}
use Rattle.mm_frame.specs.declared.number.LabelId.{LabelId}
use Rattle.mm_frame.proofs.BookLists.GrownLists.{slice_left}
use Rattle.mm_frame.proofs.Names.NameNumbers.{get_unmapped}
use Rattle.mm_step.proofs.StoreRanges.{part-new}
use Rattle.mm_rules.specs.declared.kept.KeptProof.{KeptProof}
use Rattle.mm_rules.specs.Conclusion.{ProofUses}
use Rattle.mm_rules.specs.Mirror.Ranges.{uses_at, uses_in, AreRangesWithin}
use Rattle.mm_step.specs.Plain.{ids_in}
use Rattle.std.specs.Option.{option_to_list}

-- ==== numbers in the order of the database

-- the last of a list is in it, and so are those before it; nothing else is
pub holds_last : {X : Type 0} (xs : List X) (x : X) → Contains (xs ++ x ∷ []) x
holds_last xs x = contains_from_at (xs ++ x ∷ []) x (length xs, get_pushed xs x)

pub holds_cases : {X : Type 0} (xs : List X) (x y : X) → Contains (xs ++ x ∷ []) y → Contains xs y ⊎ (y ≡ x)
holds_cases xs x y h =
    let at = at_from_contains (xs ++ x ∷ []) y h in
    elim (pushed_cases xs x at.0 y at.1) [
      | inl before ↦ inl (contains_from_at xs y (at.0, before))
      | inr last ↦ inr (sym last.1)
    ]

-- one more number, which is greater than all
pub rising_push : (ids : List ℕ) (x : ℕ) → AreRising ids → ((n : ℕ) → Contains ids n → n < x) → AreRising (ids ++ x ∷ [])
rising_push ids x rising less i j a b lt at_i at_j = elim (pushed_cases ids x i a at_i) [
  | inl first ↦ elim (pushed_cases ids x j b at_j) [
    | inl second ↦ rising i j a b lt first second
    | inr last ↦ subst (λ (n : ℕ). a < n) last.1 (less a (contains_from_at ids a (i, first)))
  ]
  | inr end ↦ elim (pushed_cases ids x j b at_j) [
    | inl second ↦ absurd (let within : j < length ids = slice_get_within ids j b second in let here : i ≡ length ids = end.0 in omega arith)
    | inr last ↦ absurd (let here : i ≡ length ids = end.0 in let there : j ≡ length ids = last.0 in omega arith)
  ]
]

pub in_order_push : (P Q : ℕ → Type 0) (ids : List ℕ) (x : ℕ) → AreInOrder P ids → ((n : ℕ) → P n → n < x)
    → ((n : ℕ) → Q n ↔ (P n ⊎ (n ≡ x))) → AreInOrder Q (ids ++ x ∷ [])
in_order_push P Q ids x order less same = record {
  rising = rising_push ids x order.rising (λ n h. less n ((order.each n).0 h));
  each = λ n. (
    (λ h. elim (holds_cases ids x n h) [
      | inl before ↦ (same n).1 (inl ((order.each n).0 before))
      | inr last ↦ (same n).1 (inr last)
    ]),
    λ q. elim ((same n).0 q) [
      | inl p ↦ Contains-append_left ids (x ∷ []) n ((order.each n).1 p)
      | inr last ↦ subst (λ (m : ℕ). Contains (ids ++ x ∷ []) m) (sym last) (holds_last ids x)
    ],
  );
}

pub in_order_same : (P Q : ℕ → Type 0) (ids : List ℕ) → AreInOrder P ids → ((n : ℕ) → P n ↔ Q n) → AreInOrder Q ids
in_order_same P Q ids order same = record {
  rising = order.rising;
  each = λ n. ((λ h. (same n).0 ((order.each n).0 h)), λ q. (order.each n).1 ((same n).1 q));
}

-- ==== numbers put in order

-- ---- what is in a list

pub holds_cons : (m : ℕ) (rest : List ℕ) (n : ℕ) → Contains (m ∷ rest) n → (m ≡ n) ⊎ Contains rest n
holds_cons m rest n h = let at = at_from_contains (m ∷ rest) n h in go at.0 at.1
  where
    go : (i : ℕ) → slice_get (m ∷ rest) i ≡ Some n → (m ≡ n) ⊎ Contains rest n
    go zero e = inl (same_Some m n e)
    go (suc i) e = inr (contains_from_at rest n (i, e))

pub holds_first : (m : ℕ) (rest : List ℕ) → Contains (m ∷ rest) m
holds_first m rest = contains_from_at (m ∷ rest) m (0, refl)

pub holds_later : (m : ℕ) (rest : List ℕ) (n : ℕ) → Contains rest n → Contains (m ∷ rest) n
holds_later m rest n h = let at = at_from_contains rest n h in contains_from_at (m ∷ rest) n (suc at.0, at.1)

-- ---- the same numbers

put_holds : (x : ℕ) (ms : List ℕ) (n : ℕ) → Contains (put x ms) n ↔ ((x ≡ n) ⊎ Contains ms n)
put_holds x [] n = (holds_cons x [] n, λ h. ⊎_elim (λ same. subst (Contains (x ∷ [])) same (holds_first x [])) (λ c. holds_later x [] n c) h)
put_holds x (m ∷ ms) n = go (put_holds x ms n) (nat_lt x m) refl (nat_lt m x) refl
  where
    go : (Contains (put x ms) n ↔ ((x ≡ n) ⊎ Contains ms n)) → (a : Bool) → nat_lt x m ≡ a → (b : Bool) → nat_lt m x ≡ b
        → Contains (if a then (x ∷ m ∷ ms) else (m ∷ (if b then put x ms else ms))) n ↔ ((x ≡ n) ⊎ Contains (m ∷ ms) n)
    go more true e b f = (holds_cons x (m ∷ ms) n, λ h. ⊎_elim (λ same. subst (Contains (x ∷ m ∷ ms)) same (holds_first x (m ∷ ms))) (λ c. holds_later x (m ∷ ms) n c) h)
    go more false e true f = (
      (λ h. ⊎_elim (λ same. inr (subst (Contains (m ∷ ms)) same (holds_first m ms)))
          (λ c. ⊎_elim (λ own. inl own) (λ old. inr (holds_later m ms n old)) (more.0 c)) (holds_cons m (put x ms) n h)),
      λ h. ⊎_elim (λ own. holds_later m (put x ms) n (more.1 (inl own)))
          (λ c. ⊎_elim (λ same. subst (Contains (m ∷ put x ms)) same (holds_first m (put x ms))) (λ old. holds_later m (put x ms) n (more.1 (inr old))) (holds_cons m ms n c)) h,
    )
    go more false e false f = (
      (λ h. inr h),
      λ h. ⊎_elim (λ own. let same : m ≡ x = grind (arith, nat_tests) in subst (Contains (m ∷ ms)) (same ∙ own) (holds_first m ms)) (λ c. c) h,
    )

pub ordered_holds : (ns : List ℕ) (n : ℕ) → Contains (ordered ns) n ↔ Contains ns n
ordered_holds [] n = ((λ h. h), λ h. h)
ordered_holds (x ∷ ns) n = (
  (λ h. ⊎_elim (λ own. subst (Contains (x ∷ ns)) own (holds_first x ns)) (λ c. holds_later x ns n ((ordered_holds ns n).0 c)) ((put_holds x (ordered ns) n).0 h)),
  λ h. (put_holds x (ordered ns) n).1 (⊎_elim (λ own. inl own) (λ c. inr ((ordered_holds ns n).1 c)) (holds_cons x ns n h)),
)

-- ---- they rise

-- the number is less than each of these
abbrev pub Above : ℕ → List ℕ → Type 0
Above x ms = (n : ℕ) → Contains ms n → x < n

rising_cons : (x : ℕ) (ms : List ℕ) → Above x ms → AreRising ms → AreRising (x ∷ ms)
rising_cons x ms above rising i zero a b less p q = absurd (omega arith)
rising_cons x ms above rising zero (suc j) a b less p q = subst (λ k. k < b) (same_Some x a p) (above b (contains_from_at ms b (j, q)))
rising_cons x ms above rising (suc i) (suc j) a b less p q = rising i j a b (omega arith) p q

pub rising_tail : (x : ℕ) (ms : List ℕ) → AreRising (x ∷ ms) → AreRising ms
rising_tail x ms rising i j a b less p q = rising (suc i) (suc j) a b (omega arith) p q

pub rising_above : (x : ℕ) (ms : List ℕ) → AreRising (x ∷ ms) → Above x ms
rising_above x ms rising n h = let at = at_from_contains ms n h in rising 0 (suc at.0) x n (omega arith) refl at.1

put_rises : (x : ℕ) (ms : List ℕ) → AreRising ms → AreRising (put x ms)
put_rises x [] rising = rising_cons x [] (λ n h. let at = at_from_contains [] n h in absurd (none-some n at.1)) rising
put_rises x (m ∷ ms) rising = go (put_rises x ms (rising_tail m ms rising)) (nat_lt x m) refl (nat_lt m x) refl
  where
    go : AreRising (put x ms) → (a : Bool) → nat_lt x m ≡ a → (b : Bool) → nat_lt m x ≡ b → AreRising (if a then (x ∷ m ∷ ms) else (m ∷ (if b then put x ms else ms)))
    go more true e b f =
        let less : x < m = grind (arith, nat_tests) in
        rising_cons x (m ∷ ms) (λ n h. ⊎_elim (λ same. subst (λ k. x < k) same less) (λ c. let next = rising_above m ms rising n c in omega (arith, less, next)) (holds_cons m ms n h)) rising
    go more false e true f =
        let less : m < x = grind (arith, nat_tests) in
        rising_cons m (put x ms) (λ n h. ⊎_elim (λ own. subst (λ k. m < k) own less) (λ c. rising_above m ms rising n c) ((put_holds x ms n).0 h)) more
    go more false e false f = rising

pub ordered_rises : (ns : List ℕ) → AreRising (ordered ns)
ordered_rises [] = λ i j a b less p q. absurd (none-some a p)
ordered_rises (x ∷ ns) = put_rises x (ordered ns) (ordered_rises ns)

-- so the assertions that a tree uses are given each once, in database order
pub ordered_used : (statements : List Sentence) (trees : Trees) (ns : List ℕ) → AreUsedNumbers statements trees ns → AreUsed statements trees (ordered ns)
ordered_used statements trees ns all = record {
  rising = ordered_rises ns;
  each = λ n. ((λ h. (all n).0 ((ordered_holds ns n).0 h)), λ used. (ordered_holds ns n).1 ((all n).1 used));
}

-- ==== lists of numbers that stand as ranges in one list

uses_grow : (xs ys : List LabelId) (proofs : List KeptProof) → AreRangesWithin (length xs) proofs → uses_in (xs ++ ys) proofs ≡ uses_in xs proofs
uses_grow xs ys [] h = refl
uses_grow xs ys (p ∷ proofs) h =
    let range = slice_left xs ys p.start p.end (h 0 p refl).order (h 0 p refl).within in
    let first : uses_at (xs ++ ys) p ≡ uses_at xs p = ap (λ (ls : List LabelId). record { number = p.id.0; used = ordered (ids_in ls) }) range in
    let others : uses_in (xs ++ ys) proofs ≡ uses_in xs proofs = uses_grow xs ys proofs (λ i q at. h (suc i) q at) in
    cc

pub uses_push : (xs ys : List LabelId) (proofs : List KeptProof) (p : KeptProof) → AreRangesWithin (length xs) proofs
    → p.start ≡ length xs → p.end ≡ length (xs ++ ys)
    → uses_in (xs ++ ys) (proofs ++ p ∷ []) ≡ uses_in xs proofs ++ record { number = p.id.0; used = ordered (ids_in ys) } ∷ []
uses_push xs ys proofs p h from to =
    let whole = map-append (uses_at (xs ++ ys)) proofs (p ∷ []) in
    let range : slice_range (xs ++ ys) p.start p.end ≡ ys = ap (λ (n : ℕ). slice_range (xs ++ ys) n p.end) from ∙ part-new xs ys p.end to in
    let last : uses_at (xs ++ ys) p ≡ record { number = p.id.0; used = ordered (ids_in ys) } =
    ap (λ (ls : List LabelId). record { number = p.id.0; used = ordered (ids_in ls) }) range in
    whole ∙ ap (λ (us : List ProofUses). us ++ uses_at (xs ++ ys) p ∷ []) (uses_grow xs ys proofs h)
    ∙ ap (λ (u : ProofUses). uses_in xs proofs ++ u ∷ []) last

-- its range holds the same numbers
pub uses_there : (labels held : List LabelId) (proofs : List KeptProof) (at : ℕ) (p : KeptProof) (kept : List ProofUses) (u : ProofUses) → uses_in labels proofs ≡ kept → held ≡ labels
    → p ≡ get_or proofs at p → slice_get kept at ≡ Some u → (n : ℕ) → Contains (ids_in (slice_range held p.start p.end)) n ↔ Contains u.used n
uses_there labels held proofs at p kept u view same is there n =
    let found = get_unmapped (uses_at labels) proofs at u
    (subst (λ (us : List ProofUses). slice_get us at ≡ Some u) (sym view) there) in
    let one : p ≡ found.0 = is ∙ get_or_from_slice_get proofs at found.0 p found.1 in
    let range : List LabelId → List ℕ = λ ls. ids_in (slice_range ls p.start p.end) in
    let used : ordered (range labels) ≡ u.used =
    ap (λ (q : KeptProof). ordered (ids_in (slice_range labels q.start q.end))) one ∙ ap (λ (v : ProofUses). v.used) found.2 in
    let both = ordered_holds (range labels) n in (
      (λ h. subst (λ (ns : List ℕ). Contains ns n) used (both.1 (subst (λ (ls : List LabelId). Contains (range ls) n) same h))),
      λ h. subst (λ (ls : List LabelId). Contains (range ls) n) (sym same) (both.0 (subst (λ (ns : List ℕ). Contains ns n) (sym used) h)),
    )

-- ==== labels by numbers

-- names with these numbers have them among more names too
pub named_more : (names more : List (List ℕ)) (ns : List ℕ) (xs : List (List ℕ)) → map (slice_get names) ns ≡ map Some xs
    → map (slice_get (names ++ more)) ns ≡ map Some xs
named_more names more [] [] e = refl
named_more names more (n ∷ ns) (x ∷ xs) e =
    cc (get_kept names more n x (cc), named_more names more ns xs (cc))
named_more names more _ _ e = absurd cc

-- the names at numbers that have names
pub names_at : (names : List (List ℕ)) (ns : List ℕ) (xs : List (List ℕ)) → map (slice_get names) ns ≡ map Some xs
    → flat_map (λ n. option_to_list (slice_get names n)) ns ≡ xs
names_at names [] [] e = refl
names_at names (n ∷ ns) (x ∷ xs) e =
    let first : slice_get names n ≡ Some x = cc in
    ap (λ (o : Option (List ℕ)). option_to_list o ++ flat_map (λ (m : ℕ). option_to_list (slice_get names m)) ns) first
    ∙ ap (λ (ys : List (List ℕ)). x ∷ ys) (names_at names ns xs (cc))
names_at names _ _ e = absurd cc

-- numbers that have names are below the names' count
pub numbers_within : (names : List (List ℕ)) (ns : List ℕ) (xs : List (List ℕ)) → map (slice_get names) ns ≡ map Some xs
    → AllByRecursion (λ n. n < length names) ns
numbers_within names [] [] e = tt
numbers_within names (n ∷ ns) (x ∷ xs) e =
    (slice_get_within names n x (cc), numbers_within names ns xs (cc))
numbers_within names _ _ e = absurd cc

-- one element counts where the test holds
pub count_by-one : {X : Type 0} (p : X → Bool) (x : X) → count_by p (x ∷ []) ≡ cond (p x) 1 0
count_by-one p x = omega arith

-- as many labelled as labels
one_labelled : {S : Type 0} (o : Option (List ℕ)) (s : S) (rest : List S) (names : List (List ℕ)) → length rest ≡ length names
    → length (cond (is_some o) (s ∷ rest) rest) ≡ length (option_to_list o ++ names)
one_labelled None s rest names h = h
one_labelled (Some l) s rest names h = ap suc h

pub count_labelled : {S : Type 0} (label : S → Option (List ℕ)) (ss : List S)
    → length (filter (λ s. is_some (label s)) ss) ≡ length (flat_map (λ s. option_to_list (label s)) ss)
count_labelled label [] = refl
count_labelled label (s ∷ ss) =
    one_labelled (label s) s (filter (λ s. is_some (label s)) ss) (flat_map (λ s. option_to_list (label s)) ss) (count_labelled label ss)

-- the label of the labelled statement at a number, where the first statement's label is this
label_first : {S : Type 0} (label : S → Option (List ℕ)) (t s : S) (l : List ℕ) (rest : List S) (names : List (List ℕ))
    → ((k : ℕ) → slice_get rest k ≡ Some s → slice_get names k ≡ Some l) → label s ≡ Some l
    → (o : Option (List ℕ)) → label t ≡ o → (k : ℕ) → slice_get (cond (is_some o) (t ∷ rest) rest) k ≡ Some s
    → slice_get (option_to_list o ++ names) k ≡ Some l
label_first label t s l rest names later h None same k e = later k e
label_first label t s l rest names later h (Some m) same zero e = let t_is : t ≡ s = cc in cc (ap label t_is, same, h)
label_first label t s l rest names later h (Some m) same (suc k) e = later k e

-- the label of the labelled statement at a number
pub label_at : {S : Type 0} (label : S → Option (List ℕ)) (ss : List S) (n : ℕ) (s : S) (l : List ℕ)
    → slice_get (filter (λ s. is_some (label s)) ss) n ≡ Some s → label s ≡ Some l
    → slice_get (flat_map (λ s. option_to_list (label s)) ss) n ≡ Some l
label_at label [] n s l e h = absurd cc
label_at label (t ∷ ss) n s l e h =
    label_first label t s l (filter (λ s. is_some (label s)) ss) (flat_map (λ s. option_to_list (label s)) ss)
    (λ k f. label_at label ss k s l f h) h (label t) refl n e

-- the label of the labelled statement at a number, as one that looks it up tells it
pub label_named : {S : Type 0} (label : S → Option (List ℕ)) (ss : List S) (n : ℕ) (l : List ℕ)
    → n < length (filter (λ s. is_some (label s)) ss)
    → ((s : S) → slice_get (filter (λ s. is_some (label s)) ss) n ≡ Some s → label s ≡ Some l)
    → slice_get (flat_map (λ s. option_to_list (label s)) ss) n ≡ Some l
label_named label ss n l less told =
    let there = get_within (filter (λ s. is_some (label s)) ss) n less in
    label_at label ss n there.0 l there.1 (told there.0 there.1)

-- what holds of each of some numbers holds of the one at an index
pub all_at : {I : Type 0} (number : I → ℕ) (P : ℕ → Type 0) (is : List I) (k : ℕ) (d : I) → AllByRecursion P (map number is) → k < length is
    → P (number (get_or is k d))
all_at number P [] k d all less = absurd (omega arith)
all_at number P (i ∷ is) zero d all less = all.0
all_at number P (i ∷ is) (suc k) d all less = all_at number P is k d all.1 (omega arith)
