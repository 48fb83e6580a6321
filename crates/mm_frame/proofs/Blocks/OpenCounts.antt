-- The open blocks without numbers, and how many they are.
use Rattle.std.proofs.Common.{◌≡◌, ℕ, zero, suc, ◌+◌, ◌<◌, ◌≤◌, ◌⊎◌, inl, inr, Bool, true, false}
use Rattle.std.proofs.Common.{cond, take, List, [], ◌∷◌, refl, arith, ◌↔◌, ◌-◌, length, drop, ◌++◌}
use Rattle.std.proofs.Common.{Some, sym, ap, ◌∙◌, subst, slice_get, length-take-le}
use Rattle.mm_base.specs.declared.statement.Kind.{Kind}
use Rattle.mm_base.specs.declared.statement.Kind.TheVariants.{Opening, Closing}
use Rattle.mm_frame.specs.Sentence.{Sentence}
use Rattle.mm_frame.specs.Active.{open_marks, close_marks, IsOpen}
use Rattle.mm_base.specs.Blocks.{is_closing, is_opening}
use Rattle.mm_frame.proofs.Blocks.NumberedBlocks.{openings-append, closings-append, openings_one}
use Rattle.mm_frame.proofs.Blocks.NumberedBlocks.{closings_one, unclosed_pushed, unclosed_all}
use Rattle.mm_frame.proofs.Blocks.NumberedBlocks.{unclosed_new, open_in}
use Rattle.mm_frame.proofs.Blocks.NumberedBlocks.{length_pushed, open_before, opened_last}
use Rattle.mm_frame.proofs.Blocks.NumberedBlocks.{rising_grown}
use Rattle.std.proofs.lemmas.Bool.{cases_lt}
use Rattle.std.proofs.lemmas.Option.{slice_get_within}
use Rattle.std.proofs.lemmas.List.{drop-append-le, drop-drop}
use Rattle.mm_frame.specs.Laws.{AreOpen, OpenCount}
use Rattle.mm_base.proofs.Lists.{get_kept, get_pushed, get_in_front, get_dropped, split_at}
use Rattle.mm_base.proofs.Lists.{get_within, get_from_front, pushed_cases, take_next}
use Rattle.mm_base.proofs.Lists.{at_from_contains, contains_from_at}
use Rattle.mm_frame.proofs.Blocks.ActiveStatements.{open_stays}
use Rattle.std.proofs.Math.Seq.{take-length}

-- ==== where there are more `${` than `$}`, some block is open

-- the kinds, as far as blocks go
pub block_cases : (kind : Kind) → ((kind ≡ Opening) × (is_opening kind ≡ true) × (is_closing kind ≡ false))
    ⊎ ((kind ≡ Closing) × (is_opening kind ≡ false) × (is_closing kind ≡ true))
    ⊎ (¬ (kind ≡ Opening) × ¬ (kind ≡ Closing) × (is_opening kind ≡ false) × (is_closing kind ≡ false))
block_cases Opening = inl (refl, refl, refl)
block_cases Closing = inr (inl (refl, refl, refl))
block_cases kind = inr (inr ((λ e. absurd (cc)), (λ e. absurd (cc)), refl, refl))

-- no prefix has more `$}` than `${` and so many
abbrev PrefixesWithin : List Sentence → ℕ → Type 0
PrefixesWithin xs d = (n : ℕ) → close_marks (take n xs) ≤ open_marks (take n xs) + d

-- some block is open
abbrev SomeOpen : List Sentence → Type 0
SomeOpen xs = (p : ℕ) × IsOpen xs p

-- the counts of a list by its first element
counts : (x : Sentence) (xs : List Sentence) (o c : Bool) → is_opening x.kind ≡ o → is_closing x.kind ≡ c
    → (open_marks (x ∷ xs) ≡ cond o 1 0 + open_marks xs) × (close_marks (x ∷ xs) ≡ cond c 1 0 + close_marks xs)
counts x xs o c is_o is_c =
    let os = openings-append (x ∷ []) xs in
    let cs = closings-append (x ∷ []) xs in
    let o1 = openings_one x o is_o in
    let c1 = closings_one x c is_c in
    (omega arith, omega arith)

later : (x : Sentence) (xs : List Sentence) → SomeOpen xs → SomeOpen (x ∷ xs)
later x xs (p, still) = (suc p, record { opening = still.opening; there = still.there; opened = still.opened; unclosed = still.unclosed })

-- a prefix of a list by its first element
prefixes_step : (x : Sentence) (xs : List Sentence) (o c : Bool) (d k : ℕ) → is_opening x.kind ≡ o → is_closing x.kind ≡ c
    → cond c 1 0 + k ≤ cond o 1 0 + d → PrefixesWithin xs k → PrefixesWithin (x ∷ xs) d
prefixes_step x xs o c d k is_o is_c le within zero = omega arith
prefixes_step x xs o c d k is_o is_c le within (suc n) =
    let (os, cs) = counts x (take n xs) o c is_o is_c in
    omega arith

-- Either some block is open or no prefix has too many `$}`; and with more `${` than `$}` some block
-- is open.
surplus : (xs : List Sentence)
    → ((d : ℕ) → close_marks xs ≤ open_marks xs + d → SomeOpen xs ⊎ PrefixesWithin xs d) × (close_marks xs < open_marks xs → SomeOpen xs)
surplus [] = ((λ d le. inr (λ n. nothing d n)), (λ lt. absurd (omega arith)))
  where
    nothing : (d n : ℕ) → close_marks (take n []) ≤ open_marks (take n []) + d
    nothing d zero = omega arith
    nothing d (suc n) = omega arith
surplus (x ∷ xs) = elim (block_cases x.kind) [
  | inl (kind, is_o, is_c) ↦
      let (os, cs) = counts x xs true false is_o is_c in (
        (λ d le. elim ((surplus xs).0 (suc d) (omega arith)) [
          | inl some ↦ inl (later x xs some)
          | inr within ↦ inr (prefixes_step x xs true false d (suc d) is_o is_c (omega arith) within)
        ]),
        (λ lt. elim ((surplus xs).0 0 (omega arith)) [
          | inl some ↦ later x xs some
          | inr within ↦ (0, record { opening = x; there = refl; opened = kind; unclosed = λ n. let h = within n in omega arith })
        ]),
      )
  | inr (inl (kind, is_o, is_c)) ↦
      let (os, cs) = counts x xs false true is_o is_c in
      ((λ d le. closed x xs d is_o is_c (omega arith) (surplus xs)), (λ lt. later x xs ((surplus xs).1 (omega arith))))
  | inr (inr (not_o, not_c, is_o, is_c)) ↦
      let (os, cs) = counts x xs false false is_o is_c in (
        (λ d le. elim ((surplus xs).0 d (omega arith)) [
          | inl some ↦ inl (later x xs some)
          | inr within ↦ inr (prefixes_step x xs false false d d is_o is_c (omega arith) within)
        ]),
        (λ lt. later x xs ((surplus xs).1 (omega arith))),
      )
]
  where
    closed : (x : Sentence) (xs : List Sentence) (d : ℕ) → is_opening x.kind ≡ false → is_closing x.kind ≡ true → suc (close_marks xs) ≤ open_marks xs + d
        → ((d : ℕ) → close_marks xs ≤ open_marks xs + d → SomeOpen xs ⊎ PrefixesWithin xs d) × (close_marks xs < open_marks xs → SomeOpen xs)
        → SomeOpen (x ∷ xs) ⊎ PrefixesWithin (x ∷ xs) d
    closed x xs zero is_o is_c le (either, some) = inl (later x xs (some (omega arith)))
    closed x xs (suc d) is_o is_c le (either, some) = elim (either d (omega arith)) [
      | inl found ↦ inl (later x xs found)
      | inr within ↦ inr (prefixes_step x xs false true (suc d) d is_o is_c (omega arith) within)
    ]

pub some_open : (xs : List Sentence) → close_marks xs < open_marks xs → (p : ℕ) × IsOpen xs p
some_open xs lt = (surplus xs).1 lt

-- the innermost open block
pub record IsInnermostOpen (statements : List Sentence) (index : ℕ) : Type 0 where
  pub still : IsOpen statements index
  pub last : (other : ℕ) → IsOpen statements other → other ≤ index

-- ==== what one statement more opens and closes, by the innermost open block

-- the statement more is open exactly if it opens
open_last : (st : List Sentence) (e : Sentence) → e.kind ≡ Opening → IsOpen (st ++ e ∷ []) (length st)
open_last st e kind = record {
  opening = e;
  there = get_pushed st e;
  opened = kind;
  unclosed = unclosed_new (st ++ e ∷ []) (suc (length st)) (let h = length_pushed st e in omega arith);
}

pub opening_law : (st : List Sentence) (e : Sentence) (p : ℕ) → ¬ (e.kind ≡ Closing)
    → (IsOpen (st ++ e ∷ []) p ↔ (IsOpen st p ⊎ ((e.kind ≡ Opening) × (p ≡ length st))))
opening_law st e p other = (
  (λ still. elim (cases_lt p (length st)) [
    | inl lt ↦ inl (open_before st e p still lt)
    | inr ge ↦ let (last, kind) = opened_last st e p still (λ lt. omega arith) in inr (kind, last)
  ]),
  (λ either. elim either [
    | inl still ↦ open_stays st e p other still
    | inr (kind, last) ↦ subst (λ q. IsOpen (st ++ e ∷ []) q) (sym last) (open_last st e kind)
  ]),
)

-- the two parts of a list at an element of it
part_counts : (st : List Sentence) (m : ℕ) (x : Sentence) → slice_get st m ≡ Some x
    → (open_marks st ≡ open_marks (take m st) + (open_marks (x ∷ []) + open_marks (drop (suc m) st)))
    × (close_marks st ≡ close_marks (take m st) + (close_marks (x ∷ []) + close_marks (drop (suc m) st)))
part_counts st m x there =
    let whole = split_at st m x there in
    let rest = drop (suc m) st in (
      ap open_marks whole ∙ openings-append (take m st) (x ∷ rest)
          ∙ ap (λ n. open_marks (take m st) + n) (openings-append (x ∷ []) rest),
      ap close_marks whole ∙ closings-append (take m st) (x ∷ rest)
          ∙ ap (λ n. close_marks (take m st) + n) (closings-append (x ∷ []) rest),
    )

-- past an open block's `${` there is one `${` more than `$}` where another open block begins there
outer_counts : (st : List Sentence) (p m : ℕ) → p < m → IsOpen st p → IsOpen st m → close_marks (drop (suc p) st) + 1 ≤ open_marks (drop (suc p) st)
outer_counts st p m lt outer inner =
    let d = m - suc p in
    let e : suc p + d ≡ m = omega arith in
    let f : suc p + suc d ≡ suc m = omega arith in
    let there : slice_get (drop (suc p) st) d ≡ Some inner.opening = get_past (suc p) st d inner.opening (subst (λ k. slice_get st k ≡ Some inner.opening) (sym e) inner.there) in
    let (os, cs) = part_counts (drop (suc p) st) d inner.opening there in
    let rest : drop (suc d) (drop (suc p) st) ≡ drop (suc m) st = drop-drop (suc d) (suc p) st ∙ ap (λ k. drop k st) f in
    let all = subst (λ (ys : List Sentence). close_marks ys ≤ open_marks ys) (sym rest) (unclosed_all st (suc m) inner.unclosed) in
    let o1 = openings_one inner.opening true (ap is_opening inner.opened) in
    let c1 = closings_one inner.opening false (ap is_closing inner.opened) in
    omega arith
  where
    get_past : {X : Type 0} (n : ℕ) (xs : List X) (k : ℕ) (x : X) → slice_get xs (n + k) ≡ Some x → slice_get (drop n xs) k ≡ Some x
    get_past zero xs k x there = let e : 0 + k ≡ k = omega arith in subst (λ j. slice_get xs j ≡ Some x) e there
    get_past (suc n) [] k x there = absurd (cc)
    get_past (suc n) (y ∷ xs) k x there =
        let e : suc n + k ≡ suc (n + k) = omega arith in
        get_past n xs k x (subst (λ j. slice_get (y ∷ xs) j ≡ Some x) e there)

-- a block that is open inside what lies past an index is open
open_past : (st : List Sentence) (n k : ℕ) → IsOpen (drop n st) k → IsOpen st (n + k)
open_past st n k still =
    let e : n + suc k ≡ suc (n + k) = omega arith in
    open_in still (get_dropped n st k still.opening still.there) (rw (← e) (λ j.
    rw (drop-drop (suc k) n st) at (still.unclosed j)))

-- a `$}` closes the innermost block
innermost_closed : (st : List Sentence) (e : Sentence) (m : ℕ) → e.kind ≡ Closing → IsInnermostOpen st m → ¬ (IsOpen (st ++ e ∷ []) m)
innermost_closed st e m kind innermost still =
    let lt = slice_get_within st m innermost.still.opening innermost.still.there in
    let same : drop (suc m) (st ++ e ∷ []) ≡ drop (suc m) st ++ e ∷ [] = drop-append-le (suc m) st (e ∷ []) (omega arith) in
    let all = subst (λ (ys : List Sentence). close_marks ys ≤ open_marks ys) same (unclosed_all (st ++ e ∷ []) (suc m) still.unclosed) in
    let os = openings-append (drop (suc m) st) (e ∷ []) in
    let cs = closings-append (drop (suc m) st) (e ∷ []) in
    let o1 = openings_one e false (ap is_opening kind) in
    let c1 = closings_one e true (ap is_closing kind) in
    let (k, inner) = some_open (drop (suc m) st) (omega arith) in
    let le = innermost.last (suc m + k) (open_past st (suc m) k inner) in
    omega arith

pub closing_law : (st : List Sentence) (e : Sentence) (p m : ℕ) → e.kind ≡ Closing → IsInnermostOpen st m
    → (IsOpen (st ++ e ∷ []) p ↔ (IsOpen st p × p < m))
closing_law st e p m kind innermost = (
  (λ still. elim (cases_lt p (length st)) [
    | inl lt ↦
        let before = open_before st e p still lt in
        let le = innermost.last p before in (
          before,
          elim (cases_lt p m) [
            | inl less ↦ less
            | inr ge ↦ absurd (innermost_closed st e m kind innermost (let same : p ≡ m = omega arith in subst (λ q. IsOpen (st ++ e ∷ []) q) same still))
          ],
        )
    | inr ge ↦ absurd (let opens = (opened_last st e p still (λ lt. omega arith)).1 in let k = kind in cc)
  ]),
  (λ (before, lt). kept before lt),
)
  where
    kept : IsOpen st p → p < m → IsOpen (st ++ e ∷ []) p
    kept before lt =
        let within = slice_get_within st p before.opening before.there in
        let counts = outer_counts st p m lt before innermost.still in
        let os = openings-append (drop (suc p) st) (e ∷ []) in
        let cs = closings-append (drop (suc p) st) (e ∷ []) in
        let c1 = closings_one e true (ap is_closing kind) in
        open_in before (get_kept st (e ∷ []) p before.opening before.there)
        (unclosed_pushed st e (suc p) (omega arith) before.unclosed (omega arith))

-- ==== the indices of the open blocks, and how many they are

-- the open blocks, and as many of them as the counts say
abbrev Counted : List Sentence → Type 0
Counted st = (indices : List ℕ) × AreOpen st indices × (close_marks st + length indices ≡ open_marks st)

open_stay : (st : List Sentence) (e : Sentence) (indices : List ℕ) → ¬ (e.kind ≡ Closing) → ¬ (e.kind ≡ Opening) → AreOpen st indices → AreOpen (st ++ e ∷ []) indices
open_stay st e indices other ordinary a = record {
  rising = a.rising;
  each = λ p. (
    (λ still. elim ((opening_law st e p other).0 still) [
      | inl before ↦ (a.each p).0 before
      | inr (kind, last) ↦ absurd (ordinary kind)
    ]),
    (λ among. (opening_law st e p other).1 (inl ((a.each p).1 among))),
  );
}

open_more : (st : List Sentence) (e : Sentence) (indices : List ℕ) → ¬ (e.kind ≡ Closing) → e.kind ≡ Opening → AreOpen st indices
    → AreOpen (st ++ e ∷ []) (indices ++ length st ∷ [])
open_more st e indices other kind a = record {
  rising = rising_grown indices (length st) a.rising within;
  each = λ p. (
    (λ still. elim ((opening_law st e p other).0 still) [
      | inl before ↦
          let (i, at) = at_from_contains indices p ((a.each p).0 before) in
          contains_from_at (indices ++ length st ∷ []) p (i, get_kept indices (length st ∷ []) i p at)
      | inr (opens, last) ↦
          contains_from_at (indices ++ length st ∷ []) p (length indices, get_pushed indices (length st) ∙ ap (λ m. Some m) (sym last))
    ]),
    (λ among.
        let (i, at) = at_from_contains (indices ++ length st ∷ []) p among in
        (opening_law st e p other).1 (elim (pushed_cases indices (length st) i p at) [
          | inl before ↦ inl ((a.each p).1 (contains_from_at indices p (i, before)))
          | inr (last, same) ↦ inr (kind, sym same)
        ])),
  );
}
  where
    within : (i p : ℕ) → slice_get indices i ≡ Some p → p < length st
    within i p at = let still = (a.each p).1 (contains_from_at indices p (i, at)) in slice_get_within st p still.opening still.there

-- the last of the indices is that of the innermost block
last_innermost : (st : List Sentence) (indices : List ℕ) (k m : ℕ) → length indices ≡ suc k → slice_get indices k ≡ Some m → AreOpen st indices → IsInnermostOpen st m
last_innermost st indices k m size at a = record {
  still = (a.each m).1 (contains_from_at indices m (k, at));
  last = λ other still.
      let (i, at_i) = at_from_contains indices other ((a.each other).0 still) in
      let lt = slice_get_within indices i other at_i in
      elim (cases_lt i k) [
        | inl less ↦ (let h = a.rising i k other m at_i at less in omega arith)
        | inr ge ↦ (let same : i ≡ k = omega arith in let e : slice_get indices k ≡ Some other = subst (λ j. slice_get indices j ≡ Some other) same at_i in let eq : other ≡ m = cc in omega arith)
      ];
}

open_fewer : (st : List Sentence) (e : Sentence) (indices : List ℕ) (k m : ℕ) → e.kind ≡ Closing → length indices ≡ suc k → slice_get indices k ≡ Some m → AreOpen st indices
    → AreOpen (st ++ e ∷ []) (take k indices)
open_fewer st e indices k m kind size at a =
    let innermost = last_innermost st indices k m size at a in record {
      rising = λ i j p q at_i at_j lt. a.rising i j p q (get_from_front indices k i p at_i) (get_from_front indices k j q at_j) lt;
      each = λ p. (
        (λ still.
            let (before, lt) = (closing_law st e p m kind innermost).0 still in
            let (i, at_i) = at_from_contains indices p ((a.each p).0 before) in
            contains_from_at (take k indices) p (i, get_in_front indices k i p (earlier i p at_i lt) at_i)),
        (λ among.
            let (i, at_i) = at_from_contains (take k indices) p among in
            let there = get_from_front indices k i p at_i in
            let lt = slice_get_within (take k indices) i p at_i in
            let few = length-take-le k indices (omega arith) in
            let less = a.rising i k p m there at (omega arith) in
            (closing_law st e p m kind innermost).1 ((a.each p).1 (contains_from_at indices p (i, there)), less)),
      );
    }
  where
    earlier : (i p : ℕ) → slice_get indices i ≡ Some p → p < m → i < k
    earlier i p at_i lt = elim (cases_lt i k) [
      | inl less ↦ less
      | inr ge ↦
          let h = slice_get_within indices i p at_i in
          let same : i ≡ k = omega arith in
          let e : slice_get indices k ≡ Some p = subst (λ j. slice_get indices j ≡ Some p) same at_i in
          let eq : p ≡ m = cc in
          absurd (omega arith)
    ]

counted_push : (st : List Sentence) (e : Sentence) → close_marks (st ++ e ∷ []) ≤ open_marks (st ++ e ∷ []) → Counted st → Counted (st ++ e ∷ [])
counted_push st e le (indices, a, count) =
    let os = openings-append st (e ∷ []) in
    let cs = closings-append st (e ∷ []) in
    elim (block_cases e.kind) [
      | inl (kind, is_o, is_c) ↦
          let o1 = openings_one e true is_o in
          let c1 = closings_one e false is_c in
          let h = length_pushed indices (length st) in
          (indices ++ length st ∷ [], open_more st e indices (λ closing. absurd (cc)) kind a, omega arith)
      | inr (inl (kind, is_o, is_c)) ↦
          let o1 = openings_one e false is_o in
          let c1 = closings_one e true is_c in
          let k = length indices - 1 in
          let size : length indices ≡ suc k = omega arith in
          let (m, at) = get_within indices k (omega arith) in
          let h = length-take-le k indices (omega arith) in
          (take k indices, open_fewer st e indices k m kind size at a, omega arith)
      | inr (inr (not_o, not_c, is_o, is_c)) ↦
          let o1 = openings_one e false is_o in
          let c1 = closings_one e false is_c in
          (indices, open_stay st e indices not_c not_o a, omega arith)
    ]

none_open : Counted []
none_open = (
  [],
  record {
    rising = λ i j p q at_i at_j lt. absurd (cc);
    each = λ p. ((λ still. absurd (let there = still.there in cc)), (λ among. absurd (let at = (at_from_contains [] p among).1 in cc)));
  },
  omega arith,
)

counted_prefix : (st : List Sentence) → ((n : ℕ) → close_marks (take n st) ≤ open_marks (take n st)) → (n : ℕ) → n ≤ length st → Counted (take n st)
counted_prefix st enough zero le = none_open
counted_prefix st enough (suc n) le =
    let (e, there) = get_within st n (omega arith) in
    let next : take (suc n) st ≡ take n st ++ e ∷ [] = take_next st n e there in
    let h = subst (λ (ys : List Sentence). close_marks ys ≤ open_marks ys) next (enough (suc n)) in
    subst (λ ys. Counted ys) (sym next) (counted_push (take n st) e h (counted_prefix st enough n (omega arith)))

pub open_count_holds : OpenCount
open_count_holds st enough = subst (λ ys. Counted ys) (take-length st) (counted_prefix st enough (length st) (omega arith))
