-- The numbers whose indices are in a row, word by word, and whether a theorem rests on no further
-- ones.
use Rattle.std.proofs.Common.{◌≡◌, ◌↔◌, ℕ, ◌+◌, ◌*◌, ◌/◌, ◌<◌, ◌≤◌, List, ◌++◌, take, length}
use Rattle.std.proofs.Common.{slice_get, Contains, true, Some, None, Option, inl, inr, refl}
use Rattle.std.proofs.Common.{sym, ap, subst, ◌∙◌, arith, append-nil}
use Rattle.std.specs.Option.{option_to_list}
use Rattle.std.proofs.lemmas.Bool.{cases_eq, cases_lt}
use Rattle.std.proofs.lemmas.List.{map-append}
use Rattle.std.proofs.lemmas.Option.{slice_get_within, same_Some}
use Rattle.mm_base.proofs.Lists.{at_from_contains, contains_from_at, get_from_take, get_in_front}
use Rattle.mm_frame.specs.declared.number.LabelId.{LabelId}
use Rattle.mm_frame.proofs.Names.NameNumbers.{get_mapped, get_unmapped}
use Rattle.mm_step.specs.Plain.{ids_in}
use Rattle.mm_rules.specs.Rests.{AreRising, AreInOrder, RestsOn}
use Rattle.mm_rules.specs.Conclusion.{ProofUses}
use Rattle.mm_rules.specs.Mirror.Marks.{UsedIn}
use Rattle.mm_rules.proofs.Numbers.{in_order_same}
use Rattle.mm_axioms.specs.declared.bits.SetWord.{SetWord}
use Rattle.mm_axioms.specs.Mirror.Bits.{is_bit_of, has_number, IsRow}
use Rattle.mm_axioms.specs.Mirror.Rows.{PlainRows, row_in, ReachedBefore}
use Rattle.mm_axioms.specs.Mirror.Shortening.{RestsNoFurther}
use Rattle.mm_axioms.specs.Mirror.Tables.{TellRests}
use Rattle.mm_axioms.proofs.WordSets.{bit_parts, word_of, number_of, one_word}
use Rattle.mm_rules.proofs.OrderedNumbers.{taken}

-- ==== the numbers of one word

-- the word of a number tells whether the row has it
pub number_here : (row : List SetWord) (w : SetWord) (n : ℕ) → IsRow row → Contains row w
    → w.index ≡ n / 64 → has_number row n ≡ true → is_bit_of w n ≡ true
number_here row w n h among index holds =
    let (v, there, bit) = word_of row n holds in
    let one : v ≡ w = one_word row v w h there among (((bit_parts v n).0 bit).0 ∙ sym index) in
    subst (λ (u : SetWord). is_bit_of u n ≡ true) one bit

reached_passed : (numbers : List ℕ) (row : List SetWord) (k : ℕ) (ids : List ℕ)
    → AreInOrder (ReachedBefore numbers row k) ids
    → ((n : ℕ) → slice_get numbers k ≡ Some n → ¬ (has_number row k ≡ true))
    → AreInOrder (ReachedBefore numbers row (k + 1)) ids
reached_passed numbers row k ids order none =
    in_order_same (ReachedBefore numbers row k) (ReachedBefore numbers row (k + 1)) ids order
    (λ n. (
      (λ (c, less, there, has). (c, omega arith, there, has)),
      λ (c, less, there, has). elim (cases_eq c k) [
        | inl same ↦ absurd
            (none n (subst (λ (i : ℕ). slice_get numbers i ≡ Some n) same there)
            (subst (λ (i : ℕ). has_number row i ≡ true) same has))
        | inr other ↦ (c, omega arith, there, has)
      ],
    ))

-- the number with the next index, which the row has, was put at the end
reached_taken : (labels : List LabelId) (row : List SetWord) (k : ℕ) (ids new : List LabelId)
    (o : Option LabelId) → AreRising (ids_in labels)
    → AreInOrder (ReachedBefore (ids_in labels) row k) (ids_in ids)
    → slice_get labels k ≡ o → has_number row k ≡ true → new ≡ ids ++ option_to_list o
    → AreInOrder (ReachedBefore (ids_in labels) row (k + 1)) (ids_in new)
reached_taken labels row k ids new None rising order at holds e =
    subst (λ (xs : List LabelId). AreInOrder (ReachedBefore (ids_in labels) row (k + 1))
    (ids_in xs)) (sym (e ∙ append-nil ids))
    (reached_passed (ids_in labels) row k (ids_in ids) order
    (λ n there has. let (x, here, same) = get_unmapped (λ (l : LabelId). l.0) labels k n there in
    absurd cc))
reached_taken labels row k ids new (Some x) rising order at holds e =
    let numbers : List ℕ = ids_in labels in
    let number : slice_get numbers k ≡ Some x.0 = get_mapped (λ (l : LabelId). l.0) labels k x at in
    rw (e, map-append)
    (taken (ReachedBefore numbers row k) (ReachedBefore numbers row (k + 1)) (ids_in ids) x.0 order
    (λ n (c, less, there, has). rising c k n x.0 less there number)
    (k, omega arith, number, holds)
    (λ n (c, less, there, has). (c, omega arith, there, has))
    (λ n (c, less, there, has). elim (cases_eq c k) [
      | inl same ↦ inr (let one : slice_get numbers k ≡ Some n = subst
          (λ (i : ℕ). slice_get numbers i ≡ Some n) same there in cc)
      | inr other ↦ inl (c, omega arith, there, has)
    ]))

-- the numbers of the bits of a word so far
pub record AreToldTo (labels : List LabelId) (word : SetWord) (old new : List LabelId)
    (bit : ℕ) : Type 0 where
  pub told : (row : List SetWord) → IsRow row → Contains row word
      → AreInOrder (ReachedBefore (ids_in labels) row (word.index * 64)) (ids_in old)
      → AreInOrder (ReachedBefore (ids_in labels) row (word.index * 64 + bit)) (ids_in new)

pub told_none : (labels : List LabelId) (word : SetWord) (old : List LabelId)
    → AreToldTo labels word old old 0
told_none labels word old = record {
  told = λ row h among order. subst
      (λ (k : ℕ). AreInOrder (ReachedBefore (ids_in labels) row k) (ids_in old))
      (let e : word.index * 64 ≡ word.index * 64 + 0 = omega arith in e) order;
}

pub told_more : (labels : List LabelId) (word : SetWord) (old new next : List LabelId) (bit : ℕ)
    → AreRising (ids_in labels) → AreToldTo labels word old new bit
    → is_bit_of word (word.index * 64 + bit) ≡ true
    → next ≡ new ++ option_to_list (slice_get labels (word.index * 64 + bit))
    → AreToldTo labels word old next (bit + 1)
told_more labels word old new next bit rising h has e = record {
  told = λ row r among order.
      subst (λ (k : ℕ). AreInOrder (ReachedBefore (ids_in labels) row k) (ids_in next))
      (let e : word.index * 64 + bit + 1 ≡ word.index * 64 + (bit + 1) = omega arith in e)
      (reached_taken labels row (word.index * 64 + bit) new next
      (slice_get labels (word.index * 64 + bit)) rising (h.told row r among order) refl
      (number_of row word (word.index * 64 + bit) among has) e);
}

pub told_passed : (labels : List LabelId) (word : SetWord) (old new : List LabelId) (bit : ℕ)
    → bit < 64 → AreToldTo labels word old new bit
    → ¬ (is_bit_of word (word.index * 64 + bit) ≡ true) → AreToldTo labels word old new (bit + 1)
told_passed labels word old new bit less h none = record {
  told = λ row r among order.
      subst (λ (k : ℕ). AreInOrder (ReachedBefore (ids_in labels) row k) (ids_in new))
      (let e : word.index * 64 + bit + 1 ≡ word.index * 64 + (bit + 1) = omega arith in e)
      (reached_passed (ids_in labels) row (word.index * 64 + bit) (ids_in new)
      (h.told row r among order)
      (λ n there has. none
      (number_here row word (word.index * 64 + bit) r among
      (let q : word.index ≡ (word.index * 64 + bit) / 64 = omega arith in q) has)));
}

pub told_all : (labels : List LabelId) (word : SetWord) (old new : List LabelId) (bit : ℕ)
    → 64 ≡ bit → AreToldTo labels word old new bit
    → (row : List SetWord) → IsRow row → Contains row word
    → AreInOrder (ReachedBefore (ids_in labels) row (word.index * 64)) (ids_in old)
    → AreInOrder (ReachedBefore (ids_in labels) row ((word.index + 1) * 64)) (ids_in new)
told_all labels word old new bit all h row r among order =
    subst (λ (k : ℕ). AreInOrder (ReachedBefore (ids_in labels) row k) (ids_in new))
    (let e : word.index * 64 + bit ≡ (word.index + 1) * 64 = omega arith in e)
    (h.told row r among order)

-- ==== the numbers of the words so far

-- the words before an index are those of the numbers before an end
row_up_to : (row : List SetWord) (k m : ℕ)
    → ((i : ℕ) (v : SetWord) → slice_get row i ≡ Some v → (i < k) ↔ (v.index < m))
    → (c : ℕ) → has_number (take k row) c ≡ true ↔ ((c < m * 64) × (has_number row c ≡ true))
row_up_to row k m same c = (
  (λ h.
      let (v, among, bit) = word_of (take k row) c h in
      let (i, at) = at_from_contains (take k row) v among in
      let (less, there) = get_from_take row k i v at in
      let index : v.index ≡ c / 64 = ((bit_parts v c).0 bit).0 in
      let below : v.index < m = (same i v there).0 less in
      (omega arith, number_of row v c (contains_from_at row v (i, there)) bit)),
  λ (less, h).
      let (v, among, bit) = word_of row c h in
      let (i, there) = at_from_contains row v among in
      let index : v.index ≡ c / 64 = ((bit_parts v c).0 bit).0 in
      let first : i < k = (same i v there).1 (omega arith) in
      number_of (take k row) v c
      (contains_from_at (take k row) v (i, get_in_front row k i v first there)) bit,
)

-- those with an index in the row
abbrev pub ReachedIn : List ℕ → List SetWord → ℕ → Type 0
ReachedIn numbers row n = (c : ℕ) × (slice_get numbers c ≡ Some n) × (has_number row c ≡ true)

upto_before : (row : List SetWord) (k : ℕ) (w : SetWord) → IsRow row → slice_get row k ≡ Some w
    → (i : ℕ) (v : SetWord) → slice_get row i ≡ Some v → (i < k) ↔ (v.index < w.index)
upto_before row k w h at i v there =
    let index : SetWord → ℕ = λ u. u.index in (
      (λ less. h.rising i k v.index w.index less (get_mapped index row i v there)
          (get_mapped index row k w at)),
      λ below. elim (cases_lt i k) [
        | inl less ↦ less
        | inr more ↦ absurd (elim (cases_eq i k) [
          | inl same ↦ (let one : v ≡ w = cc (same, there, at) in let e : v.index ≡ w.index = ap
              index one in omega arith)
          | inr other ↦ (let up = h.rising k i w.index v.index (omega arith)
              (get_mapped index row k w at) (get_mapped index row i v there) in omega arith)
        ])
      ],
    )

upto_after : (row : List SetWord) (k : ℕ) (w : SetWord) → IsRow row → slice_get row k ≡ Some w
    → (i : ℕ) (v : SetWord) → slice_get row i ≡ Some v → (i < k + 1) ↔ (v.index < w.index + 1)
upto_after row k w h at i v there =
    let index : SetWord → ℕ = λ u. u.index in (
      (λ less. elim (cases_eq i k) [
        | inl same ↦ (let one : v ≡ w = cc (same, there, at) in let e : v.index ≡ w.index = ap index
            one in omega arith)
        | inr other ↦ (let up = h.rising i k v.index w.index (omega arith)
            (get_mapped index row i v there) (get_mapped index row k w at) in omega arith)
      ]),
      λ below. elim (cases_lt i (k + 1)) [
        | inl less ↦ less
        | inr more ↦ absurd
            (let up = h.rising k i w.index v.index (omega arith) (get_mapped index row k w at)
            (get_mapped index row i v there) in omega arith)
      ],
    )

pub reached_word : (labels : List LabelId) (row : List SetWord) (k : ℕ) (w : SetWord)
    (old new : List LabelId) → IsRow row → slice_get row k ≡ Some w
    → AreInOrder (ReachedIn (ids_in labels) (take k row)) (ids_in old)
    → ((r : List SetWord) → IsRow r → Contains r w
    → AreInOrder (ReachedBefore (ids_in labels) r (w.index * 64)) (ids_in old)
    → AreInOrder (ReachedBefore (ids_in labels) r ((w.index + 1) * 64)) (ids_in new))
    → AreInOrder (ReachedIn (ids_in labels) (take (k + 1) row)) (ids_in new)
reached_word labels row k w old new h at order told =
    let numbers : List ℕ = ids_in labels in
    let before = row_up_to row k w.index (upto_before row k w h at) in
    let after = row_up_to row (k + 1) (w.index + 1) (upto_after row k w h at) in
    in_order_same (ReachedBefore numbers row ((w.index + 1) * 64))
    (ReachedIn numbers (take (k + 1) row)) (ids_in new)
    (told row h (contains_from_at row w (k, at))
    (in_order_same (ReachedIn numbers (take k row)) (ReachedBefore numbers row (w.index * 64))
    (ids_in old) order
    (λ n. (
      (λ (c, there, has). (c, ((before c).0 has).0, there, ((before c).0 has).1)),
      λ (c, less, there, has). (c, there, (before c).1 (less, has)),
    ))))
    (λ n. (
      (λ (c, less, there, has). (c, there, (after c).1 (less, has))),
      λ (c, there, has). (c, ((after c).0 has).0, there, ((after c).0 has).1),
    ))

-- ==== no further ones

pub rests_on_no_more : (uses : List ProofUses) (numbers : List ℕ) (rows : PlainRows)
    (theorem used : ℕ) → TellRests uses numbers rows
    → (((c : ℕ) → slice_get numbers c ≡ Some used → has_number (row_in rows theorem) c ≡ true)
    × ((c : ℕ) → has_number (row_in rows used) c ≡ true
    → has_number (row_in rows theorem) c ≡ true))
    ↔ RestsNoFurther uses numbers theorem used
rests_on_no_more uses numbers rows theorem used told = (
  (λ (own, within) n among reaches.
      let (c, at) = at_from_contains numbers n among in
      let has : has_number (row_in rows theorem) c ≡ true = elim reaches [
        | inl same ↦ own c (at ∙ ap (λ (m : ℕ). Some m) (sym same))
        | inr rests ↦ within c ((told used c).1 (n, at, rests))
      ] in
      let (x, there, rests) = (told theorem c).0 has in
      subst (λ (m : ℕ). RestsOn (UsedIn uses) theorem m) (same_Some x n (sym there ∙ at)) rests),
  λ further. (
    (λ c at. (told theorem c).1
        (used, at, further used (contains_from_at numbers used (c, at)) (inl refl))),
    λ c has.
        let (x, at, rests) = (told used c).0 has in
        (told theorem c).1 (x, at, further x (contains_from_at numbers x (c, at)) (inr rests)),
  ),
)

-- ==== an index past the end

pub none_at : {A : Type 0} (xs : List A) (i : ℕ) → length xs ≤ i → slice_get xs i ≡ None
none_at {A} xs i past = go (slice_get xs i) refl
  where
    go : (o : Option A) → slice_get xs i ≡ o → o ≡ None
    go None e = refl
    go (Some x) e = absurd (let within = slice_get_within xs i x e in omega arith)
