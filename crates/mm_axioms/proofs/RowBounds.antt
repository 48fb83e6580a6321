-- Rows that stand in one list, between bounds: one more row.
use Rattle.std.proofs.Common.{◌≡◌, ℕ, ◌+◌, ◌-◌, ◌<◌, ◌≤◌, List, [], ◌∷◌, ◌++◌, length, take, drop}
use Rattle.std.proofs.Common.{get_or}
use Rattle.std.proofs.Common.{inl, inr, refl, sym, ap, subst, ◌∙◌, arith, length-append, append-nil}
use Rattle.std.specs.List.{slice_range}
use Rattle.std.proofs.lemmas.Bool.{cases_eq, cases_lt}
use Rattle.std.proofs.lemmas.List.{get_or_append_left, get_or-append-add, get_or_past}
use Rattle.mm_frame.proofs.BookLists.GrownLists.{slice_left}
use Rattle.mm_step.proofs.StoreRanges.{part-new}
use Rattle.mm_axioms.specs.declared.bits.SetWord.{SetWord}
use Rattle.mm_axioms.specs.Mirror.Bits.{IsRow}
use Rattle.mm_axioms.specs.Mirror.Rows.{row_at, AreBounds, IsPadded, IsRowPut}

-- ==== more bounds

last_of : (xs : List ℕ) (x k : ℕ) → k ≡ length xs → get_or (xs ++ x ∷ []) k 0 ≡ x
last_of xs x k e = ap (λ (n : ℕ). get_or (xs ++ x ∷ []) n 0)
    (let f : k ≡ length xs + 0 = omega arith in f) ∙ get_or-append-add xs (x ∷ []) 0 0

-- ==== the rows

none_to_zero : (xs : List SetWord) (a b : ℕ) → b ≡ 0 → slice_range xs a b ≡ []
none_to_zero xs a b e = ap (λ (k : ℕ). take k (drop a xs)) (let f : b - a ≡ 0 = omega arith in f)

none_between : (xs : List SetWord) (a b : ℕ) → a ≡ b → slice_range xs a b ≡ []
none_between xs a b e = ap (λ (k : ℕ). take k (drop a xs)) (let f : b - a ≡ 0 = omega arith in f)

-- there is no row from the last bound on
pub no_row : (words : List SetWord) (bounds : List ℕ) (n : ℕ) → length bounds ≤ n + 1
    → row_at words bounds n ≡ []
no_row words bounds n more = none_to_zero words (get_or bounds n 0) (get_or bounds (n + 1) 0)
    (get_or_past bounds (n + 1) 0 more)

pub row_unchanged : (words : List SetWord) (bounds : List ℕ) (number : ℕ)
    → length bounds ≤ number + 1
    → IsRowPut (record { words = words; bounds = bounds }) number []
    (record { words = words; bounds = bounds })
row_unchanged words bounds number few = record
    { count = omega arith; own = no_row words bounds number few; others = λ n other. refl }

-- ---- one more row, at the end

module _ (words more : List SetWord) (bounds padded : List ℕ) (number : ℕ)
    (h : AreBounds words bounds) (few : length bounds ≤ number + 1)
    (p : IsPadded bounds padded (number + 1) (length words)) where
  all : List SetWord
  all = words ++ more

  ends : List ℕ
  ends = padded ++ length (words ++ more) ∷ []

  long : length ends ≡ number + 2
  unfolding ends
  long = let l = p.long in let m = length-append padded (length (words ++ more) ∷ []) in omega arith

  at_old : (n : ℕ) → n < length bounds → get_or ends n 0 ≡ get_or bounds n 0
  unfolding ends
  at_old n less = let l = p.long in get_or_append_left padded (length (words ++ more) ∷ []) 0 n
      (omega arith) ∙ p.kept n less

  -- from the last bound on all are the end of the words before
  at_last : (n : ℕ) → length bounds ≤ n + 1 → n ≤ number → get_or ends n 0 ≡ length words
  unfolding ends
  at_last n past within = elim (cases_lt n (length bounds)) [
    | inl less ↦ at_old n less ∙ h.last n (omega arith)
    | inr further ↦ let l = p.long in get_or_append_left padded (length (words ++ more) ∷ []) 0 n
        (omega arith) ∙ p.further n further (omega arith)
  ]

  at_end : get_or ends (number + 1) 0 ≡ length (words ++ more)
  unfolding ends
  at_end = last_of padded (length (words ++ more)) (number + 1) (sym p.long)

  own_row : row_at all ends number ≡ more
  unfolding all
  own_row =
      ap (λ (a : ℕ). slice_range (words ++ more) a (get_or ends (number + 1) 0))
      (at_last number few (omega arith))
      ∙ ap (λ (b : ℕ). slice_range (words ++ more) (length words) b) at_end
      ∙ part-new words more (length (words ++ more)) refl

  other_row : (n : ℕ) → ¬ (n ≡ number) → row_at all ends n ≡ row_at words bounds n
  unfolding all
  other_row n other = elim (cases_lt (n + 1) (length bounds)) [
    | inl less ↦
        ap (λ (a : ℕ). slice_range (words ++ more) a (get_or ends (n + 1) 0))
        (at_old n (omega arith))
        ∙ ap (λ (b : ℕ). slice_range (words ++ more) (get_or bounds n 0) b) (at_old (n + 1) less)
        ∙ slice_left words more (get_or bounds n 0) (get_or bounds (n + 1) 0) (h.order n less)
        (h.within (n + 1))
    | inr past ↦ elim (cases_lt n number) [
      | inl before ↦
          none_between (words ++ more) (get_or ends n 0) (get_or ends (n + 1) 0)
          (at_last n past (omega arith) ∙ sym (at_last (n + 1) (omega arith) (omega arith)))
          ∙ sym (no_row words bounds n past)
      | inr after ↦
          none_to_zero (words ++ more) (get_or ends n 0) (get_or ends (n + 1) 0)
          (get_or_past ends (n + 1) 0 (let l = long in omega arith))
          ∙ sym (no_row words bounds n past)
    ]
  ]

  below_all : (n : ℕ) → get_or ends n 0 ≤ length (words ++ more)
  below_all n =
      let l = long in
      let m = length-append words more in
      elim (cases_lt n (length bounds)) [
        | inl less ↦ let e = at_old n less in let w = h.within n in omega arith
        | inr past ↦ elim (cases_lt n (number + 1)) [
          | inl before ↦ let e = at_last n (omega arith) (omega arith) in omega arith
          | inr after ↦ elim (cases_eq n (number + 1)) [
            | inl end ↦ let e = at_end in let f = ap (λ (k : ℕ). get_or ends k 0) end in omega arith
            | inr beyond ↦ let e = get_or_past ends n 0 (omega arith) in omega arith
          ]
        ]
      ]

  rising : (n : ℕ) → n + 1 < length ends → get_or ends n 0 ≤ get_or ends (n + 1) 0
  rising n less =
      let l = long in
      let m = length-append words more in
      elim (cases_lt (n + 1) (length bounds)) [
        | inl before ↦ let e = at_old n (omega arith) in let f = at_old (n + 1) before in let w =
            h.order n before in omega arith
        | inr past ↦ elim (cases_eq n number) [
          | inl end ↦ let e = at_last n past (omega arith) in let f = at_end in let g = ap
              (λ (k : ℕ). get_or ends (k + 1) 0) end in omega arith
          | inr other ↦ let e = at_last n past (omega arith) in let f = at_last (n + 1)
              (omega arith) (omega arith) in omega arith
        ]
      ]

  pub bounds_put : IsRow more → AreBounds (words ++ more) (padded ++ length (words ++ more) ∷ [])
  unfolding all ends
  bounds_put row = record {
    some = let l = long in omega arith;
    last = λ n e. let l = long in let f : n ≡ number + 1 = omega arith in ap
        (λ (k : ℕ). get_or ends k 0) f ∙ at_end;
    order = rising;
    within = below_all;
    rows = λ n. elim (cases_eq n number) [
      | inl own ↦ subst IsRow (sym (ap (λ (k : ℕ). row_at all ends k) own ∙ own_row)) row
      | inr other ↦ subst IsRow (sym (other_row n other)) (h.rows n)
    ];
  }

  pub row_put : IsRowPut (record { words = words; bounds = bounds }) number more
      (record { words = words ++ more; bounds = padded ++ length (words ++ more) ∷ [] })
  unfolding all ends
  row_put = record { count = let l = long in omega arith; own = own_row; others = other_row }

-- the same, as the code has it
pub put_bounds : (words more new : List SetWord) (bounds padded ends : List ℕ)
    (number start end : ℕ) → AreBounds words bounds → length bounds ≤ number + 1
    → IsPadded bounds padded (number + 1) start → start ≡ length words → new ≡ words ++ more
    → ends ≡ padded ++ end ∷ [] → end ≡ length new → IsRow more
    → AreBounds new ends × IsRowPut (record { words = words; bounds = bounds }) number more
    (record { words = new; bounds = ends })
put_bounds words more new bounds padded ends number start end h few p at grown put last row =
    let q : IsPadded bounds padded (number + 1) (length words) = subst
    (λ (s : ℕ). IsPadded bounds padded (number + 1) s) at p in
    let is : ends ≡ padded ++ length (words ++ more) ∷ [] = put
    ∙ ap (λ (n : ℕ). padded ++ n ∷ []) (last ∙ ap length grown) in
    rw (grown, is) (
      bounds_put words more bounds padded number h few q row,
      row_put words more bounds padded number
          h few q,
    )

pub kept_bounds : (words more new : List SetWord) (bounds : List ℕ) (number : ℕ)
    → AreBounds words bounds → length bounds ≤ number + 1
    → new ≡ words ++ more → length new ≤ length words
    → AreBounds new bounds × IsRowPut (record { words = words; bounds = bounds }) number more
    (record { words = new; bounds = bounds })
kept_bounds words [] new bounds number h few grown same =
    let is : new ≡ words = grown ∙ append-nil words in
    rw is (h, row_unchanged words bounds number few)
kept_bounds words (w ∷ more) new bounds number h few grown same =
    absurd (let long = length-append words (w ∷ more) in let e = ap length grown in omega arith)
