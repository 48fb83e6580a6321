-- Right before a position stands one comment at most. On this file rest the contracts of
-- `comment.rt`.
use Rattle.std.proofs.Common.{◌≡◌, ℕ, ◌+◌, ◌<◌, ◌↔◌, List, get_or}
use Rattle.std.proofs.Common.{inl, inr, sym, ap, subst, ◌∙◌, arith}
use Rattle.std.proofs.lemmas.Bool.{cases_lt, both_ways}
use Rattle.std.specs.Prelude.{slice_range}
use Rattle.mm_base.specs.Token.{is_space}
use Rattle.mm_text.specs.Remarks.{IsCommentBefore, is_mark}
use Rattle.mm_with_lemmas.specs.WithLemmas.{IsCommentAt, IsOwnCommentAt}

-- no comment ends before another one
no_earlier_end : (bytes : List ℕ) (at start stop begin end : ℕ)
    → IsCommentBefore bytes at start stop → IsCommentBefore bytes at begin end → ¬ (stop < end)
no_earlier_end bytes at start stop begin end h g less =
    let room = g.before in
    both_ways (is_space (get_or bytes (end + 1) 0)) (ap is_space g.closes)
    (h.blank (end + 1) (omega arith) (omega arith))

one_end : (bytes : List ℕ) (at start stop begin end : ℕ)
    → IsCommentBefore bytes at start stop → IsCommentBefore bytes at begin end → stop ≡ end
one_end bytes at start stop begin end h g = elim (cases_lt stop end) [
  | inl less ↦ absurd (no_earlier_end bytes at start stop begin end h g less)
  | inr rest ↦ elim (cases_lt end stop) [
    | inl less ↦ absurd (no_earlier_end bytes at begin end start stop g h less)
    | inr same ↦ omega arith
  ]
]

-- none begins before another one
no_earlier_start : (bytes : List ℕ) (at start stop begin end : ℕ)
    → IsCommentBefore bytes at start stop → IsCommentBefore bytes at begin end → ¬ (start < begin)
no_earlier_start bytes at start stop begin end h g less =
    let same : stop ≡ end = one_end bytes at start stop begin end h g in
    let room = g.inside in
    elim (cases_lt (start + 1) begin) [
      | inl past ↦
          let first = g.begins in
          let second = g.opens in
          both_ways (is_mark (get_or bytes begin 0) (get_or bytes (begin + 1) 0))
          (h.inner begin (omega arith) (omega arith))
          (λ i. is_mark (first i) (second i))
      | inr beside ↦
          let next : start + 1 ≡ begin = omega arith in
          let byte : get_or bytes (start + 1) 0 ≡ get_or bytes begin 0 =
          ap (λ (k : ℕ). get_or bytes k 0) next in
          let first = g.begins in
          let second = h.opens in
          omega (arith, byte, first, second)
    ]

one_start : (bytes : List ℕ) (at start stop begin end : ℕ)
    → IsCommentBefore bytes at start stop → IsCommentBefore bytes at begin end → start ≡ begin
one_start bytes at start stop begin end h g = elim (cases_lt start begin) [
  | inl less ↦ absurd (no_earlier_start bytes at start stop begin end h g less)
  | inr rest ↦ elim (cases_lt begin start) [
    | inl less ↦ absurd (no_earlier_start bytes at begin end start stop g h less)
    | inr same ↦ omega arith
  ]
]

one_comment : (bytes : List ℕ) (at : ℕ) (text other : List ℕ) → IsCommentAt bytes at text
    → IsCommentAt bytes at other → text ≡ other
one_comment bytes at text other (start, stop, h, is) (begin, end, g, is_too) =
    let starts = one_start bytes at start stop begin end h g in
    let ends = one_end bytes at start stop begin end h g in
    is ∙ (λ i. slice_range bytes (starts i) (ends i + 2)) ∙ sym is_too

-- ---- but for headings

-- both have the same
pub same_comments : (bytes : List ℕ) (at : ℕ) (others : List ℕ) (place : ℕ) (own other : List ℕ)
    → IsOwnCommentAt bytes at own → IsOwnCommentAt others place other → own ≡ other
    → (text : List ℕ) → IsOwnCommentAt bytes at text ↔ IsOwnCommentAt others place text
same_comments bytes at others place own other (h, plain) (g, plain_too) same text = (
  λ told. (
    subst (IsCommentAt others place) (sym same ∙ one_comment bytes at own text h told.0) g,
    plain_too,
  ),
  λ told. (
    subst (IsCommentAt bytes at) (same ∙ one_comment others place other text g told.0) h,
    plain,
  ),
)
