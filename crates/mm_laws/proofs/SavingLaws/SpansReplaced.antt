-- What replaced spans leave as it is.
use Rattle.std.proofs.Common.{◌≡◌, ℕ, ◌+◌, ◌-◌, ◌≤◌, List, [], ◌∷◌, ◌++◌, take, drop, length, map}
use Rattle.std.proofs.Common.{slice_range, refl, sym, ap, ◌∙◌, arith, append_assoc}
use Rattle.std.proofs.Common.{length-append, length-take, length-drop}
use Rattle.std.specs.List.{AllZip}
use Rattle.std.proofs.Math.Nat.{sub-zero}
use Rattle.std.proofs.Math.Seq.{take-add, drop-append-add}
use Rattle.std.proofs.lemmas.List.{length-take-le, drop-drop}
use Rattle.std.proofs.lemmas.List.Folds.{drop_split}
use Rattle.mm_base.specs.Statement.{PlainStatement}
use Rattle.mm_text.specs.Replaced.{with_span}
use Rattle.mm_render.specs.Saved.{within_span}
use Rattle.mm_save.specs.AllSaved.{Replacement, replaced_from, with_replaced}
use Rattle.mm_laws.proofs.SavingLaws.RisingSpans.{IsMovedTo, Rise}
use Rattle.mm_laws.proofs.SavingLaws.SpanTexts.{span_put, span_within}

-- ---- a span before the others

-- spans of which the first begins behind a position
abbrev pub RiseBehind : (at end : ℕ) → List Replacement → Type 0
RiseBehind at end news = Rise at end (map (λ new. new.span) news)

rise_ends : (at end : ℕ) (spans : List (ℕ × ℕ)) → Rise at end spans → at ≤ end
rise_ends at end [] rise = rise
rise_ends at end (span ∷ spans) rise =
    let more = rise_ends span.1 end spans rise.2 in omega (arith, rise.0, rise.1, more)

-- what is kept before them may be cut
kept_before : (at start stop : ℕ) (xs : List ℕ) (news : List Replacement) → at ≤ start
    → RiseBehind start stop news
    → replaced_from at xs news ≡ slice_range xs at start ++ replaced_from start xs news
kept_before at start stop xs [] less rise = drop_split xs at start less
kept_before at start stop xs (new ∷ news) less rise =
    let first : ℕ = start - at in
    let more : ℕ = new.span.0 - start in
    let long : new.span.0 - at ≡ first + more = omega (arith, less, rise.0) in
    let there : at + first ≡ start = omega (arith, less) in
    let parted : slice_range xs at new.span.0
    ≡ slice_range xs at start ++ slice_range xs start new.span.0 =
    ap (λ (n : ℕ). take n (drop at xs)) long ∙ take-add first more (drop at xs)
    ∙ ap (λ (l : List ℕ). take first (drop at xs) ++ take more l)
    (drop-drop first at xs ∙ ap (λ (n : ℕ). drop n xs) there) in
    let rest : List ℕ = new.text ++ replaced_from new.span.1 xs news in
    ap (λ (l : List ℕ). l ++ rest) parted
    ∙ append_assoc (slice_range xs at start) (slice_range xs start new.span.0) rest

module _ (xs : List ℕ) (span : ℕ × ℕ) (news : List Replacement) (order : span.0 ≤ span.1)
    (rise : RiseBehind span.1 (length xs) news) where
  -- what stands before it, in it and behind it
  parted : with_replaced xs news
      ≡ take span.0 xs ++ (within_span xs span ++ replaced_from span.1 xs news)
  parted =
      let rest : List ℕ = replaced_from span.1 xs news in
      let long : span.1 - 0 ≡ span.0 + (span.1 - span.0) = omega (arith, order) in
      kept_before 0 span.1 (length xs) xs news (omega arith) rise
      ∙ ap (λ (n : ℕ). take n xs ++ rest) long
      ∙ ap (λ (l : List ℕ). l ++ rest) (take-add span.0 (span.1 - span.0) xs)
      ∙ append_assoc (take span.0 xs) (within_span xs span) rest

  within : span.1 ≤ length xs
  within = rise_ends span.1 (length xs) (map (λ new. new.span) news) rise

  begins : span.0 ≡ length (take span.0 xs)
  begins = sym (length-take-le span.0 xs (omega (arith, order, within)))

  ends : span.1 ≡ length (take span.0 xs) + length (within_span xs span)
  ends =
      omega (
        arith,
        order,
        within,
        begins,
        length-take (span.1 - span.0) (drop span.0 xs),
        length-drop span.0 xs,
      )

  -- it may be replaced after them
  pub replaced_last : (text : List ℕ) → with_span (with_replaced xs news) span text
      ≡ slice_range xs 0 span.0 ++ (text ++ replaced_from span.1 xs news)
  replaced_last text =
      let rest : List ℕ = replaced_from span.1 xs news in
      ap (λ (l : List ℕ). with_span l span text) parted
      ∙ span_put (take span.0 xs) (within_span xs span) rest text span begins ends
      ∙ ap (λ (n : ℕ). take n xs ++ (text ++ rest)) (sym (sub-zero span.0))

  -- what stands in it is kept
  pub within_kept : within_span (with_replaced xs news) span ≡ within_span xs span
  within_kept =
      ap (λ (l : List ℕ). within_span l span) parted
      ∙ span_within (take span.0 xs) (within_span xs span) (replaced_from span.1 xs news) span
      begins ends

-- ---- what stands behind a span that is replaced

module _ (xs : List ℕ) (span : ℕ × ℕ) (text : List ℕ) (start : span.0 ≤ length xs) where
  -- is kept where it moves to
  moved_within : (s t : PlainStatement) → span.1 ≤ s.span.0
      → IsMovedTo span.1 (span.0 + length text) s t
      → within_span (with_span xs span text) t.span ≡ within_span xs s.span
  moved_within s t behind moved =
      let prefix : List ℕ = take span.0 xs ++ text in
      let long = length-append (take span.0 xs) text in
      let cut = length-take-le span.0 xs start in
      let far : ℕ = s.span.0 - span.1 in
      let place : t.span.0 ≡ length prefix + far = omega (arith, moved.start, long, cut, behind) in
      let there : span.1 + far ≡ s.span.0 = omega (arith, behind) in
      let rest : drop t.span.0 (with_span xs span text) ≡ drop s.span.0 xs =
      (λ i. drop (place i) (sym (append_assoc (take span.0 xs) text (drop span.1 xs)) i))
      ∙ drop-append-add prefix (drop span.1 xs) far ∙ drop-drop far span.1 xs
      ∙ ap (λ (n : ℕ). drop n xs) there in
      let count : t.span.1 - t.span.0 ≡ s.span.1 - s.span.0 =
      omega (arith, moved.start, moved.stop) in
      λ i. take (count i) (rest i)

  pub all_moved_within : (at end : ℕ) (statements others : List PlainStatement) → span.1 ≤ at
      → Rise at end (map (λ s. s.span) statements)
      → AllZip (IsMovedTo span.1 (span.0 + length text)) statements others
      → map (λ t. within_span (with_span xs span text) t.span) others
      ≡ map (λ s. within_span xs s.span) statements
  all_moved_within at end [] [] behind rise moved = refl
  all_moved_within at end [] (t ∷ others) behind rise moved = absurd moved
  all_moved_within at end (s ∷ statements) [] behind rise moved = absurd moved
  all_moved_within at end (s ∷ statements) (t ∷ others) behind rise moved =
      let own = moved_within s t (omega (arith, behind, rise.0)) moved.0 in
      let rest = all_moved_within s.span.1 end statements others
      (omega (arith, behind, rise.0, rise.1)) rise.2 moved.1 in
      λ i. own i ∷ rest i

-- ---- how long they are then

-- where no text is longer than what stands in its span, there are no more bytes than before
pub replaced_no_longer : (at : ℕ) (xs : List ℕ) (statements : List PlainStatement)
    (news : List Replacement) → Rise at (length xs) (map (λ s. s.span) statements)
    → AllZip (λ s new. (new.span ≡ s.span) × (length new.text ≤ length (within_span xs s.span)))
    statements news
    → at + length (replaced_from at xs news) ≤ length xs
replaced_no_longer at xs [] [] rise each = omega (arith, rise, length-drop at xs)
replaced_no_longer at xs [] (new ∷ news) rise each = absurd each
replaced_no_longer at xs (s ∷ statements) [] rise each = absurd each
replaced_no_longer at xs (s ∷ statements) (new ∷ news) rise ((span, few), each) =
    let rest : List ℕ = replaced_from s.span.1 xs news in
    let kept : List ℕ = slice_range xs at s.span.0 in
    let less = replaced_no_longer s.span.1 xs statements news rise.2 each in
    rw span (omega (
      arith,
      few,
      rise.0,
      rise.1,
      less,
      length-append kept (new.text ++ rest),
      length-append new.text rest,
      length-take (s.span.0 - at) (drop at xs),
      length-take (s.span.1 - s.span.0) (drop s.span.0 xs),
    ))
