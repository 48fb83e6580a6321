-- The labels of the essential hypotheses of the `$p` that was taken last: those of its frame without a
-- typing. The contracts of `essentials.rt` rest on it.
use Rattle.std.proofs.Common.{◌≡◌, ℕ, suc, ◌+◌, ◌<◌, List, [], ◌∷◌, ◌++◌, map, take, length}
use Rattle.std.proofs.Common.{filter, slice_get, get_or}
use Rattle.std.proofs.Common.{Bool, true, false, cond, Option, Some, is_some}
use Rattle.std.proofs.Common.{sym, ap, subst, ◌∙◌, append-nil, arith}
use denote.Ref.{Bor}
use Rattle.std.proofs.lemmas.List.{map-append}
use Rattle.std.proofs.lemmas.List.Elements.{filter-append}
use Rattle.std.proofs.lemmas.Option.{slice_get-get_or}
use Rattle.mm_base.proofs.Lists.{one_there, take_next}
use Rattle.mm_frame.specs.declared.hypothesis.Hypothesis.{Hypothesis}
use Rattle.mm_frame.specs.Frame.{AreMandatory}
use Rattle.mm_frame.specs.FrameIndex.{FrameIndex, AreHypotheses, HaveTypings}
use Rattle.mm_frame.specs.Numbers.{IsNumbered, labelled_sentences}
use Rattle.mm_frame.specs.Sentence.{Sentence, IsAssertion, IsLabelled, is_essential}
use Rattle.mm_frame.proofs.Frames.EssentialHypotheses.{hypothesis_there, essential_kind}
use Rattle.mm_frame.proofs.Names.LabelNumbers.{numbered_unique}
use Rattle.mm_step.specs.Steps.{IsProofNumber}
use Rattle.mm_rules.proofs.Judgements.JudgedProofs.{prefix_of}
use Rattle.mm_code.specs.Layout.{texts}

-- ---- its frame

-- the hypotheses that are the mandatory ones of the `$p`, and have these numbers
pub record Framed (st before : List Sentence) (s : Sentence) (ids : List ℕ) : Type 0 where
  pub hypotheses : List Sentence
  pub mandatory : AreMandatory before s hypotheses
  pub numbered : map (slice_get (labelled_sentences st)) ids ≡ map Some hypotheses

pub framed : (st before : List Sentence) (s : Sentence) (id : ℕ) (f : FrameIndex) (ids : List ℕ)
    → st ≡ before ++ s ∷ [] → IsProofNumber st id (length before) s → f.statements ≡ st
    → ((t : Sentence) × IsNumbered st id f.index t × IsAssertion t.kind) → AreHypotheses f ids
    → Framed st before s ids
framed st before s id f ids whole number is (t, other, asserts) are_hypotheses =
    let at : f.index ≡ length before =
    (numbered_unique st id f.index (length before) t s other number.numbered).0 in
    let frame : FrameIndex = record { statements = st; index = length before } in
    let same : f ≡ frame =
    ap (λ (ss : List Sentence). let g : FrameIndex = record { statements = ss; index = f.index }
    in g) is
    ∙ ap (λ (n : ℕ). let g : FrameIndex = record { statements = st; index = n } in g) at in
    let are : AreHypotheses frame ids = subst (λ (g : FrameIndex). AreHypotheses g ids) same
    are_hypotheses in
    let one : are.assertion ≡ s =
    one_there st (length before) are.assertion s are.there number.numbered.there in
    let front : take (length before) st ≡ before = prefix_of st before s whole in
    record {
      hypotheses = are.hypotheses;
      mandatory = rw (one, front) at are.mandatory;
      numbered = are.numbered;
    }

-- ---- which are essential

-- the labels of those that are
abbrev pub stated_labels : List Sentence → List (Option (List ℕ))
stated_labels stated = map (λ h. h.label) (filter (λ h. is_essential h.kind) stated)

next_labels : (stated : List Sentence) (i : ℕ) (s : Sentence) (own : List Sentence)
    → slice_get stated i ≡ Some s → cond (is_essential s.kind) (s ∷ []) [] ≡ own
    → stated_labels (take (i + 1) stated)
    ≡ stated_labels (take i stated) ++ map (λ h. h.label) own
next_labels stated i s own there is =
    let one : suc i ≡ i + 1 = omega arith in
    let next : take (i + 1) stated ≡ take i stated ++ s ∷ [] =
    subst (λ (n : ℕ). take n stated ≡ take i stated ++ s ∷ []) one (take_next stated i s there) in
    ap stated_labels next
    ∙ ap (map (λ (h : Sentence). h.label)) (filter-append (λ (h : Sentence). is_essential h.kind)
    (take i stated) (s ∷ []))
    ∙ map-append (λ (h : Sentence). h.label) (filter (λ h. is_essential h.kind) (take i stated)) _
    ∙ ap (λ (o : List Sentence). stated_labels (take i stated) ++ map (λ (h : Sentence). h.label) o)
    is

module _ (st : List Sentence) (hypotheses : List Hypothesis) (stated : List Sentence)
    (typed : HaveTypings st hypotheses)
    (are : map (slice_get (labelled_sentences st)) (map (λ h. h.id.0) hypotheses) ≡ map Some stated)
    (i : ℕ) (d : Hypothesis) (less : i < length hypotheses) where
  -- it has a typing
  pub other_step : (so_far : List (Option (List ℕ))) → is_some (get_or hypotheses i d).typing ≡ true
      → so_far ≡ stated_labels (take i stated) → so_far ≡ stated_labels (take (i + 1) stated)
  other_step so_far is told =
      let (s, at, there) = hypothesis_there (labelled_sentences st) hypotheses stated i d are less
      in
      let kind = (essential_kind st (get_or hypotheses i d) s
      (typed i (get_or hypotheses i d) (slice_get-get_or hypotheses i d less)) there).1 is in
      told
      ∙ sym (next_labels stated i s [] at (ap (λ (b : Bool). cond b (s ∷ []) []) kind)
      ∙ append-nil (stated_labels (take i stated)))

  -- it is essential
  pub essential_step : (labels next : List (Bor (List ℕ))) (own : Bor (List ℕ))
      → is_some (get_or hypotheses i d).typing ≡ false
      → ((s : Sentence) → slice_get (labelled_sentences st) (get_or hypotheses i d).id.0 ≡ Some s
      → IsLabelled own.now s)
      → map Some (texts labels) ≡ stated_labels (take i stated) → next ≡ labels ++ own ∷ []
      → map Some (texts next) ≡ stated_labels (take (i + 1) stated)
  essential_step labels next own is named told pushed =
      let (s, at, there) = hypothesis_there (labelled_sentences st) hypotheses stated i d are less
      in
      let kind = (essential_kind st (get_or hypotheses i d) s
      (typed i (get_or hypotheses i d) (slice_get-get_or hypotheses i d less)) there).0 is in
      let some : List ℕ → Option (List ℕ) = λ l. Some l in
      ap (λ (bs : List (Bor (List ℕ))). map some (texts bs)) pushed
      ∙ ap (map some) (map-append (λ (b : Bor (List ℕ)). b.now) labels (own ∷ []))
      ∙ map-append some (texts labels) (own.now ∷ [])
      ∙ ap (λ (os : List (Option (List ℕ))). os ++ Some own.now ∷ []) told
      ∙ ap (λ (o : Option (List ℕ)). stated_labels (take i stated) ++ o ∷ []) (sym (named s there))
      ∙ sym (next_labels stated i s (s ∷ []) at (ap (λ (b : Bool). cond b (s ∷ []) []) kind))
