-- How many trees a label stands over.
use Rattle.std.proofs.Common.{◌≡◌, ℕ, List, length, take}
use Rattle.std.proofs.Common.{inl, inr, refl, sym, ap, ◌∙◌}
use Rattle.std.proofs.lemmas.Option.{same_Some}
use Rattle.mm_frame.specs.Sentence.{Sentence, IsHypothesis}
use Rattle.mm_frame.specs.Rules.{AllMeant}
use Rattle.mm_frame.specs.declared.signature.Signature.{Signature}
use Rattle.mm_frame.proofs.Rules.ObeyedRules.{allmeant_prefix}
use Rattle.mm_frame.proofs.Names.LabelNumbers.{numbered_get}
use Rattle.mm_step.specs.Tree.{Names, Trees, roots, MayStandOver}
use Rattle.mm_step.specs.Mirror.CodeSteps.{MayBeUsed}
use Rattle.mm_step.specs.Mirror.CodeApply.{IsEarlierSignature}
use Rattle.mm_base.proofs.Lists.{get_take}
use Rattle.mm_step.proofs.ProofSteps.OneStep.{hypothesis_or_assertion}
use Rattle.mm_step.proofs.ProofSteps.OneStep.{one_names}
use Rattle.mm_step.proofs.ByNumbers.NumberedSymbols.{as_many}
use Rattle.mm_step.proofs.ProofSteps.FirstAtStep.{below}
use Rattle.mm_forms.specs.Spelled.{IsNumberOfLabel}
use Rattle.mm_step.proofs.ByNumbers.StepByAssertion.{called_of, names_of}

-- ==== how many trees a label stands over, and which number it has

-- a hypothesis stands over nothing
pub width_hypothesis : (st : List Sentence) (index id : ℕ) (label : List ℕ) (below : Trees) → AllMeant st → (u : MayBeUsed st index label id) → IsHypothesis u.s.kind
    → MayStandOver (take index st) label below → roots below ≡ 0
width_hypothesis st index id label below all u h (inl p) = ap roots p.0
width_hypothesis st index id label below all u h (inr p) =
    absurd (hypothesis_or_assertion (take index st) u.at p.0 u.s p.1 label (allmeant_prefix st index all) (get_take st index u.at u.before ∙ u.numbered.there) p.3.there u.named p.3.named h p.3.kind)

-- an assertion stands over as many as it has hypotheses
pub width_assertion : (st : List Sentence) (index id : ℕ) (label : List ℕ) (below : Trees) (signature : Signature) → AllMeant st → MayBeUsed st index label id → IsEarlierSignature st index id signature
    → MayStandOver (take index st) label below → roots below ≡ length signature.hypotheses.now
width_assertion st index id label below signature all u is stands =
    let called = called_of st index id signature is in
    let hs = is.hypotheses.hypotheses in
    let names : Names (take index st) label is.at called.s hs = names_of st index id is.at _ hs label
    called (u.s, label, numbered_get st id u.at u.s u.numbered, u.named, refl) in
    go stands called.s hs names (as_many st signature.hypotheses.now hs called.known)
  where
    go : MayStandOver (take index st) label below → (a : Sentence) (hs : List Sentence) → Names (take index st) label is.at a hs → length hs ≡ length signature.hypotheses.now
        → roots below ≡ length signature.hypotheses.now
    go (inl p) a hs names many =
        absurd (hypothesis_or_assertion (take index st) p.1.0 is.at p.1.1 a label (allmeant_prefix st index all) p.1.2 names.there p.1.4.0 names.named p.1.4.1 names.kind)
    go (inr p) a hs names many =
        p.4 ∙ ap length (one_names (take index st) label p.0 is.at p.1 a p.2 hs (allmeant_prefix st index all) p.3 names) ∙ many

-- the same label may be used
pub same_use : (st : List Sentence) (index id : ℕ) (used label : List ℕ) (s : Sentence) → MayBeUsed st index used id → IsNumberOfLabel st id label → MayBeUsed st index label id
same_use st index id used label s u n =
    let same : n.s ≡ u.s = same_Some n.s u.s (sym n.there ∙ numbered_get st id u.at u.s u.numbered) in
    record { at = u.at; s = u.s; numbered = u.numbered; named = ap (λ (t : Sentence). t.label) (sym same) ∙ n.named; before = u.before; kind = u.kind }
