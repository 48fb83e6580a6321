-- The first rule that a step breaks, from what a judge of it finds one after the other.
use Rattle.std.proofs.Common.{ℕ, subst, ◌≡◌, ◌<◌, List}
use Rattle.std.proofs.Common.{slice_get, Some, inl, refl, ◌∙◌, arith}
use Rattle.std.proofs.Common.{take}
use Rattle.std.proofs.Common.{lt_irrefl}
use Rattle.mm_step.specs.declared.fault.ProofRule.{ProofRule}
use Rattle.mm_frame.specs.Sentence.{Sentence, IsHypothesis, IsLabelled}
use Rattle.mm_frame.specs.Rules.{AllMeant}
use Rattle.mm_step.specs.declared.fault.ProofRule.TheVariants.{P8, P9}
use Rattle.mm_step.specs.declared.fault.ProofRule.TheVariants.{P10, P11, P12, L1}
use Rattle.mm_step.specs.Tree.{ShareNoVariable}
use Rattle.mm_step.specs.Moves.{name}
use Rattle.mm_step.specs.Proof.{proof_rank, FirstAtMove}
use Rattle.mm_step.specs.Proof.{MeetsHypotheses, BreaksStep}
use Rattle.mm_frame.specs.Active.{IsActive}
use Rattle.mm_frame.specs.Frame.{IsMandatoryPair}
use Rattle.mm_step.proofs.ProofSteps.OneStep.{StepTo, meets_enough}
use Rattle.mm_step.proofs.ProofSteps.OneStep.{agree, same_substituted, step_breaks_none}
use Rattle.mm_step.proofs.ProofSteps.OneStep.{step_breaks_limit}
use Rattle.mm_step.specs.Mirror.CodeVerify.{EachEntry, IsRightCode, IsEqual}

-- ---- the rules at a step by a label

-- the first rule that the step breaks
abbrev pub FirstAtStep : (List (List ℕ) → Type 0) → ProofRule → List Sentence → List (List (List ℕ)) → List ℕ → Type 0
FirstAtStep Fits rule before stack label =
    BreaksStep Fits rule before stack label × ((other : ProofRule) → proof_rank other < proof_rank rule → ¬ (BreaksStep Fits other before stack label))

-- a step over the limit that breaks no rule breaks the limit first
pub limit_first : (Fits : List (List ℕ) → Type 0) (before : List Sentence) (stack : List (List (List ℕ))) (label : List ℕ) (rest : List (List (List ℕ))) (e : List (List ℕ)) → AllMeant before
    → ¬ (Fits e) → StepTo before stack label rest e → FirstAtStep Fits L1 before stack label
limit_first Fits before stack label rest e all over step = (
  step_breaks_limit Fits before stack label rest e over step,
  λ other less. step_breaks_none Fits other before stack label rest e all (λ same. absurd (lt_irrefl (proof_rank L1) (subst (λ r. proof_rank r < proof_rank L1) same less))) step,
)

-- the step by an active hypothesis breaks none but the limit
pub step_of_hypothesis : (before : List Sentence) (stack : List (List (List ℕ))) (label : List ℕ) (index : ℕ) (h : Sentence) → slice_get before index ≡ Some h → IsActive before index
    → IsLabelled label h → IsHypothesis h.kind → StepTo before stack label stack h.symbols
step_of_hypothesis before stack label index h there active named kind =
    inl (record { kept = refl; index = index; hypothesis = h; there = there; active = active; named = named; kind = kind; made = refl })

-- below the entries that an assertion wants, P8 is the first rule broken
pub below_P8 : (Fits : List (List ℕ) → Type 0) (before : List Sentence) (stack : List (List (List ℕ))) (label : List ℕ) (other : ProofRule) → proof_rank other < proof_rank P8 → ¬ (BreaksStep Fits other before stack label)
below_P8 Fits before stack label P8 less = absurd (omega arith)
below_P8 Fits before stack label rule less = grind arith

-- ==== the first rule that a move breaks, from what a judge of it finds one after the other

-- ---- what a step meets is in order

-- what replaces the members of each mandatory pair is so
abbrev pub EachPair : (before : List Sentence) → (stack : List (List (List ℕ))) → (label : List ℕ) → MeetsHypotheses before stack label → (List (List ℕ) → List (List ℕ) → Type 0) → Type 0
EachPair before stack label m P =
    (x y : List ℕ) (e f : List (List ℕ)) → IsMandatoryPair (take m.index before) m.assertion x y → m.σ x ≡ Some e → m.σ y ≡ Some f → P e f

-- where a step meets its hypotheses, and what the rules before this one judge is in order, it
-- breaks none of them
pub below : (Fits : List (List ℕ) → Type 0) (before : List Sentence) (stack : List (List (List ℕ)))
    (label : List ℕ) (m : MeetsHypotheses before stack label) → AllMeant before → (rule : ProofRule)
    → proof_rank rule < proof_rank L1
    → (proof_rank P9 < proof_rank rule → EachEntry m.hypotheses m.entries IsRightCode)
    → (proof_rank P10 < proof_rank rule → EachEntry m.hypotheses m.entries (IsEqual m.σ))
    → (proof_rank P11 < proof_rank rule → EachPair before stack label m (ShareNoVariable before))
    → (other : ProofRule) → proof_rank other < proof_rank rule
    → ¬ (BreaksStep Fits other before stack label)
below Fits before stack label m all rule last codes equal share P8 less b =
    meets_enough Fits before stack label all m b
below Fits before stack label m all rule last codes equal share P9 less b =
    let a = agree before stack label all m b.0 in
    let x = b.1 in
    x.5.1 (codes less x.0 x.1 x.2 (rw a.hypotheses x.3) (rw a.entries x.4) x.5.0)
below Fits before stack label m all rule last codes equal share P10 less b =
    let a = agree before stack label all m b.0 in
    let x = b.1 in
    x.5.1 (equal less x.0 x.1 x.2 (rw a.hypotheses x.3) (rw a.entries x.4) x.5.0
    ∙ same_substituted m.σ b.0.σ x.1.symbols a.replacement)
below Fits before stack label m all rule last codes equal share P11 less b =
    let a = agree before stack label all m b.0 in
    let pair = rw (← a.index, ← a.assertion) at b.5 in
    b.8 (share less b.1 b.2 b.3 b.4 pair (a.replacement b.1 ∙ b.6) (a.replacement b.2 ∙ b.7))
below Fits before stack label m all rule last codes equal share P12 less b = absurd (omega arith)
below Fits before stack label m all rule last codes equal share L1 less b = absurd (omega arith)
below Fits before stack label m all rule last codes equal share other less b = b

-- ---- the rules that stand alone

-- what such a step makes is over the limit
pub first_L1 : (Fits : List (List ℕ) → Type 0) (before : List Sentence) (stack kept : List (List (List ℕ))) (label : List ℕ) (rest : List (List (List ℕ))) (e : List (List ℕ)) → AllMeant before
    → ¬ (Fits e) → StepTo before stack label rest e → FirstAtMove Fits L1 before stack kept (name label)
first_L1 Fits before stack kept label rest e all over step = let f = limit_first Fits before stack label rest e all over step in record { broken = f.0; first = f.1 }
