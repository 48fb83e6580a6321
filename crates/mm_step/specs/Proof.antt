-- When a `$p` is proved, and the first fault of a proof (the Metamath book, sections 4.1.4, 4.3 and
-- 4.4.3, appendix B).
use Rattle.std.specs.Prelude.{◌≡◌, ◌≢◌, ℕ, ◌<◌, ◌≤◌, List, [], ◌∷◌, ◌++◌, take, drop, length}
use Rattle.std.specs.Prelude.{slice_get, Some, ◌⊎◌}
use Rattle.std.specs.List.{AllZip}
use Rattle.mm_base.specs.declared.statement.Kind.TheVariants.{Floating, Essential}
use Rattle.mm_code.specs.declared.code.CodeRule.TheVariants as code
use Rattle.mm_frame.specs.Sentence.{Sentence, IsHypothesis, IsLabelled, Types}
use Rattle.mm_frame.specs.Active.{SomeActive}
use Rattle.mm_frame.specs.Frame.{IsMandatory, IsMandatoryPair}
use Rattle.mm_step.specs.declared.fault.ProofRule.{ProofRule}
use Rattle.mm_step.specs.declared.fault.ProofRule.TheVariants.{P1, P2, P3, P4, P5, P6, P7, P8, P9}
use Rattle.mm_step.specs.declared.fault.ProofRule.TheVariants.{P10, P11, P12, P13, P14, P15, L1}
use Rattle.mm_step.specs.Substitution.{Expression, Substitution, IsOn, instance_of}
use Rattle.mm_step.specs.Tree.{Trees, none, Names, ShareNoVariable, AreDistinct, DeriveAll}
use Rattle.mm_step.specs.Moves.{Move, name, again, mark, Makes}

-- the expression has at most so many symbols, its type code counted
abbrev pub IsWithin : ℕ → List (List ℕ) → Type 0
IsWithin limit e = length e ≤ limit

-- the rank of a rule among those that are judged together
abbrev pub proof_rank : ProofRule → ℕ
proof_rank P1 = 1
proof_rank P2 = 2
proof_rank P3 = 3
proof_rank P4 = 4
proof_rank P5 = 5
proof_rank P15 = 6
proof_rank P6 = 7
proof_rank P7 = 8
proof_rank P8 = 9
proof_rank P9 = 10
proof_rank P10 = 11
proof_rank P11 = 12
proof_rank P12 = 13
proof_rank L1 = 14
proof_rank P13 = 15
proof_rank P14 = 16

-- The step by the assertion at an index meets this on a stack: there are enough entries, the
-- topmost of which stand for the mandatory hypotheses, the last for the topmost; σ replaces each
-- mandatory variable by what follows the first symbol of the entry of its `$f`.
pub record MeetsHypotheses (before : List Sentence) (stack : List Expression)
    (label : List ℕ) : Type 0 where
  pub index : ℕ
  pub assertion : Sentence
  pub hypotheses : List Sentence
  pub names : Names before label index assertion hypotheses
  pub rest : List Expression
  pub entries : List Expression
  pub split : stack ≡ rest ++ entries
  pub paired : length entries ≡ length hypotheses
  pub σ : Substitution
  pub on : IsOn (IsMandatory (take index before) assertion) σ
  pub replaced : (i : ℕ) (h : Sentence) (entry : List (List ℕ)) (code x : List ℕ)
      → slice_get hypotheses i ≡ Some h → slice_get entries i ≡ Some entry
      → Types code x h → σ x ≡ Some (drop 1 entry)

-- the hypothesis at a number and its entry are so
abbrev pub SomePair : List Sentence → List Expression → (Sentence → Expression → Type 0) → Type 0
SomePair hypotheses entries P =
    (i : ℕ) × (h : Sentence) × (entry : List (List ℕ)) × (slice_get hypotheses i ≡ Some h)
    × (slice_get entries i ≡ Some entry) × P h entry

-- some mandatory pair of the assertion, with what replaces its members, is so
abbrev pub SomeReplacedPair : List Sentence → (stack : List Expression) → (label : List ℕ)
    → (Expression → Expression → Type 0) → Type 0
SomeReplacedPair before stack label P =
    (m : MeetsHypotheses before stack label) × (x : List ℕ) × (y : List ℕ) × (e : List (List ℕ))
    × (f : List (List ℕ))
    × IsMandatoryPair (take m.index before) m.assertion x y × (m.σ x ≡ Some e) × (m.σ y ≡ Some f)
    × P e f

-- The step by this label on a stack of expressions breaks the rule.
abbrev pub BreaksStep : (Expression → Type 0) → ProofRule → List Sentence → List Expression
    → List ℕ → Type 0
BreaksStep Fits P8 before stack label =
    (index : ℕ) × (assertion : Sentence) × (hypotheses : List Sentence)
    × Names before label index assertion hypotheses
    × (length stack < length hypotheses)
BreaksStep Fits P9 before stack label =
    (m : MeetsHypotheses before stack label)
    × SomePair m.hypotheses m.entries
    (λ h entry. (h.kind ≡ Floating) × (slice_get entry 0 ≢ slice_get h.symbols 0))
BreaksStep Fits P10 before stack label =
    (m : MeetsHypotheses before stack label)
    × SomePair m.hypotheses m.entries
    (λ h entry. (h.kind ≡ Essential) × (entry ≢ instance_of m.σ h.symbols))
BreaksStep Fits P11 before stack label =
    SomeReplacedPair before stack label (λ e f. ¬ (ShareNoVariable before e f))
BreaksStep Fits P12 before stack label =
    SomeReplacedPair before stack label (λ e f. ¬ (AreDistinct before e f))
BreaksStep Fits L1 before stack label =
    SomeActive before (λ h. IsLabelled label h × IsHypothesis h.kind × ¬ (Fits h.symbols))
    ⊎ ((m : MeetsHypotheses before stack label) × ¬ (Fits (instance_of m.σ m.assertion.symbols)))
BreaksStep Fits rule before stack label = ⊥

-- The move breaks the rule where this is on the stack and this is kept. A mark does before any
-- step, when nothing is there to keep.
abbrev pub BreaksMove : (Expression → Type 0) → ProofRule → List Sentence
    → (stack : List Expression) → (kept : List Expression) → Move (List ℕ) → Type 0
BreaksMove Fits rule before stack kept (name label) = BreaksStep Fits rule before stack label
BreaksMove Fits rule before stack kept (again tag) = (rule ≡ P6) × (length kept ≤ tag)
BreaksMove Fits rule before stack kept mark = (rule ≡ P7) × (stack ≡ [])

-- the first rule that the move breaks
pub record FirstAtMove (Fits : Expression → Type 0) (rule : ProofRule) (before : List Sentence)
    (stack kept : List Expression) (move : Move (List ℕ)) : Type 0 where
  pub broken : BreaksMove Fits rule before stack kept move
  pub first : (other : ProofRule) → proof_rank other < proof_rank rule
      → ¬ (BreaksMove Fits other before stack kept move)

-- A prefix of the moves passed: it makes trees that derive the expressions on the stack, each step
-- one that fits, and keeps trees that derive the kept ones.
pub record Passed (Fits : Expression → Type 0) (before : List Sentence)
    (moves : List (Move (List ℕ))) (stack kept : List Expression) : Type 0 where
  pub trees : Trees
  pub shelf : List Trees
  pub made : Makes before moves none [] trees shelf
  pub derived : DeriveAll Fits before trees stack
  pub kept_derived : AllZip (λ t e. DeriveAll Fits before t (e ∷ [])) shelf kept
