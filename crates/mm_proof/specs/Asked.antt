-- What a step by an assertion asks of the entries of its mandatory hypotheses (the Metamath book,
-- section 4.1.4), and which of two expressions' variables keep it from being made (section 4.2.4).
use Rattle.std.specs.Prelude.{◌≡◌, ◌<◌, ℕ, List, Contains, Some, slice_get, ◌↔◌, ◌⊎◌}
use Rattle.mm_frame.specs.Sentence.{Sentence}
use Rattle.mm_frame.specs.Active.{IsConstant, IsVariable}
use Rattle.mm_frame.specs.Frame.{IsDistinct}
use Rattle.mm_frame.specs.Numbers.{IsNumberOf}
use Rattle.mm_step.specs.Substitution.{Symbol, Expression, instance_of}
use Rattle.mm_step.specs.Proof.{MeetsHypotheses}

-- What the mandatory hypothesis with a number, from 0 on, asks where the step by the label is made
-- on this stack: the hypothesis under the substitution that the entries of the `$f` give.
abbrev pub AsksFor : (before : List Sentence) → (stack : List Expression) → (label : List ℕ)
    → (number : ℕ) → Expression → Type 0
AsksFor before stack label number asked =
    (m : MeetsHypotheses before stack label) × (h : Sentence)
    × (slice_get m.hypotheses number ≡ Some h) × (asked ≡ instance_of m.σ h.symbols)

-- each symbol of the expression is declared before
abbrev pub AreDeclared : (before : List Sentence) → List Symbol → Type 0
AreDeclared before e = (u : Symbol) → Contains e u → IsConstant before u ⊎ IsVariable before u

-- the one symbol was declared before the other
abbrev pub IsEarlier : (before : List Sentence) → Symbol → Symbol → Type 0
IsEarlier before u v =
    (m : ℕ) × (n : ℕ) × IsNumberOf before u m × IsNumberOf before v n × (m < n)

-- of two pairs, the one whose first symbol was declared before, or whose second one where the first
-- ones are the same
abbrev pub IsEarlierPair : (before : List Sentence) → Symbol × Symbol → Symbol × Symbol → Type 0
IsEarlierPair before p q =
    IsEarlier before p.0 q.0 ⊎ ((p.0 ≡ q.0) × IsEarlier before p.1 q.1)

-- each of them is so to all that stand behind it
abbrev pub StandInOrder : {X : Type 0} → (Comes : X → X → Type 0) → List X → Type 0
StandInOrder {X} Comes xs =
    (i j : ℕ) (x y : X) → i < j → slice_get xs i ≡ Some x → slice_get xs j ≡ Some y → Comes x y

-- the variables that stand in both expressions, each once, in the order of their declarations
pub record AreShared (before : List Sentence) (e f : List Symbol)
    (shared : List Symbol) : Type 0 where
  pub each : (u : Symbol) → Contains shared u
      ↔ (IsVariable before u × Contains e u × Contains f u)
  pub in_order : StandInOrder (IsEarlier before) shared

-- The pair is one of variables, and no active pair; the variable that was declared first stands
-- first.
pub record IsUnstated (before : List Sentence) (p : Symbol × Symbol) : Type 0 where
  pub first : IsVariable before p.0
  pub second : IsVariable before p.1
  pub earlier : IsEarlier before p.0 p.1
  pub inactive : ¬ (IsDistinct before p.0 p.1)

-- the one of the two stands in the one expression, and the other one in the other
abbrev pub StandsAcross : (e f : List Symbol) → Symbol × Symbol → Type 0
StandsAcross e f p = (Contains e p.0 × Contains f p.1) ⊎ (Contains e p.1 × Contains f p.0)

-- The pairs of variables, one of each expression, that a `$d` has to state, each once, in the order
-- of their declarations.
pub record AreMissing (before : List Sentence) (e f : List Symbol)
    (missing : List (Symbol × Symbol)) : Type 0 where
  pub each : (p : Symbol × Symbol) → Contains missing p
      ↔ (IsUnstated before p × StandsAcross e f p)
  pub in_order : StandInOrder (IsEarlierPair before) missing
