-- Who uses an assertion, and who rests on it. What proofs use, and what a theorem rests on, are
-- those of `Rests` of `mm_rules`.
use Rattle.std.specs.Prelude.{◌≡◌, ◌↔◌, ℕ, List, Contains, Bool, true, false}
use Rattle.mm_base.specs.declared.statement.Kind.TheVariants.{Axiom}
use Rattle.mm_base.specs.Statement.{PlainStatement}
use Rattle.mm_frame.specs.Sentence.{IsHypothesis, IsAssertion}
use Rattle.mm_rules.specs.declared.ask.AskFault.{AskFault}
use Rattle.mm_rules.specs.declared.ask.AskFault.TheVariants.{Rule, Memory}
use Rattle.mm_rules.specs.declared.rule.AskRule.TheVariants.{A1, A2}
use Rattle.mm_rules.specs.Verdict.{is_unproved}
use Rattle.mm_rules.specs.Rests.{IsNumberWhere, AreInOrder, IsNamed, Uses, RestsOn, IsReport}

-- Why a question about the assertion with a label has no answer: no statement has it; it is that of
-- a hypothesis, which is no assertion. A refused growth says nothing of the statements.
abbrev pub IsAssertionFault : List PlainStatement → List ℕ → AskFault → Type 0
IsAssertionFault statements label (Rule A1) =
    (id : ℕ) → ¬ (IsNamed statements label (λ s. Unit {0}) id)
IsAssertionFault statements label (Rule A2) =
    (id : ℕ) × IsNamed statements label (λ s. IsHypothesis s.kind) id
IsAssertionFault statements label Memory = Unit {0}
IsAssertionFault statements label fault = ⊥

-- the theorem's proof uses the assertion; or, of all users, the theorem rests on it
abbrev pub UsesIt : (all : Bool) → List PlainStatement → (theorem id : ℕ) → Type 0
UsesIt false statements theorem id = Uses statements theorem id
UsesIt true statements theorem id = RestsOn (Uses statements) theorem id

-- these are the users of the assertion with the label, or all of them: theorems with complete
-- proofs
pub record AreUsers (all : Bool) (statements : List PlainStatement) (label : List ℕ)
    (users : List ℕ) : Type 0 where
  pub id : ℕ
  pub assertion : IsNamed statements label (λ s. IsAssertion s.kind) id
  pub are_users : AreInOrder (λ theorem. UsesIt all statements theorem id) users

-- An axiom is in the report of a theorem exactly if the theorem is among all users of the axiom; so
-- is an unproved theorem.
abbrev pub ReportsTellUsers : Type 0
ReportsTellUsers =
    (statements : List PlainStatement) (label other : List ℕ) (axioms unproved users : List ℕ)
    (report : IsReport statements label axioms unproved) (of : AreUsers true statements other users)
    → (IsNumberWhere statements (λ s. s.kind ≡ Axiom) of.id
    → (Contains axioms of.id ↔ Contains users report.id))
    × (IsNumberWhere statements (λ s. is_unproved s ≡ true) of.id
    → (Contains unproved of.id ↔ Contains users report.id))
