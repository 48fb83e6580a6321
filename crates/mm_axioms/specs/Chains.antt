-- Why a theorem depends on an assertion: of the chains of uses from the theorem to the assertion,
-- the first of the shortest, compared from the theorem on. Where both are one statement, the chain
-- is the theorem alone. What a proof uses is that of `Rests` of `mm_rules`.
use Rattle.std.specs.Prelude.{◌≡◌, ◌≢◌, ◌⊎◌, ℕ, ◌<◌, ◌≤◌, List, [], ◌∷◌, length, true}
use Rattle.mm_base.specs.Statement.{PlainStatement}
use Rattle.mm_frame.specs.Sentence.{IsAssertion}
use Rattle.mm_rules.specs.declared.ask.AskFault.TheVariants as ask_fault
use Rattle.mm_rules.specs.Verdict.{is_proof}
use Rattle.mm_rules.specs.Rests.{IsNamed, IsAskFault, Uses, RestsOn}
use Rattle.mm_axioms.specs.Users.{IsAssertionFault}
use Rattle.mm_axioms.specs.declared.chains.ChainFault.{ChainFault}
use Rattle.mm_axioms.specs.declared.chains.ChainFault.TheVariants.{Theorem, Assertion, Independent}
use Rattle.mm_axioms.specs.declared.chains.ChainFault.TheVariants.{Memory}

-- a chain leads from one number over these to another: each number uses the next, and the last is
-- the end
abbrev pub Leads : (Uses : ℕ → ℕ → Type 0) → (from to : ℕ) → List ℕ → Type 0
Leads Uses from to [] = from ≡ to
Leads Uses from to (next ∷ others) = Uses from next × Leads Uses next to others

-- of two lists the one isn't after the other: where they first differ, it has the lesser number
abbrev pub IsNotAfter : (one other : List ℕ) → Type 0
IsNotAfter [] other = Unit {0}
IsNotAfter (x ∷ xs) [] = ⊥
IsNotAfter (x ∷ xs) (y ∷ ys) = (x < y) ⊎ ((x ≡ y) × IsNotAfter xs ys)

-- these lead from one number to another, no fewer do, and of as many they come first in the order
-- of the database
pub record IsFirstChain (Uses : ℕ → ℕ → Type 0) (from to : ℕ) (others : List ℕ) : Type 0 where
  pub leads : Leads Uses from to others
  pub shortest : (ys : List ℕ) → Leads Uses from to ys → length others ≤ length ys
  pub first : (ys : List ℕ) → Leads Uses from to ys → length ys ≡ length others
      → IsNotAfter others ys

-- the theorem with the one label, and the assertion with the other
pub record AreEnds (statements : List PlainStatement) (label other : List ℕ)
    (theorem assertion : ℕ) : Type 0 where
  pub is_theorem : IsNamed statements label (λ s. is_proof s ≡ true) theorem
  pub is_assertion : IsNamed statements other (λ s. IsAssertion s.kind) assertion

-- the theorem, and behind it the first of the shortest chains from it to the assertion
pub record IsChain (statements : List PlainStatement) (label other : List ℕ)
    (chain : List ℕ) : Type 0 where
  pub theorem : ℕ
  pub assertion : ℕ
  pub ends : AreEnds statements label other theorem assertion
  pub others : List ℕ
  pub whole : chain ≡ theorem ∷ others
  pub first : IsFirstChain (Uses statements) theorem assertion others

-- Why there is no chain: nothing can be asked of the theorem, or of the assertion; or the theorem
-- is
-- another and doesn't rest on it. A refused growth says nothing of the statements.
abbrev pub IsChainFault : List PlainStatement → (label other : List ℕ) → ChainFault → Type 0
IsChainFault statements label other (Theorem ask_fault.Memory) = ⊥
IsChainFault statements label other (Theorem fault) = IsAskFault statements label fault
IsChainFault statements label other (Assertion ask_fault.Memory) = ⊥
IsChainFault statements label other (Assertion fault) =
    ((id : ℕ) × IsNamed statements label (λ s. is_proof s ≡ true) id)
    × IsAssertionFault statements other fault
IsChainFault statements label other Independent =
    (theorem assertion : ℕ) × AreEnds statements label other theorem assertion
    × (theorem ≢ assertion) × ¬ (RestsOn (Uses statements) theorem assertion)
IsChainFault statements label other Memory = Unit {0}
