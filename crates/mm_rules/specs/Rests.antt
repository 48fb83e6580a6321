-- What a theorem rests on: the axioms and the unproved theorems in the least set that holds what
-- its proof uses and, with each theorem in it whose proof is complete, what that one's proof uses.
-- The proofs are those of the Metamath book, sections 4.2.6 and 4.3; the set is this project's own.
use Rattle.std.specs.Prelude.{◌≡◌, ◌≢◌, ℕ, ◌<◌, List, take, slice_get, Contains, Bool, true, Some}
use Rattle.std.specs.Prelude.{◌↔◌}
use Rattle.mm_base.specs.declared.statement.Kind.TheVariants.{Axiom, Provable}
use Rattle.mm_base.specs.Statement.{PlainStatement}
use Rattle.mm_frame.specs.Sentence.{Sentence, sentence_of, IsLabelled}
use Rattle.mm_frame.specs.Numbers.{IsNumbered}
use Rattle.mm_step.specs.Tree.{Trees, none, tree}
use Rattle.mm_proof.specs.Proof.{IsProvedWithin, IsProved}
use Rattle.mm_proof.specs.Used.{IsUsedNumber, AreUsed}
use Rattle.mm_rules.specs.Conclusion.{ProofUses, numbers_of}
use Rattle.mm_rules.specs.declared.ask.AskFault.{AskFault}
use Rattle.mm_rules.specs.declared.ask.AskFault.TheVariants.{Rule, F3, Text, Memory}
use Rattle.mm_rules.specs.declared.rule.AskRule.TheVariants.{A1, A2, A3, L2}
use Rattle.mm_rules.specs.Verdict.{proof_of, is_proof, is_unproved, sentences}

-- ---- numbers of statements

-- the labelled statement with a number, and its index
pub record IsAt (statements : List PlainStatement) (id index : ℕ)
    (s : PlainStatement) : Type 0 where
  pub there : slice_get statements index ≡ Some s
  pub numbered : IsNumbered (sentences statements) id index (sentence_of s)

-- the statement with the number is so
abbrev pub IsNumberWhere : List PlainStatement → (PlainStatement → Type 0) → ℕ → Type 0
IsNumberWhere statements P id =
    (index : ℕ) × (s : PlainStatement) × IsAt statements id index s × P s

-- each number is less than those after it: the order is that of the database, and none stands twice
abbrev pub AreRising : List ℕ → Type 0
AreRising ids = (i j a b : ℕ) → i < j → slice_get ids i ≡ Some a → slice_get ids j ≡ Some b → a < b

-- these are the numbers that are so, in the order of the database
pub record AreInOrder (P : ℕ → Type 0) (ids : List ℕ) : Type 0 where
  pub rising : AreRising ids
  pub each : (id : ℕ) → Contains ids id ↔ P id

-- ---- what proofs use

-- the tree that a proof spells
abbrev pub tree_of : {Fits : List (List ℕ) → Type 0} {before : List Sentence} {s : Sentence}
    {tokens : List (List ℕ)}
    → IsProvedWithin Fits before s tokens → Trees
tree_of proof = tree proof.proves.label proof.proves.below none

-- the number is that of a `$p` with a complete proof, which spells this tree
pub record HasTree (statements : List PlainStatement) (id index : ℕ) (t : Trees) : Type 0 where
  pub s : PlainStatement
  pub at : IsAt statements id index s
  pub complete : is_proof s ≡ true
  pub proof : IsProved (sentences (take index statements)) (sentence_of s) (proof_of s)
  pub spelled : t ≡ tree_of proof

-- the second number is that of an assertion in the tree of the proof of the first
abbrev pub Uses : List PlainStatement → ℕ → ℕ → Type 0
Uses statements id used =
    (index : ℕ) × (t : Trees) × HasTree statements id index t
    × IsUsedNumber (sentences (take index statements)) t used

-- these are the uses of all complete proofs: of each its number, and those of the assertions in its
-- tree
pub record AreUses (statements : List PlainStatement) (uses : List ProofUses) : Type 0 where
  pub proofs : AreInOrder (IsNumberWhere statements (λ s. is_proof s ≡ true)) (numbers_of uses)
  pub each : (u : ProofUses) → Contains uses u
      → (index : ℕ) × (t : Trees) × HasTree statements u.number index t
      × AreUsed (sentences (take index statements)) t u.used

-- ---- the least set

-- a set that holds what the proof of a theorem uses and, with each theorem in it, what that one's
-- proof uses
pub record IsClosed (Uses : ℕ → ℕ → Type 0) (theorem : ℕ) (set : ℕ → Bool) : Type 0 where
  pub own : (used : ℕ) → Uses theorem used → set used ≡ true
  pub others : (id used : ℕ) → set id ≡ true → Uses id used → set used ≡ true

-- the theorem rests on it: it is in each of these sets, and so in the least of them
abbrev pub RestsOn : (ℕ → ℕ → Type 0) → ℕ → ℕ → Type 0
RestsOn Uses theorem id = (set : ℕ → Bool) → IsClosed Uses theorem set → set id ≡ true

-- ---- questions by label

-- a statement with this number has the label, and is so
abbrev pub IsNamed : List PlainStatement → List ℕ → (PlainStatement → Type 0) → ℕ → Type 0
IsNamed statements label P = IsNumberWhere statements (λ s. IsLabelled label (sentence_of s) × P s)

-- Why a question about the theorem with a label has no answer: no statement has it; it is that of a
-- statement other than a `$p`; it is that of a `$p` whose proof is incomplete. Other faults are
-- those of single questions. A refused growth says nothing of the statements.
abbrev pub IsAskFault : List PlainStatement → List ℕ → AskFault → Type 0
IsAskFault statements label (Rule A1) = (id : ℕ) → ¬ (IsNamed statements label (λ s. Unit {0}) id)
IsAskFault statements label (Rule A2) = (id : ℕ) × IsNamed statements label (λ s. s.kind ≢ Provable) id
IsAskFault statements label (Rule A3) = (id : ℕ) × IsNamed statements label (λ s. is_unproved s ≡ true) id
IsAskFault statements label (Rule L2) = ⊥
IsAskFault statements label (Text rule step) = ⊥
IsAskFault statements label F3 = ⊥
IsAskFault statements label Memory = Unit {0}

-- of what the theorem with the label rests on: the `$a`, and the `$p` with incomplete proofs
pub record IsReport (statements : List PlainStatement) (label : List ℕ)
    (axioms unproved : List ℕ) : Type 0 where
  pub id : ℕ
  pub theorem : IsNamed statements label (λ s. is_proof s ≡ true) id
  pub are_axioms : AreInOrder
      (λ n. IsNumberWhere statements (λ s. s.kind ≡ Axiom) n
      × RestsOn (Uses statements) id n) axioms
  pub are_unproved : AreInOrder
      (λ n. IsNumberWhere statements (λ s. is_unproved s ≡ true) n
      × RestsOn (Uses statements) id n) unproved
