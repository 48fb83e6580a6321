-- Which `$d` statements a proof lacks: those with which, put before the theorem, no move breaks
-- P12, up to the first that breaks another rule (the Metamath book, sections 4.1.4 and 4.2.4).
use Rattle.std.specs.Prelude.{◌≡◌, ◌≢◌, ◌<◌, ℕ, List, [], ◌∷◌, ◌++◌, map, Contains, None}
use Rattle.mm_base.specs.declared.statement.Kind.TheVariants.{Distinct}
use Rattle.mm_frame.specs.Sentence.{Sentence}
use Rattle.mm_frame.specs.Rules.{AllMeant}
use Rattle.mm_step.specs.declared.fault.ProofRule.{ProofRule}
use Rattle.mm_step.specs.declared.fault.ProofRule.TheVariants.{P12}
use Rattle.mm_step.specs.Substitution.{Symbol, Expression}
use Rattle.mm_step.specs.Moves.{Move, name}
use Rattle.mm_step.specs.Proof.{Passed, FirstAtMove, SomeReplacedPair, BreaksStep, proof_rank}
use Rattle.mm_proof.specs.Asked.{IsUnstated, IsEarlierPair, StandInOrder}

-- the statement `$d x y $.`
abbrev pub distinct_sentence : Symbol × Symbol → Sentence
distinct_sentence p = record { kind = Distinct; label = None; symbols = p.0 ∷ p.1 ∷ [] }

-- the statements before, and behind them a `$d` for each of the pairs
abbrev pub with_pairs : List Sentence → List (Symbol × Symbol) → List Sentence
with_pairs before pairs = before ++ map distinct_sentence pairs

-- no move is left; or the first of them breaks another rule than P12 first
abbrev pub StopsElsewhere : (Expression → Type 0) → List Sentence → (stack kept : List Expression)
    → (left : List (Move (List ℕ))) → Type 0
StopsElsewhere Fits before stack kept [] = Unit {0}
StopsElsewhere Fits before stack kept (move ∷ more) =
    (rule : ProofRule) × (rule ≢ P12) × FirstAtMove Fits rule before stack kept move

-- No move breaks P12, up to the first that breaks another rule: they pass up to the end, or up to
-- one that breaks another rule first.
pub record PassElsewhere (Fits : Expression → Type 0) (before : List Sentence)
    (moves : List (Move (List ℕ))) : Type 0 where
  pub earlier : List (Move (List ℕ))
  pub left : List (Move (List ℕ))
  pub parts : moves ≡ earlier ++ left
  pub stack : List Expression
  pub kept : List Expression
  pub passed : Passed Fits before earlier stack kept
  pub stops : StopsElsewhere Fits before stack kept left

-- A step of the moves asks the two to be an active pair: it breaks no rule that is judged before
-- P12, and what replaces the members of a mandatory pair of its assertion, on the stack before it,
-- has the one and the other.
pub record AskDisjoint (Fits : Expression → Type 0) (before : List Sentence)
    (moves : List (Move (List ℕ))) (u v : Symbol) : Type 0 where
  pub earlier : List (Move (List ℕ))
  pub label : List ℕ
  pub later : List (Move (List ℕ))
  pub parts : moves ≡ earlier ++ name label ∷ later
  pub stack : List Expression
  pub kept : List Expression
  pub passed : Passed Fits before earlier stack kept
  pub unbroken : (other : ProofRule) → proof_rank other < proof_rank P12
      → ¬ (BreaksStep Fits other before stack label)
  pub asked : SomeReplacedPair before stack label (λ e f. Contains e u × Contains f v)

-- These are the pairs of variables that the moves lack, each once, in the order of their
-- declarations. With a `$d` for each of them the statements break no rule of meaning, and no move
-- breaks P12, up to the first that breaks another rule; and each is asked for by one of these, and
-- isn't active without them.
pub record AreLacking (Fits : Expression → Type 0) (before : List Sentence)
    (moves : List (Move (List ℕ))) (pairs : List (Symbol × Symbol)) : Type 0 where
  pub meant : AllMeant (with_pairs before pairs)
  pub enough : PassElsewhere Fits (with_pairs before pairs) moves
  pub needed : (p : Symbol × Symbol) → Contains pairs p
      → IsUnstated before p × AskDisjoint Fits (with_pairs before pairs) moves p.0 p.1
  pub in_order : StandInOrder (IsEarlierPair before) pairs
