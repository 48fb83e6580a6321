-- What is said of the moves, and of the tokens, of a proof, by numbers.
use Rattle.std.specs.Prelude.{ℕ, List, take}
use Rattle.mm_frame.specs.Sentence.{Sentence}
use Rattle.mm_step.specs.Tree.{tree, none}
use Rattle.mm_step.specs.Moves.{Move}
use Rattle.mm_step.specs.declared.fault.ProofRule.{ProofRule}
use Rattle.mm_step.specs.Proof.{IsWithin}
use Rattle.mm_proof.specs.Proof.{Prove, IsProvedWithin, IsMovesFault}
use Rattle.mm_step.specs.Steps.{AreNumberedMoves, IsProofNumber}
use Rattle.mm_proof.specs.Used.{AreUsedNumbers, AreUsed}

-- of the `$p` with this number and its moves, by names, this holds
abbrev pub OfMoves : List Sentence → ℕ → List (Move ℕ)
    → (ℕ → Sentence → List (Move (List ℕ)) → Type 0) → Type 0
OfMoves statements id steps P =
    (index : ℕ) (s : Sentence) (moves : List (Move (List ℕ))) → IsProofNumber statements id index s
    → AreNumberedMoves statements steps moves → P index s moves

-- the moves prove the statement, and these are the numbers of the assertions of its tree, in any
-- order, each once or more
abbrev pub ProvesUsingNumbers : (limit : ℕ) → List Sentence → ℕ → Sentence → List (Move (List ℕ))
    → List ℕ → Type 0
ProvesUsingNumbers limit statements index s moves used =
    (p : Prove (IsWithin limit) (take index statements) s moves)
    × AreUsedNumbers (take index statements) (tree p.label p.below none) used

-- the moves prove the statement, and these are the numbers of the assertions of its tree, each
-- once, in database order
abbrev pub ProvesUsing : (limit : ℕ) → List Sentence → ℕ → Sentence → List (Move (List ℕ))
    → List ℕ → Type 0
ProvesUsing limit statements index s moves used =
    (p : Prove (IsWithin limit) (take index statements) s moves)
    × AreUsed (take index statements) (tree p.label p.below none) used

-- the first fault of the moves, as a proof of the statement at the index, is this rule at this step
abbrev pub FailsWith : (limit : ℕ) → List Sentence → (index : ℕ) → Sentence
    → List (Move (List ℕ)) → ProofRule → (step : ℕ) → Type 0
FailsWith limit statements index s moves rule step =
    IsMovesFault (IsWithin limit) (take index statements) s moves rule step

-- The tokens prove the statement after those before it, and these are the numbers of the assertions
-- of its tree, in any order, each once or more.
pub record TokensProve (limit : ℕ) (before : List Sentence) (s : Sentence) (tokens : List (List ℕ))
    (used : List ℕ) : Type 0 where
  pub proof : IsProvedWithin (IsWithin limit) before s tokens
  pub all : AreUsedNumbers before (tree proof.proves.label proof.proves.below none) used
