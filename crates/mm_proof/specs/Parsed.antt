-- What is said of the tokens of a proof, by numbers.
use Rattle.std.specs.Prelude.{ℕ, List, take}
use Rattle.mm_frame.specs.Sentence.{Sentence}
use Rattle.mm_step.specs.Moves.{Move}
use Rattle.mm_proof.specs.Tokens.{SayMoves}
use Rattle.mm_proof.specs.Proof.{IsWhole}
use Rattle.mm_step.specs.Steps.{AreNumberedMoves, IsProofNumber}

-- of the `$p` with this number, the statement at its index, this holds
abbrev pub OfProof : List Sentence → (id : ℕ) → (ℕ → Sentence → Type 0) → Type 0
OfProof statements id P =
    (index : ℕ) (s : Sentence) → IsProofNumber statements id index s → P index s

-- The tokens of a proof of the statement at an index break no rule over the whole proof, and these
-- are the moves that they say, by numbers.
abbrev pub SaySteps : List Sentence → (index : ℕ) → Sentence → (tokens : List (List ℕ))
    → List (Move ℕ) → Type 0
SaySteps statements index s tokens steps =
    IsWhole (take index statements) tokens
    × (moves : List (Move (List ℕ))) × SayMoves (take index statements) s tokens moves
    × AreNumberedMoves statements steps moves
