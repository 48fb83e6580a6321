-- What the tokens of a proof say: its labels, its list, its letters, and the one row of moves that
-- they make. Begin with `SaidMoves`: tokens say one row of moves, by names. `ProofLabels`,
-- `ProofCodes` and `CodeLetters` join to it what `parse`, `labels` and `machine` read of normal and
-- of compressed proofs. `QuestionMarks` has the known prefix's tokens, and that no proof that
-- breaks no rule over the whole of it holds a `?`. `WrittenLabels`: the labels of a tree are a
-- proof of what it derives. Clauses of `Steps::parse` and `Prover::prove` rest on it.
pub mod SaidMoves
pub mod ProofLabels
pub mod ProofCodes
pub mod CodeLetters
pub mod QuestionMarks
pub mod SpelledOver
pub mod WrittenLabels
