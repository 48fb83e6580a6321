-- What a prover holds.
use Rattle.std.specs.Prelude.{ℕ, List}
use Rattle.mm_frame.specs.Database.{Database}

-- the book of the statements that it took, and the numbers of the assertions that the proof uses
-- which it tried last, if it accepted that
pub record Proving : Type 0 where
  pub book : Database
  pub used : List ℕ
