-- What a book holds.
use Rattle.std.specs.Prelude.{ℕ, List}
use Rattle.mm_base.specs.declared.seed.Seed.{Seed}
use Rattle.mm_frame.specs.Sentence.{Sentence}

-- the statements that were taken, in their order, how many bytes their tokens have, and the seed
-- with which the book was made
pub record Database : Type 0 where
  pub statements : List Sentence
  pub bytes : ℕ
  pub seed : Seed
