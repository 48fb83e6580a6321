-- Where the hashes of names begin.
use Rattle.std.specs.Prelude.{ℕ, fold}
use Rattle.std.specs.Hash.{u64}
use Rattle.std.specs.Hash.FoldHasher.{initial, write}
use Rattle.mm_base.specs.declared.seed.Seed.{Seed}

-- the seed with a number: hashes begin from a hasher that was given its bytes, the lowest first
abbrev pub seed_of : ℕ → Seed
seed_of number = record { begun = fold write initial (u64 number) }

-- the number of the seed that everybody knows
abbrev pub known_number : ℕ
known_number = 0
