-- What a profile allows: this project's own.
use Rattle.std.specs.Prelude.{ℕ}
use Rattle.mm_step.specs.declared.profile.Profile.{Profile}
use Rattle.mm_step.specs.declared.profile.Profile.TheVariants.{Strict, Lenient}

-- the most symbols of an expression that a step may make
abbrev pub limit_of : Profile → ℕ
limit_of Strict = 16777216
limit_of Lenient = 1048576
