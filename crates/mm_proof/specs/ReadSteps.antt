-- The steps of a proof, as they are read.
use Rattle.std.specs.Prelude.{ℕ, List, Bool}
use Rattle.mm_step.specs.Moves.{Move}
use Rattle.mm_step.specs.declared.profile.Profile.{Profile}

-- The moves, by numbers; the profile under which they are judged; and whether they are those of the
-- known prefix of an incomplete proof, not of a whole one.
pub record ReadSteps : Type 0 where
  pub profile : Profile
  pub prefix : Bool
  pub moves : List (Move ℕ)
