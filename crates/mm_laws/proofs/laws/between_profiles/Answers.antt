use Rattle.mm_verdict.proofs.Verdicts.OneVerdict as between
use Rattle.mm_laws.proofs.laws.between_profiles.Goals as goal

pub returns : goal.returns
returns c = between.between_profiles
