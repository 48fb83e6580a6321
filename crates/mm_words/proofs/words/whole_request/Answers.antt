-- The words ask for what the matches of their command say.
use Rattle.std.proofs.Common.{sym}
use Rattle.mm_words.proofs.words.whole_request.Goals as goal

pub returns : goal.returns
returns c = λ words name commands asks. asks _ _ (
  _,
  commands,
  c.asked_profile.ensures,
  sym c.in_ok-values_of.ensures,
)
