use Rattle.mm_laws.proofs.SavingLaws.ShortenedAnswers.{shortening_changes_no_verdict}
use Rattle.mm_laws.proofs.laws.shortening_changes_no_verdict.Goals as goal

pub returns : goal.returns
returns c = shortening_changes_no_verdict
