-- The bytes are those that were saved.
use Rattle.mm_check.proofs.question.saved_text.Goals as goal

pub returns-clause-text : goal.returns-clause-text
returns-clause-text c = λ statements reads. (
  c.in_ok-saved.saved.0,
  c.in_ok-saved.ensures.saved statements reads,
  c.in_ok-saved.ensures.fits,
)
