-- The text is that of the proof, or of the file with it.
use Rattle.mm_check.proofs.question.minimized_text.Goals as goal

pub returns-then-whole-clause-text : goal.returns-then-whole-clause-text
returns-then-whole-clause-text g c = rw c.if-whole.true c.minimized_whole.ensures.shortened

pub returns-else-whole-clause-text : goal.returns-else-whole-clause-text
returns-else-whole-clause-text g c = rw c.if-whole.false c.minimized_by_library.ensures.text
