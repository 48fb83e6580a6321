-- The command seeks the patterns for which the words ask.
use Rattle.std.proofs.Common.{inl}
use Rattle.mm_serve.proofs.serve.find_command.Goals as goal

pub returns-clause-asks : goal.returns-clause-asks
returns-clause-asks c = λ words asks. inl (rw c.requires asks)
