-- The line is made of those of the commands, one after the other.
use Rattle.mm_words.proofs.command_line.versions_command.Goals as goal

pub returns-clause-shape : goal.returns-clause-shape
returns-clause-shape c =
    c.with_command.ensures.shape _ _ c.diff_command.ensures.local
    c.proofs_command-command.ensures.shape c.diff_command.ensures.shape
