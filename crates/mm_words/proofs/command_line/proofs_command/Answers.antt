-- The line is made of those of the commands, one after the other.
use Rattle.mm_words.proofs.command_line.proofs_command.Goals as goal

pub returns-clause-shape : goal.returns-clause-shape
returns-clause-shape c =
    let same_line = c.with_command-command.ensures.shape _ _ c.same_command.ensures.local
    c.shorter_command-command.ensures.shape c.same_command.ensures.shape in
    let try_line = c.with_command-command-2.ensures.shape _ _ c.try_command.ensures.local
    same_line c.try_command.ensures.shape in
    c.with_command.ensures.shape _ _ c.mend_command.ensures.local
    try_line c.mend_command.ensures.shape
