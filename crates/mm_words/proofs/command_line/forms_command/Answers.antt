-- The line is made of those of the commands, one after the other.
use Rattle.mm_words.proofs.command_line.forms_command.Goals as goal

pub returns-clause-shape : goal.returns-clause-shape
returns-clause-shape c =
    let normal_line = c.with_command-command.ensures.shape _ _ c.normal_command.ensures.local
    c.database_command-command.ensures.shape c.normal_command.ensures.shape in
    let packed_line = c.with_command-command-2.ensures.shape _ _ c.packed_command.ensures.local
    normal_line c.packed_command.ensures.shape in
    c.with_command.ensures.shape _ _ c.small_command.ensures.local
    packed_line c.small_command.ensures.shape
