-- The line is made of those of the commands, one after the other.
use Rattle.mm_words.proofs.command_line.database_command.Goals as goal

pub returns-clause-shape : goal.returns-clause-shape
returns-clause-shape c =
    let statement_line = c.with_command-command.ensures.shape _ _ c.statement_command.ensures.local
    c.rests_command-command.ensures.shape c.statement_command.ensures.shape in
    let find_line = c.with_command-command-2.ensures.shape _ _ c.find_command.ensures.local
    statement_line c.find_command.ensures.shape in
    c.with_command.ensures.shape _ _ c.show_command.ensures.local
    find_line c.show_command.ensures.shape
