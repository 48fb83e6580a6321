-- The line is made of those of the commands, one after the other.
use Rattle.mm_words.proofs.command_line.rests_command.Goals as goal

pub returns-clause-shape : goal.returns-clause-shape
returns-clause-shape c =
    let axioms_line = c.with_command-command.ensures.shape _ _ c.axioms_command.ensures.local
    c.check_commands-command.ensures.shape c.axioms_command.ensures.shape in
    c.with_command.ensures.shape _ _ c.users_command.ensures.local
    axioms_line c.users_command.ensures.shape
