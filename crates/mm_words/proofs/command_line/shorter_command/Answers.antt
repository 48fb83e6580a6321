-- The line is made of those of the commands, one after the other.
use Rattle.mm_words.proofs.command_line.shorter_command.Goals as goal

pub returns-clause-shape : goal.returns-clause-shape
returns-clause-shape c =
    let minimize_line = c.with_command-command.ensures.shape _ _ c.minimize_command.ensures.local
    c.forms_command-command.ensures.shape c.minimize_command.ensures.shape in
    c.with_command.ensures.shape _ _ c.lemmas_command.ensures.local
    minimize_line c.lemmas_command.ensures.shape
