-- The line is made of the rules of the arguments, one after the other.
use Rattle.mm_words.proofs.command_line.form_command.Goals as goal

pub returns-clause-shape : goal.returns-clause-shape
returns-clause-shape c =
    let file_line = c.with_argument-command.ensures.shape _ _ c.flag_argument.ensures.local
    c.question_command-command.ensures.shape c.flag_argument.ensures.rule in
    c.with_argument.ensures.shape _ _ c.flag_argument-2.ensures.local
    file_line c.flag_argument-2.ensures.rule
