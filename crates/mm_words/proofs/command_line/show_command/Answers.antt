-- The line is made of the rules of the arguments, one after the other.
use Rattle.mm_words.proofs.command_line.show_command.Goals as goal

pub returns-clause-shape : goal.returns-clause-shape
returns-clause-shape c =
    let known_line = c.with_argument-command.ensures.shape _ _ c.flag_argument.ensures.local
    c.question_command-command.ensures.shape c.flag_argument.ensures.rule in
    let letters_line = c.with_argument-command-2.ensures.shape _ _ c.flag_argument-2.ensures.local
    known_line c.flag_argument-2.ensures.rule in
    let essential_line = c.with_argument-command-3.ensures.shape _ _ c.flag_argument-3.ensures.local
    letters_line c.flag_argument-3.ensures.rule in
    c.with_argument.ensures.shape _ _ c.flag_argument-4.ensures.local
    essential_line c.flag_argument-4.ensures.rule
