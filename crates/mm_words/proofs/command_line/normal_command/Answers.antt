use Rattle.mm_words.proofs.command_line.normal_command.Goals as goal

pub returns-clause-shape : goal.returns-clause-shape
returns-clause-shape c =
    c.with_argument.ensures.shape _ _ c.flag_argument.ensures.local
    c.form_command-command.ensures.shape c.flag_argument.ensures.rule
