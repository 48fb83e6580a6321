-- The line is made of the rules of the arguments, one after the other.
use Rattle.std.proofs.Common.{codes, rules}
use Rattle.clap.specs.Words.{new_app}
use Rattle.mm_words.proofs.command_line.lemmas_command.Goals as goal

pub returns-clause-shape : goal.returns-clause-shape
returns-clause-shape c =
    let list_line = c.with_argument-command.ensures.shape (new_app (codes "lemmas")) _
    c.flag_argument.ensures.local (search rules) c.flag_argument.ensures.rule in
    let all_line = c.with_argument-command-2.ensures.shape _ _ c.flag_argument-2.ensures.local
    list_line c.flag_argument-2.ensures.rule in
    let most_line = c.with_argument-command-3.ensures.shape _ _ c.option_argument.ensures.local
    all_line c.option_argument.ensures.rule in
    let least_line = c.with_argument-command-4.ensures.shape _ _ c.option_argument-2.ensures.local
    most_line c.option_argument-2.ensures.rule in
    let prefix_line = c.with_argument-command-5.ensures.shape _ _
    c.option_argument-3.ensures.local least_line c.option_argument-3.ensures.rule in
    let comment_line = c.with_argument-command-6.ensures.shape _ _
    c.option_argument-4.ensures.local prefix_line c.option_argument-4.ensures.rule in
    c.with_argument.ensures.shape _ _ c.files_argument.ensures.local
    comment_line c.files_argument.ensures.rule
