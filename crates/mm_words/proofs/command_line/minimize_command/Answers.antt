-- The line is made of the rules of the arguments, one after the other.
use Rattle.std.proofs.Common.{codes, rules}
use Rattle.clap.specs.Words.{new_app}
use Rattle.mm_words.proofs.command_line.minimize_command.Goals as goal

pub returns-clause-shape : goal.returns-clause-shape
returns-clause-shape c =
    let file_line = c.with_argument-command.ensures.shape (new_app (codes "minimize")) _
    c.flag_argument.ensures.local (search rules) c.flag_argument.ensures.rule in
    let all_line = c.with_argument-command-2.ensures.shape _ _ c.flag_argument-2.ensures.local
    file_line c.flag_argument-2.ensures.rule in
    let list_line = c.with_argument-command-3.ensures.shape _ _ c.flag_argument-3.ensures.local
    all_line c.flag_argument-3.ensures.rule in
    let duplicates_line = c.with_argument-command-4.ensures.shape _ _
    c.flag_argument-4.ensures.local list_line c.flag_argument-4.ensures.rule in
    c.with_argument.ensures.shape _ _ c.files_argument.ensures.local
    duplicates_line c.files_argument.ensures.rule
