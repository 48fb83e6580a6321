-- The line is made of the rules of the arguments, one after the other.
use Rattle.std.proofs.Common.{codes, rules}
use Rattle.clap.specs.Words.{new_app}
use Rattle.mm_words.proofs.command_line.find_command.Goals as goal

pub returns-clause-shape : goal.returns-clause-shape
returns-clause-shape c =
    let pattern_line = c.with_argument-command.ensures.shape (new_app (codes "find")) _
    c.pattern_argument.ensures.local (search rules) c.pattern_argument.ensures.rule in
    let and_line = c.with_argument-command-2.ensures.shape _ _ c.options_argument.ensures.local
    pattern_line c.options_argument.ensures.rule in
    let whole_line = c.with_argument-command-3.ensures.shape _ _ c.flag_argument.ensures.local
    and_line c.flag_argument.ensures.rule in
    let shape_line = c.with_argument-command-4.ensures.shape _ _
    c.flag_argument-2.ensures.local whole_line c.flag_argument-2.ensures.rule in
    let hypotheses_line = c.with_argument-command-5.ensures.shape _ _
    c.flag_argument-3.ensures.local shape_line c.flag_argument-3.ensures.rule in
    c.with_argument.ensures.shape _ _ c.files_argument.ensures.local
    hypotheses_line c.files_argument.ensures.rule
