-- What is added to the line of a command is the rule of the argument.
use Rattle.std.proofs.Common.{◌≡◌, ◌∙◌, ap₂}
use Rattle.std.proofs.lemmas.Result.{IfOk-weaker}
use Rattle.clap.specs.Words.{app_of, with_rule}
use Rattle.mm_words.proofs.command_line.with_argument.Goals as goal

pub returns-clause-shape : goal.returns-clause-shape
returns-clause-shape c = λ line rule alone line_made is_rule.
    let is_line : app_of c.in_ok-command.field-0 ≡ line = rw c.in_ok-command.was at line_made in
    IfOk-weaker c.arg.result _ _
    (λ with adds. adds.shape alone ∙ ap₂ with_rule is_line is_rule)
    c.arg.ensures
