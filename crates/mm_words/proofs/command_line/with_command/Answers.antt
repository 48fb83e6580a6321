-- What is added to the line of one command is that of the other.
use Rattle.std.proofs.Common.{◌≡◌, ◌∙◌, false, ap, ap₂}
use Rattle.std.proofs.lemmas.Result.{IfOk-weaker}
use Rattle.clap.specs.Words.{App, app_of, with_subcommand}
use Rattle.clap.specs.declared.builder.command.Command.TheViews.{out-Command}
use Rattle.mm_words.proofs.command_line.with_command.Goals as goal

pub returns-clause-shape : goal.returns-clause-shape
returns-clause-shape c = λ line below alone line_made below_made.
    let local : (out-Command c.in_ok-other.field-0).has_globals ≡ false =
    rw c.in_ok-other.was at alone in
    let is_line : app_of c.in_ok-command.field-0 ≡ line = rw c.in_ok-command.was at line_made in
    let is_below : app_of c.in_ok-other.field-0 ≡ below = rw c.in_ok-other.was at below_made in
    IfOk-weaker c.subcommand.result _ _
    (λ with adds. adds.shape local
    ∙ ap₂ with_subcommand is_line (ap (λ (a : App). a.top) is_below))
    c.subcommand.ensures
