-- The line is made of the rules of the arguments, one after the other.
use Rattle.std.proofs.Common.{rules}
use Rattle.clap.specs.Words.{new_app}
use Rattle.mm_words.proofs.command_line.text_command.Goals as goal

pub returns-clause-shape : goal.returns-clause-shape
returns-clause-shape c =
    let label_line = c.with_argument-command.ensures.shape (new_app c.args.name.now) _
    c.label_argument.ensures.local (search rules) c.label_argument.ensures.rule in
    let proof_line = c.with_argument-command-2.ensures.shape _ _ c.proof_argument.ensures.local
    label_line c.proof_argument.ensures.rule in
    c.with_argument.ensures.shape _ _ c.files_argument.ensures.local
    proof_line c.files_argument.ensures.rule
