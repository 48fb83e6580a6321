-- The reading is one, so what a new reader has left is the statements of the files.
use Rattle.std.proofs.Common.{List, map, subst, take}
use Rattle.std.proofs.lemmas.Result.{on_ok_weaker}
use Rattle.mm_base.specs.Statement.{PlainStatement}
use Rattle.mm_text.specs.Files.{plain_file}
use Rattle.mm_text.proofs.PassedStatements.{left_unread}
use Rattle.mm_text.proofs.passing.pass_first.Goals as goal

pub returns : goal.returns
returns g c =
    on_ok_weaker c.pass_next.result
    (λ passed statements ending reads. subst (λ (ss : List PlainStatement).
    g.V.Passing.has_passed c.args.visitor.now c.pass_next.new.visitor (take c.args.count ss))
    (left_unread (map plain_file c.args.files.now) c.in_ok-statements.statements statements ending
    c.in_ok-statements.ensures reads) passed)
    c.pass_next.ensures
