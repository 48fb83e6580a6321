-- There are fewer statements than the greatest number.
use Rattle.std.proofs.Common.{List, map, subst}
use Rattle.std.proofs.lemmas.Result.{on_ok_weaker}
use Rattle.mm_base.specs.Statement.{PlainStatement}
use Rattle.mm_text.specs.Files.{plain_file}
use Rattle.mm_text.proofs.PassedStatements.{all_taken}
use Rattle.mm_text.proofs.passing.pass_all.Goals as goal

pub returns : goal.returns
returns g c =
    on_ok_weaker c.pass_first.result
    (λ passed statements ending reads. subst (λ (ss : List PlainStatement).
    g.V.Passing.has_passed c.args.visitor.now c.pass_first.new.visitor ss)
    (all_taken (map plain_file c.args.files.now) statements ending c.requires.readable reads)
    (passed statements ending reads))
    c.pass_first.ensures
