-- What is answered of the files is answered of their statements.
use Rattle.std.proofs.Common.{map, inr}
use Rattle.mm_text.specs.Files.{plain_file}
use Rattle.mm_axioms.proofs.accepted.accepted_users.Goals as goal

pub returns-in-Err-clause-fault : goal.returns-in-Err-clause-fault
returns-in-Err-clause-fault c =
    let kept = c.in-Ok.ensures.kept in
    inr (
      kept.statements,
      kept.are_meant,
      c.in-Err.ensures.fault (map plain_file c.args.files.now) kept,
    )
