-- The words ask what changed, or name no two sides.
use Rattle.std.proofs.Common.{inr}
use Rattle.mm_words.proofs.diff_request.diff_request.Goals as goal

pub returns-in-Some-clause-request : goal.returns-in-Some-clause-request
returns-in-Some-clause-request c = λ rows commands.
    (rows, commands, rw c.behind_command.ensures at c.in-Some.ensures.some)

pub returns-in_ok-format-in-None-clause-fault : goal.returns-in_ok-format-in-None-clause-fault
returns-in_ok-format-in-None-clause-fault c = λ rows commands.
    inr (inr (inr (inr (inr (inr (inr (inr (inr
    (rows, commands, rw c.behind_command.ensures at c.in-None.ensures.none)))))))))
