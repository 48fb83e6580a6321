use Rattle.std.proofs.lemmas.Result.{IfOk-weaker}
use Rattle.mm_listing.proofs.Machines.ToldLines.{every_line}
use Rattle.mm_listing.proofs.lines.listing.Goals as goal

pub returns-clause-listed : goal.returns-clause-listed
returns-clause-listed c =
    IfOk-weaker c.lines_of_steps.result _ _ (λ lines h index s moves proof numbered.
    every_line _ _ moves lines.items (h index s moves proof numbered)) c.lines_of_steps.ensures.listed
