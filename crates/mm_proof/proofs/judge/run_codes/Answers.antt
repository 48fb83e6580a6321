use Rattle.std.proofs.Common.{refl}
use Rattle.mm_base.proofs.Lists.{all_at}
use Rattle.mm_proof.specs.Mirror.CodeSteps.{code_moves}
use Rattle.mm_step.specs.Mirror.CodeRun.{MayBeMade}
use Rattle.mm_proof.proofs.ProofVerdicts.JudgedMoves.{refused, judged_none, stopped_fault}
use Rattle.mm_proof.proofs.judge.run_codes.Goals as goal

pub run-requires-clause-begun : goal.run-requires-clause-begun
run-requires-clause-begun g c =
    judged_none g.S.Store.stack g.S.Store.kept _ c.requires.stack c.requires.kept refl refl c.requires.long c.requires.unmarked

pub run-requires-clause-allowed : goal.run-requires-clause-allowed
run-requires-clause-allowed g c index move there =
    let site = c.args.table.now.site in
    all_at (MayBeMade site.statements site.index) (code_moves c.args.table.now.ids c.args.codes.now)
    index move c.requires.usable there

pub returns-in_err-run-clause-fault : goal.returns-in_err-run-clause-fault
returns-in_err-run-clause-fault g c rule at is =
    let s = c.in_err-run.ensures.stops in
    stopped_fault c.args.table.now.site _ s.index s.move _ s.there s.known rule at
    (refused _ _ _ c.from_residual.ensures.1 is)
