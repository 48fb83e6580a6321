use Rattle.std.proofs.Common.{take}
use Rattle.mm_proof.specs.Mirror.CodeSteps.{code_moves}
use Rattle.mm_proof.proofs.machine.run.Given as goal

abbrev pub invariant-loop-code : goal.invariant-loop-code
invariant-loop-code g l =
    g.M.Machine.has_run l.fn.machine l.machine
    (take l.code-index (code_moves (g.M.Machine.entries l.fn.machine) l.codes))
