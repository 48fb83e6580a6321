use Rattle.std.proofs.Common.{take}
use Rattle.mm_step.specs.Stores.{numbers_in}
use Rattle.mm_step.specs.Mirror.CodeVariables.{AreItsVariables}
use Rattle.mm_step.proofs.variables.variables_in.Given as goal

abbrev pub invariant-loop-symbol : goal.invariant-loop-symbol
invariant-loop-symbol l =
    AreItsVariables l.fn.book.statements (take l.symbol-index (numbers_in l.e))
    (numbers_in l.variables.items)
