use Rattle.std.proofs.Common.{◌-◌, take, drop}
use Rattle.std.specs.List.{AllZip}
use Rattle.mm_step.specs.Mirror.Buffer.{parts_of}
use Rattle.mm_step.specs.Mirror.CodeVariables.{HasItsVariables}
use Rattle.mm_step.proofs.variables.entries_of_variables.Given as goal

abbrev pub invariant-loop-index : goal.invariant-loop-index
invariant-loop-index g l =
    AllZip (HasItsVariables l.fn.book.statements)
    (take (l.index - l.base) (drop l.base (g.S.Store.stack l.store)))
    (parts_of l.entries.symbols l.entries.stack.items)
