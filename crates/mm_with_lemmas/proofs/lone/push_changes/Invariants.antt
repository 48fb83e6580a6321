-- What the changes so far put in was appended.
use Rattle.std.proofs.Common.{take}
use Rattle.mm_with_lemmas.specs.Mirror.Editing.{ArePut, put_statements}
use Rattle.mm_with_lemmas.proofs.lone.push_changes.Given as goal

abbrev pub invariant-loop-index : goal.invariant-loop-index
invariant-loop-index l = ArePut (take l.index l.changes) (put_statements l.put.items)
