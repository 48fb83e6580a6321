-- Some statements of the text were appended.
use Rattle.std.proofs.Common.{length}
use Rattle.mm_with_lemmas.specs.Mirror.Editing.{HasPushed, put_statements}
use Rattle.mm_with_lemmas.proofs.lone.push_rest.Given as goal

abbrev pub invariant-loop-at : goal.invariant-loop-at
invariant-loop-at l =
    HasPushed l.fn.statements l.statements (put_statements l.fn.put.items)
    (put_statements l.put.items)

abbrev pub decreases-loop-at : goal.decreases-loop-at
decreases-loop-at l = length l.statements.statements
