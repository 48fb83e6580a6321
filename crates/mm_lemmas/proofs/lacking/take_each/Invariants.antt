-- Up to the statement that was read last, the theorems were taken.
use Rattle.std.proofs.Common.{List}
use Rattle.mm_base.specs.Statement.{PlainStatement}
use Rattle.mm_verdict.specs.Mirror.Rereading.{IsReadTo}
use Rattle.mm_lemmas.proofs.lacking.take_each.Given as goal

abbrev pub invariant-loop : goal.invariant-loop
invariant-loop l =
    (taken : List PlainStatement) × IsReadTo l.checked.files taken l.reading
