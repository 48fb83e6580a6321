-- So many statements were handed over, and the others are left.
use Rattle.mm_text.proofs.PassedStatements.{HandsOver}
use Rattle.mm_text.proofs.passing.pass_next.Given as goal

abbrev pub invariant-loop : goal.invariant-loop
invariant-loop g l =
    HandsOver g.V.Passing.has_passed l.fn.statements.statements l.counter l.fn.visitor l.visitor
    l.statements
