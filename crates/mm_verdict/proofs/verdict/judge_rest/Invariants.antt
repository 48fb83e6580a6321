-- Each of the statements so far obeys the rules or is listed, and the visitor has seen them.
use Rattle.std.proofs.Common.{map, length}
use Rattle.mm_text.specs.Files.{plain_file}
use Rattle.mm_verdict.specs.Mirror.Visits.{IsVisiting}
use Rattle.mm_verdict.proofs.verdict.judge_rest.Given as goal

abbrev pub invariant-loop-statement : goal.invariant-loop-statement
invariant-loop-statement g l =
    IsVisiting g.V.Visitor.has_seen l.fn.profile (map plain_file l.fn.files) l.fn.visitor l.visitor
    l.progress l.statements

abbrev pub decreases-loop-statement : goal.decreases-loop-statement
decreases-loop-statement g l = length l.statements.statements
