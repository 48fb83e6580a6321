-- The next statement is judged where one is left.
use Rattle.std.proofs.Common.{true, inr, map, arith}
use Rattle.mm_base.specs.Statement.{plain_statement}
use Rattle.mm_text.specs.Files.{plain_file}
use Rattle.mm_base.proofs.Lists.{error_keeps}
use Rattle.mm_verdict.specs.Mirror.Judged.{IsRead, TakesNext}
use Rattle.mm_verdict.proofs.Verdicts.AcceptedStatements.{closes, has_room, few}
use Rattle.mm_verdict.proofs.verdict.judge_next.Goals as goal

-- what holds where the statement is to be judged
way : (c : goal.After-judge-arg-1) → IsRead (map plain_file c.args.files.now)
    c.make_room.new.progress c.args.statements.now
way c = rw c.make_room.ensures c.requires

taken : (c : goal.After-judge-arg-1) → TakesNext c.args.statements.now true
    (plain_statement c.next.new.into) c.next.new.statements
taken c = rw c.if-not-branch.false at c.in_ok-next.ensures.taken

pub judge-requires-clause-closes : goal.judge-requires-clause-closes
judge-requires-clause-closes c = closes _ _ _ _ _ (way c) (taken c)

pub judge-requires-clause-room : goal.judge-requires-clause-room
judge-requires-clause-room c = has_room _ _ _ _ _ (way c) (taken c)

pub judge-requires-clause-count : goal.judge-requires-clause-count
judge-requires-clause-count c = omega (arith, few _ _ _ (way c), (way c).taken.count)

pub judge-requires-clause-proofs : goal.judge-requires-clause-proofs
judge-requires-clause-proofs c = omega (arith, few _ _ _ (way c), (way c).taken.proofs)

pub returns-in_err-judge-clause-stopped : goal.returns-in_err-judge-clause-stopped
returns-in_err-judge-clause-stopped c =
    error_keeps c.from_residual-in_err-judge.result c.in_err-judge.field-0.0 _
    c.from_residual-in_err-judge.ensures.1
    (inr (
      plain_statement c.next.new.into,
      c.next.new.statements,
      rw c.if-not-branch.false at c.in_ok-next.ensures.taken,
      rw (c.make_room.ensures, c.requires.lines) at c.in_err-judge.ensures.refused,
    ))
