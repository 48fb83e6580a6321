-- The next statement is taken where one is left.
use Rattle.std.proofs.Common.{true, inr, map, arith}
use Rattle.mm_base.specs.Statement.{plain_statement}
use Rattle.mm_text.specs.Files.{plain_file}
use Rattle.mm_base.proofs.Lists.{error_keeps}
use Rattle.mm_verdict.specs.Mirror.Judged.{IsRead, TakesNext}
use Rattle.mm_verdict.proofs.Verdicts.AcceptedStatements.{closes, has_room, few}
use Rattle.mm_verdict.proofs.taking.take_next.Goals as goal

-- what holds where the statement is to be taken
way : (c : goal.After-take-arg-1) → IsRead (map plain_file c.args.files.now)
    c.make_room.new.progress c.args.statements.now
way c = rw c.make_room.ensures c.requires

taken : (c : goal.After-take-arg-1) → TakesNext c.args.statements.now true
    (plain_statement c.next.new.into) c.next.new.statements
taken c = rw c.if-not-branch.false at c.in_ok-next.ensures.taken

pub take-requires-clause-closes : goal.take-requires-clause-closes
take-requires-clause-closes c = closes _ _ _ _ _ (way c) (taken c)

pub take-requires-clause-room : goal.take-requires-clause-room
take-requires-clause-room c = has_room _ _ _ _ _ (way c) (taken c)

pub take-requires-clause-count : goal.take-requires-clause-count
take-requires-clause-count c = omega (arith, few _ _ _ (way c), (way c).taken.count)

pub returns-in_err-take-clause-stopped : goal.returns-in_err-take-clause-stopped
returns-in_err-take-clause-stopped c =
    error_keeps c.from_residual-in_err-take.result c.in_err-take.field-0.0 _
    c.from_residual-in_err-take.ensures.1
    (inr (
      plain_statement c.next.new.into,
      c.next.new.statements,
      rw c.if-not-branch.false at c.in_ok-next.ensures.taken,
      rw (c.make_room.ensures, c.requires.lines) at c.in_err-take.ensures.refused,
    ))
