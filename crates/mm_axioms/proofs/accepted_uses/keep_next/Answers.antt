-- The next statement is taken where one is left, and what its proof uses is kept.
use Rattle.std.proofs.Common.{true, inl, inr, map, arith, refl, ap, Ok}
use Rattle.mm_base.specs.Statement.{PlainStatement, plain_statement}
use Rattle.mm_text.specs.Files.{plain_file}
use Rattle.mm_base.proofs.Lists.{error_keeps}
use Rattle.mm_verdict.specs.Mirror.Judged.{IsRead, TakesNext}
use Rattle.mm_verdict.proofs.Verdicts.AcceptedStatements.{closes, has_room, few}
use Rattle.mm_rules.specs.Verdict.{sentences}
use Rattle.mm_verdict.specs.Mirror.Taking.{TakesAs}
use Rattle.mm_axioms.proofs.AcceptedProofs.{book_next, keeps_on, stops_keeping}
use Rattle.mm_axioms.proofs.accepted_uses.keep_next.Goals as goal

-- what holds where the statement is to be taken
way : (c : goal.After-take-arg-1) → IsRead (map plain_file c.args.files.now)
    c.make_room.new.progress c.args.statements.now
way c = rw c.make_room.ensures c.requires.read

taken : (c : goal.After-take-arg-1) → TakesNext c.args.statements.now true
    (plain_statement c.next.new.into) c.next.new.statements
taken c = rw c.if-not-branch.false at c.in_ok-next.ensures.taken

pub take-requires-clause-closes : goal.take-requires-clause-closes
take-requires-clause-closes c = closes _ _ _ _ _ (way c) (taken c)

pub take-requires-clause-room : goal.take-requires-clause-room
take-requires-clause-room c = has_room _ _ _ _ _ (way c) (taken c)

pub take-requires-clause-count : goal.take-requires-clause-count
take-requires-clause-count c = omega (arith, few _ _ _ (way c), (way c).taken.count)

pub returns-in_err-next-clause-stopped : goal.returns-in_err-next-clause-stopped
returns-in_err-next-clause-stopped c =
    error_keeps c.from_residual.result c.in_err-next.field-0.0 _ c.from_residual.ensures.1
    (stops_keeping (map plain_file c.args.files.now) c.args.progress.now c.args.statements.now
    c.args.kept.now c.requires c.in_err-next.field-0.0 (inl c.in_err-next.ensures.refused))

pub returns-in_err-taken-clause-stopped : goal.returns-in_err-taken-clause-stopped
returns-in_err-taken-clause-stopped c =
    error_keeps c.from_residual-in_err-taken.result c.in_err-taken.field-0.0 _
    c.from_residual-in_err-taken.ensures.1
    (stops_keeping (map plain_file c.args.files.now) c.args.progress.now c.args.statements.now
    c.args.kept.now c.requires c.in_err-taken.field-0.0
    (inr (
      plain_statement c.next.new.into,
      c.next.new.statements,
      rw c.if-not-branch.false at c.in_ok-next.ensures.taken,
      rw (c.make_room.ensures, c.requires.read.lines) at c.in_err-taken.ensures.refused,
    )))

pub returns-clause-turned : goal.returns-clause-turned
returns-clause-turned c =
    let files = map plain_file c.args.files.now in
    let s : PlainStatement = plain_statement c.next.new.into in
    let next : TakesNext c.args.statements.now true s c.next.new.statements =
    rw c.if-not-branch.false at c.in_ok-next.ensures.taken in
    let takes : TakesAs c.args.progress.now s c.in_ok-taken.taken c.take.new.progress =
    rw c.make_room.ensures at c.in_ok-taken.ensures.taken in
    let keeps = c.in_ok-keep_taken.ensures.kept
    (sentences c.requires.read.earlier)
    (book_next files c.args.progress.now c.args.statements.now c.args.kept.now c.requires
    c.take.new.progress s c.next.new.statements next c.in_ok-taken.taken takes) in
    keeps_on files c.args.progress.now c.args.statements.now c.args.kept.now c.requires
    c.take.new.progress s c.next.new.statements next c.in_ok-taken.taken takes
    (c.in_ok-next.ensures.formed (ap Ok c.if-not-branch.false)) _ c.keep_taken.ensures.book refl
    refl refl c.keep_taken.new.kept keeps
