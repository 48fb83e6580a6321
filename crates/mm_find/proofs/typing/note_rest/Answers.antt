-- The type that one statement more gives follows, or the way ends.
use Rattle.std.proofs.Common.{map}
use Rattle.mm_text.specs.Files.{plain_file}
use Rattle.mm_base.specs.Statement.{plain_statement}
use Rattle.mm_base.proofs.Lists.{error_keeps}
use Rattle.mm_rules.specs.Verdict.{sentences}
use Rattle.mm_find.proofs.Listings.{is_meant, stops_listing, types_end, types_on}
use Rattle.mm_find.proofs.typing.note_rest.Goals as goal

pub returns-in_err-_taken-clause-stopped : goal.returns-in_err-_taken-clause-stopped
returns-in_err-_taken-clause-stopped c =
    error_keeps c.from_residual.result c.in_err-_taken.field-0.0 _ c.from_residual.ensures.1
    (stops_listing (map plain_file c.args.files.now)
    c.loop-statement.progress c.loop-statement.statements c.loop-statement.invariant.way
    c.in_err-_taken.field-0.0 c.in_err-_taken.ensures.stopped)

pub loop-statement-preserved : goal.loop-statement-preserved
loop-statement-preserved c =
    let (next, formed, takes) = rw c.in-Some.is at c.in_ok-_taken.ensures.turned in
    let way = c.loop-statement.invariant.way in
    types_on (map plain_file c.args.files.now)
    c.loop-statement.progress c.loop-statement.statements way c.take_next.new.progress
    (plain_statement c.take_next.new.into)
    c.take_next.new.statements next c.in-Some._taken takes c.note.new.self
    (c.in_ok-note.ensures (sentences way.read.earlier) c.loop-statement.invariant.typed
    (is_meant (map plain_file c.args.files.now)
    c.loop-statement.progress c.loop-statement.statements way c.take_next.new.progress
    (plain_statement c.take_next.new.into)
    c.take_next.new.statements next c.in-Some._taken takes))

pub returns-clause-typed : goal.returns-clause-typed
returns-clause-typed c =
    types_end (map plain_file c.args.files.now)
    c.loop-statement.progress c.loop-statement.statements c.loop-statement.invariant.way
    c.take_next.new.progress (plain_statement c.take_next.new.into) c.take_next.new.statements
    c.loop-statement.types c.loop-statement.invariant.typed c.in_ok-_taken.field-0
    c.in_ok-_taken.ensures.turned c.in_default.not-Some
