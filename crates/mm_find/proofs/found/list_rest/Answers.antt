-- What is listed of one statement more follows, or the way ends.
use Rattle.std.proofs.Common.{map, ap, refl}
use Rattle.mm_text.specs.Files.{plain_file}
use Rattle.mm_base.specs.Statement.{plain_statement}
use Rattle.mm_base.proofs.Lists.{error_keeps}
use Rattle.mm_rules.specs.Verdict.{sentences}
use Rattle.mm_find.specs.Plain.{plain_query}
use Rattle.mm_find.specs.Mirror.Types.{type_in}
use Rattle.mm_find.specs.Mirror.Walk.{IsTakenLast}
use Rattle.mm_find.proofs.Listings.{lists_end, lists_on, stops_listing, taken_last}
use Rattle.mm_find.proofs.found.list_rest.Goals as goal

pub push_listed-requires : goal.push_listed-requires
push_listed-requires c =
    let (next, formed, takes) = rw c.in-Some.is at c.in_ok-taken.ensures.turned in
    let last : IsTakenLast c.book.result.now.statements c.in-Some.taken
    (sentences c.loop-statement.invariant.way.read.earlier) (plain_statement c.take_next.new.into) =
    rw (ap (λ b. b.statements) c.book.ensures)
    (taken_last (map plain_file c.args.files.now)
    c.loop-statement.progress c.loop-statement.statements
    c.loop-statement.invariant.way c.take_next.new.progress (plain_statement c.take_next.new.into)
    c.take_next.new.statements next c.in-Some.taken takes formed) in (
      sentences c.loop-statement.invariant.way.read.earlier,
      plain_statement c.take_next.new.into,
      last,
      refl,
    )

pub returns-in_err-taken-clause-stopped : goal.returns-in_err-taken-clause-stopped
returns-in_err-taken-clause-stopped c =
    error_keeps c.from_residual.result c.in_err-taken.field-0.0 _ c.from_residual.ensures.1
    (stops_listing (map plain_file c.args.files.now)
    c.loop-statement.progress c.loop-statement.statements
    c.loop-statement.invariant.way
    c.in_err-taken.field-0.0 c.in_err-taken.ensures.stopped)

pub loop-statement-preserved : goal.loop-statement-preserved
loop-statement-preserved c =
    let (next, formed, takes) = rw c.in-Some.is at c.in_ok-taken.ensures.turned in
    let last : IsTakenLast c.book.result.now.statements c.in-Some.taken
    (sentences c.loop-statement.invariant.way.read.earlier) (plain_statement c.take_next.new.into) =
    rw (ap (λ b. b.statements) c.book.ensures)
    (taken_last (map plain_file c.args.files.now)
    c.loop-statement.progress c.loop-statement.statements
    c.loop-statement.invariant.way c.take_next.new.progress (plain_statement c.take_next.new.into)
    c.take_next.new.statements next c.in-Some.taken takes formed) in
    let (line, one, is) = c.in_ok-push_listed.ensures
    (sentences c.loop-statement.invariant.way.read.earlier)
    (plain_statement c.take_next.new.into) last refl in
    rw is (lists_on (map plain_file c.args.files.now)
    c.loop-statement.progress c.loop-statement.statements
    c.loop-statement.invariant.way c.take_next.new.progress (plain_statement c.take_next.new.into)
    c.take_next.new.statements next c.in-Some.taken takes
    (plain_query c.args.query.now) (type_in c.args.types.now) c.loop-statement.out.items line
    c.loop-statement.invariant.listed one)

pub returns-clause-listed : goal.returns-clause-listed
returns-clause-listed c =
    lists_end (map plain_file c.args.files.now)
    c.loop-statement.progress
    c.loop-statement.statements c.loop-statement.invariant.way
    c.take_next.new.progress
    (plain_statement c.take_next.new.into) c.take_next.new.statements
    (plain_query c.args.query.now) (type_in c.args.types.now) c.loop-statement.out.items
    c.loop-statement.invariant.listed c.in_ok-taken.field-0
    c.in_ok-taken.ensures.turned c.in_default.not-Some
