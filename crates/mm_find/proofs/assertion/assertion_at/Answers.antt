-- The frame is that of its number, and so are its label and its symbols.
use Rattle.std.proofs.Common.{map, length}
use Rattle.mm_find.proofs.Assertions.{last_framed, last_numbered, last_there, last_within}
use Rattle.mm_find.proofs.assertion.assertion_at.Goals as goal

pub frame-frame-requires : goal.frame-frame-requires
frame-frame-requires c =
    let (before, s, last) = c.requires in (
      length before,
      s,
      last_numbered c.args.book.now.statements c.args.id.0 before s last,
      last.asserts,
    )

pub essential-requires-clause-stated : goal.essential-requires-clause-stated
essential-requires-clause-stated c =
    let (before, s, last) = c.requires in
    let (stated, framed, are) = last_framed c.args.book.now.statements c.args.id.0 before s last
    c.frame-frame.result (map (λ h. h.id.0) c.hypotheses.result.now) c.frame-frame.ensures.book
    c.frame-frame.ensures.index c.hypotheses.ensures.ids in
    (stated, are)

pub essential-requires-clause-typed : goal.essential-requires-clause-typed
essential-requires-clause-typed c = rw c.frame-frame.ensures.book at c.hypotheses.ensures.typed

pub expression_at-requires : goal.expression_at-requires
expression_at-requires c =
    let (before, s, last) = c.requires in
    last_within c.args.book.now.statements c.args.id.0 before s last

pub returns : goal.returns
returns c before s last same =
    let st = c.args.book.now.statements in
    let there = last_there st c.args.id.0 before s last in
    let (stated, framed, are) = last_framed st c.args.id.0 before s last
    c.frame-frame.result (map (λ h. h.id.0) c.hypotheses.result.now) c.frame-frame.ensures.book
    c.frame-frame.ensures.index c.hypotheses.ensures.ids in
    record {
      asserts = last.asserts;
      label = c.label.ensures s there;
      kind = same;
      mandatory = stated;
      framed = framed;
      hypotheses = c.in_ok-essentials.ensures stated are;
      expression = c.in_ok-expression.ensures s there;
    }
