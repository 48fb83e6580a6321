use Rattle.std.proofs.Common.{inl, inr, subst}
use Rattle.mm_frame.specs.Mirror.Layout.{statements_of}
use Rattle.mm_frame.specs.Mirror.Stated.{HasSpan}
use Rattle.mm_frame.proofs.Frames.FrameTypings.{stated_tells}
use Rattle.mm_frame.proofs.tables.Tables.is_distinct.Goals as goal
use Rattle.mm_frame.specs.Mirror.Separated.{ordered_pair}

pub returns-then-is_stated : goal.returns-then-is_stated
returns-then-is_stated c x y at_a at_b =
    let tell = stated_tells _ _ _ c.args.a.0 c.args.b.0 c.args.at x y
    c.requires.tables.infos.all c.requires.tables.stated at_a at_b c.if-a-b.false in
    let has = rw c.in_order.ensures at (c.is_stated.ensures.0 c.if-is_stated.true) in
    ((λ yes. tell.0 (inl has)), (λ distinct. cc))

pub returns : goal.returns
returns c x y at_a at_b =
    let t = c.args.self.now in
    let st = statements_of t in
    let stated = t.distinct.stated in
    let tell = stated_tells st t.symbols.names stated c.args.a.0 c.args.b.0 c.args.at x y
    c.requires.tables.infos.all c.requires.tables.stated at_a at_b c.if-a-b.false in
    let held = c.is_held.ensures in
    let none : ¬ (HasSpan st stated.pairs (ordered_pair c.args.a.0 c.args.b.0) c.args.at) =
    subst (λ p. ¬ (HasSpan st stated.pairs p c.args.at)) c.in_order.ensures
    (λ has. absurd (let yes = c.is_stated.ensures.1 has in let not = c.if-is_stated.false in
    cc)) in (
      (λ yes. tell.0 (inr (held.0 yes))),
      (λ distinct. elim (tell.1 distinct) [ inl has ↦ absurd (none has) | inr is ↦ held.1 is ]),
    )
