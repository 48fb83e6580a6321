use Rattle.std.proofs.Common.{arith}
use Rattle.mm_frame.specs.Mirror.Layout.{statements_of}
use Rattle.mm_frame.proofs.tables.Tables.holds.Goals as goal
use Rattle.mm_frame.proofs.BookLists.GrownLists.{few_statements}

pub returns : goal.returns
returns c =
    let t = c.args.self.now in
    let tables = c.requires.tables in
    let active = c.is_active.ensures (statements_of t) tables.scopes (few_statements _ tables) in
    let (in_a, in_b) = rw c.deref.ensures.value at (c.are_among.ensures.0 c.if-not-are_among.false)
    in (
      (λ is. (omega (arith, c.if-wide-at.false), in_a, in_b, active.0 is)),
      (λ (early, has_a, has_b, still). active.1 still),
    )
