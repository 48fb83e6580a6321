use Rattle.std.proofs.Common.{◌-◌, subst, sym, arith, ◌<◌}
use Rattle.mm_frame.specs.Mirror.Layout.{statements_of}
use Rattle.mm_frame.specs.Mirror.Wide.{HoldsPair, NoneFrom}
use Rattle.mm_frame.proofs.DistinctPairs.StatedPairs.{wide_at, none_next, held_next}
use Rattle.mm_frame.proofs.tables.Tables.is_held.Goals as goal
use Rattle.mm_frame.proofs.tables.Tables.is_held.Goals.{then-last-at, else-last-at}

pub holds-requires-clause-sorted : goal.holds-requires-clause-sorted
holds-requires-clause-sorted c =
    let there = wide_at _ _ _ _ _ c.wide-wide.ensures c.if-left-eq0.false
    c.loop.invariant.within c.index-wide-left.is in
    (c.requires.tables.stated.wide.each _ _ there).sorted

pub returns-then-holds : goal.returns-then-holds
returns-then-holds c =
    let there = wide_at _ _ _ _ _ c.wide-wide.ensures c.if-left-eq0.false
    c.loop.invariant.within c.index-wide-left.is in
    ((λ yes. (_, _, there, c.holds.ensures.0 c.if-holds.true)), (λ held. cc))

pub loop-preserved : goal.loop-preserved
loop-preserved c =
    let t = c.args.self.now in
    let st = statements_of t in
    let wide = t.distinct.stated.wide in
    let w = c.index-wide-left.result in
    let n = c.loop.left in
    let within = c.loop.invariant.within in
    let some : 0 < n = omega (arith, c.if-left-eq0.false) in
    let there = wide_at _ _ _ _ _ c.wide-wide.ensures c.if-left-eq0.false
    c.loop.invariant.within c.index-wide-left.is in
    let wides = c.requires.tables.stated.wide in
    let older = wides.older (n - 1) w there in
    let P = HoldsPair st c.args.at c.args.a.0 c.args.b.0 in
    let no : ¬ (P w) =
    λ holds. absurd (let yes = c.holds.ensures.1 holds in let not = c.if-holds.false in cc) in
    elim c.if-last-at.branch [
      | then-last-at x ↦ record {
        within = let is = x.left-is in omega arith;
        none = subst (NoneFrom P wide) (sym x.left-is)
            (held_next wides c.args.at c.args.a.0 c.args.b.0 n w c.requires.within some there no
            c.loop.invariant.none x.if-last-at.true);
      }
      | else-last-at x ↦ record {
        within = let is = x.left-is in omega arith;
        none = subst (NoneFrom P wide) (sym x.left-is)
            (none_next P wide n w some there no c.loop.invariant.none);
      }
    ]
