use Rattle.std.proofs.Common.{◌≡◌, ◌+◌, ◌-◌, ◌<◌, ◌≤◌, length, take, ap, sym, ◌∙◌, arith, subst}
use Rattle.std.proofs.Common.{inr}
use Rattle.std.proofs.lemmas.Option.{slice_get_within}
use Rattle.std.proofs.Math.Seq.{take-length}
use Rattle.mm_frame.specs.declared.scopes.TheConstants.{NEVER}
use Rattle.mm_frame.specs.Active.{IsActive}
use Rattle.mm_frame.specs.Mirror.Layout.{statements_of}
use Rattle.mm_frame.proofs.DistinctPairs.StatedPairs.{wide_at, active_next}
use Rattle.mm_frame.proofs.tables.Tables.active_wide.Goals as goal
use Rattle.mm_frame.proofs.BookLists.GrownLists.{all_statements}

pub is_active-requires-clause-index : goal.is_active-requires-clause-index
is_active-requires-clause-index c =
    let there = wide_at _ _ _ _ _ c.wide-wide.ensures c.if-left-eq0.false
    c.loop.invariant.within c.index-wide-left.is in
    let is = c.requires.stated.wide.each _ _ there in
    let lt = slice_get_within (statements_of c.args.self.now) _ is.d is.there in
    let size = all_statements c.args.self.now in
    omega arith

pub is_active-requires-clause-within : goal.is_active-requires-clause-within
is_active-requires-clause-within c =
    omega (arith, all_statements c.args.self.now, c.requires.scopes.held)

pub loop-preserved : goal.loop-preserved
loop-preserved c =
    let t = c.args.self.now in
    let st = statements_of t in
    let wide = t.distinct.stated.wide in
    let w = c.index-wide-left.result in
    let n = c.loop.left in
    let within = c.loop.invariant.within in
    let some : 0 < n = omega (arith, c.if-left-eq0.false) in
    let there = wide_at _ _ _ _ _ c.wide-wide.ensures c.if-left-eq0.false
    c.loop.invariant.within c.index-wide-left.is in
    let older = c.requires.stated.wide.older (n - 1) w there in
    let size = all_statements t in
    let all : c.len-at.result ≡ length st = c.len-at.ensures ∙ t.log.ok.0 ∙ sym size in
    let whole : take c.len-at.result st ≡ st = ap (λ m. take m st) all ∙ take-length st in
    let small : length st ≤ NEVER = omega (arith, c.requires.counted, c.requires.small, size) in
    let tell = c.is_active.ensures st c.requires.scopes small in
    let no : ¬ (IsActive st w.index) =
    λ active. absurd (let yes = tell.1 (subst (λ ys. IsActive ys w.index) (sym whole) active) in
    let not = c.if-is_active.false in cc) in
    record {
      within = omega arith;
      none = active_next c.requires.stated.wide n w some there no c.loop.invariant.none;
    }

pub returns-then-is_active-clause-latest : goal.returns-then-is_active-clause-latest
returns-then-is_active-clause-latest c =
    let t = c.args.self.now in
    let st = statements_of t in
    let w = c.index-wide-left.result in
    let n = c.loop.left in
    let some : n ≡ (n - 1) + 1 = omega (arith, c.if-left-eq0.false) in
    let there = wide_at _ _ _ _ _ c.wide-wide.ensures c.if-left-eq0.false
    c.loop.invariant.within c.index-wide-left.is in
    let size = all_statements t in
    let all : c.len-at.result ≡ length st = c.len-at.ensures ∙ t.log.ok.0 ∙ sym size in
    let whole : take c.len-at.result st ≡ st = ap (λ m. take m st) all ∙ take-length st in
    let small : length st ≤ NEVER = omega (arith, c.requires.counted, c.requires.small, size) in
    let tell = c.is_active.ensures st c.requires.scopes small in
    inr (
      n - 1,
      w,
      some,
      there,
      subst (λ ys. IsActive ys w.index) whole (tell.0 c.if-is_active.true),
    )
