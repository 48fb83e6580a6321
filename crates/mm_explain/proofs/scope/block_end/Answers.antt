-- The next statement opens or closes a block within, or closes the one around, or does neither.
use Rattle.std.proofs.Common.{ℕ, suc, ◌+◌, List, Some, None, take, drop, ap, sym, subst, ◌∙◌, refl}
use Rattle.std.proofs.Common.{arith}
use Rattle.std.specs.List.{AllZip}
use Rattle.mm_base.specs.Blocks.{AreBalanced}
use Rattle.mm_base.specs.Statement.{PlainStatement}
use Rattle.mm_base.proofs.Lists.{split_at, zip_drop}
use Rattle.mm_text.proofs.Reader.OpenBlocks.{balanced_nothing}
use Rattle.mm_explain.specs.Mirror.Outlined.{IsBrief}
use Rattle.mm_explain.proofs.HypothesisScopes.{within_more}
use Rattle.mm_explain.proofs.OutlinedStatements.{briefs_ended, next_brief}
use Rattle.mm_explain.proofs.scope.block_end.Goals as goal

pub loop-brief-init : goal.loop-brief-init
loop-brief-init c = (omega arith, λ statements are. (balanced_nothing, refl))

pub inner_behind-requires : goal.inner_behind-requires
inner_behind-requires c =
    omega (arith, c.loop-brief.invariant.0, c.loop-brief-test.true)

pub loop-brief-preserved : goal.loop-brief-preserved
loop-brief-preserved c = (
  omega (arith, c.loop-brief.invariant.0, c.in-Some.ensures.few),
  λ statements are.
      let later : List PlainStatement = drop (c.args.index + 1) statements in
      let behind : AllZip IsBrief later c.from_index-behind.result.now =
      rw c.from_index-behind.ensures
      (zip_drop IsBrief statements c.args.briefs.now (c.args.index + 1) are) in
      let (s, there, is, longer) = next_brief later c.from_index-behind.result.now
      c.loop-brief.brief-index _ behind c.loop-brief-test.true in
      rw longer (within_more (take c.loop-brief.brief-index later) s c.loop-brief.inner
      c.in-Some.next (c.loop-brief.invariant.1 statements are)
      (c.in-Some.ensures.counted s (sym is.kind))),
)

pub returns-in-None : goal.returns-in-None
returns-in-None c = λ statements are.
    let i : ℕ = c.loop-brief.brief-index in
    let later : List PlainStatement = drop (c.args.index + 1) statements in
    let behind : AllZip IsBrief later c.from_index-behind.result.now =
    rw c.from_index-behind.ensures
    (zip_drop IsBrief statements c.args.briefs.now (c.args.index + 1) are) in
    let (s, there, is, longer) =
    next_brief later c.from_index-behind.result.now i _ behind c.loop-brief-test.true in
    let (closes, none) = c.in-None.ensures.counted s (sym is.kind) in
    let (balanced, counted) = c.loop-brief.invariant.1 statements are in (
      Some s,
      record {
        within = take i later;
        after = drop (suc i) later;
        behind = split_at later i s there;
        closes = sym is.kind ∙ closes;
        balanced = balanced;
        closed = omega (arith, counted, none);
      },
      ap Some is.first,
    )

pub returns : goal.returns
returns c = λ statements are.
    let later : List PlainStatement = drop (c.args.index + 1) statements in
    let behind : AllZip IsBrief later c.from_index-behind.result.now =
    rw c.from_index-behind.ensures
    (zip_drop IsBrief statements c.args.briefs.now (c.args.index + 1) are) in (
      None,
      subst AreBalanced (briefs_ended later c.from_index-behind.result.now
          c.loop-brief.brief-index behind c.loop-brief-test.false)
          (c.loop-brief.invariant.1 statements are).0,
      refl,
    )
