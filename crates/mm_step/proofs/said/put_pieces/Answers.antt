use Rattle.std.proofs.Common.{◌++◌, take, ◌∙◌, arith}
use Rattle.std.proofs.lemmas.List.{get_or_default, length-take-le}
use Rattle.mm_step.proofs.StoreRanges.{pieces-step, prefix_stays}
use Rattle.mm_step.proofs.ByNumbers.NumberedSymbols.{no_piece}
use Rattle.mm_step.proofs.said.put_pieces.Goals as goal

pub returns-in_err-end-clause-prefix : goal.returns-in_err-end-clause-prefix
returns-in_err-end-clause-prefix c =
    prefix_stays c.args.used c.loop-piece.end _ c.loop-piece.room c.args.room.now c.loop-piece.invariant.0 c.put_piece.ensures.prefix c.loop-piece.invariant.3

pub loop-piece-preserved : goal.loop-piece-preserved
loop-piece-preserved c =
    let before = c.loop-piece.invariant in
    let used = take c.args.used c.args.room.now in
    let said = c.in_ok-end.ensures.said in
    let says = rw (c.piece-item.is ∙ get_or_default c.args.pieces.now c.loop-piece.piece-index c.piece-item.result no_piece c.loop-piece-test.true) at said.2 in
    let step = pieces-step used (take c.loop-piece.end c.loop-piece.room) (take c.in_ok-end.end c.put_piece.new.room) before.4 said.0 c.args.stack.now c.args.base c.loop-piece.piece-index c.args.pieces.now
    (rw (length-take-le c.args.used c.args.room.now c.requires.used) c.requires.parts) c.loop-piece-test.true before.5 before.6 said.1 says in (
      omega (arith, before.0, c.in_ok-end.ensures.order),
      c.in_ok-end.ensures.within,
      c.in_ok-end.ensures.long ∙ before.2,
      prefix_stays c.args.used c.loop-piece.end _ c.loop-piece.room c.args.room.now before.0 c.in_ok-end.ensures.prefix before.3,
      before.4 ++ said.0,
      step.0,
      step.1,
    )
