-- The byte stands in this piece, or behind it.
use Rattle.std.proofs.Common.{length, ap, arith, refl}
use Rattle.mm_places.proofs.ProofPlaces.WholePlaces.{byte_behind, joined_all, no_token}
use Rattle.mm_places.proofs.whole_places.byte_of.Goals as goal

pub loop-piece-preserved : goal.loop-piece-preserved
loop-piece-preserved c =
    byte_behind c.args.pieces.now c.args.index c.loop-piece.left _ c.loop-piece.piece no_token
    c.loop-piece-test.true c.loop-piece.invariant c.if-left-token.false refl

pub unreachable-requires : goal.unreachable-requires
unreachable-requires c =
    let all = joined_all c.args.pieces.now c.loop-piece.piece c.loop-piece-test.false in
    omega (arith, ap length all, c.loop-piece.invariant, c.requires)
