use Rattle.std.proofs.Common.{◌++◌, ◌∷◌, [], ap, ◌∙◌, append_assoc}
use Rattle.mm_frame.specs.Pieces.{variables_of}
use Rattle.mm_frame.proofs.Frames.FramePatterns.{pieces_step}
use Rattle.mm_frame.proofs.pattern.push_pattern.Goals as goal

pub loop-symbol-preserved : goal.loop-symbol-preserved
loop-symbol-preserved c =
    let (more, is, says) = c.loop-symbol.invariant in (
      more ++ c.piece_of.result ∷ [],
      c.in_ok-push_piece.ensures.pushed ∙ ap (λ ps. ps ++ c.piece_of.result ∷ []) is ∙ append_assoc c.args.pieces.now.items more (c.piece_of.result ∷ []),
      pieces_step (variables_of c.args.hypotheses.now) c.args.symbols.now c.loop-symbol.symbol-index _ more c.piece_of.result c.loop-symbol-test.true says c.piece_of.ensures,
    )
