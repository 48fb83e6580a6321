-- The hypotheses and pairs are those of the frame.
use Rattle.std.proofs.Common.{map}
use Rattle.mm_render.proofs.ToldProofs.ToldStatements.{frame_told, on_ok, pair_within}
use Rattle.mm_render.proofs.statement_lines.push_frame.Goals as goal

pub push_pairs-requires : goal.push_pairs-requires
push_pairs-requires c =
    rw c.frame-frame.ensures.book at
    (pair_within c.frame-frame.result c.pairs.result.now c.pairs.ensures.variables)

pub returns : goal.returns
returns c =
    on_ok c.push_pairs.result _ _
    (λ paired index s numbered. frame_told numbered c.frame-frame.result
    (map (λ h. h.id.0) c.hypotheses.result.now) c.pairs.result.now c.args.out.now.items
    c.push_hypotheses.new.out.items c.push_pairs.new.out.items c.frame-frame.ensures.book
    c.frame-frame.ensures.index c.hypotheses.ensures.ids c.pairs.ensures.variables
    c.in_ok-push_hypotheses.ensures paired)
    c.push_pairs.ensures
