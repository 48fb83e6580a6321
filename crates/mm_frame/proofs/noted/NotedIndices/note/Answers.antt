use Rattle.std.proofs.Common.{take}
use Rattle.mm_frame.specs.Pieces.{variables_of}
use Rattle.mm_frame.proofs.Frames.VariableIndices.{noted_untyped, noted_more}
use Rattle.mm_frame.proofs.noted.NotedIndices.note.Goals as goal
use Rattle.mm_frame.proofs.noted.NotedIndices.note.Goals.{in-Some+in_ok-note_behind, in_default}

pub loop-index-preserved : goal.loop-index-preserved
loop-index-preserved c =
    let hs = c.args.hypotheses.now in
    let i = c.loop-index.index in
    elim c.match-hypothesis.branch [
      | in-Some+in_ok-note_behind w ↦ rw w.self-is
          (noted_more w.note_behind.new.self.indices.items hs i _ _ c.loop-index-test.true w.in-Some.is (w.in_ok-note_behind.ensures c.loop-index.invariant))
      | in_default w ↦ rw w.self-is
          (noted_more c.loop-index.self.indices.items hs i _ _ c.loop-index-test.true w.in_default.is (noted_untyped c.loop-index.self.indices.items (variables_of (take i hs)) c.loop-index.invariant))
    ]
