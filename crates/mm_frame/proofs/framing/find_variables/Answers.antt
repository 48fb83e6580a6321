use Rattle.std.proofs.lemmas.List.{take_all}
use Rattle.mm_frame.proofs.Frames.MandatoryPairs.{variables_step}
use Rattle.mm_frame.proofs.framing.find_variables.Goals as goal
use Rattle.mm_frame.proofs.framing.find_variables.Goals.{in-Some+in_ok-push-in-Some, in-None}

pub loop-index-preserved : goal.loop-index-preserved
loop-index-preserved c s are =
    let step = variables_step _ s c.args.indices.now _ _ _ c.requires.sound.0 are
    c.loop-index-test.true c.floating_variable.ensures (c.loop-index.invariant s are) in
    elim c.match-floating_variable.branch [
      | in-Some+in_ok-push-in-Some w ↦
          rw (w.variables-is, w.in_ok-push-in-Some.ensures.items) (rw w.in-Some.is at step)
      | in-None w ↦ rw w.variables-is (rw w.in-None.is at step)
    ]

pub returns : goal.returns
returns c s are =
    rw (take_all _ _ c.loop-index-test.false) at (c.loop-index.invariant s are)
