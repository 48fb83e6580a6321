use Rattle.std.proofs.Common.{◌+◌, sym, ◌∙◌, ap, subst, take, take_all}
use Rattle.mm_frame.specs.Mirror.Layout.{statements_of}
use Rattle.mm_frame.specs.Mirror.Gathered.{AreThoseAt}
use Rattle.mm_frame.proofs.Frames.FrameTypings.{those_step, id_at}
use Rattle.mm_frame.proofs.framing.find_hypotheses.Goals as goal
use Rattle.std.proofs.lemmas.Option.{slice_get-get_or}
use Rattle.mm_frame.proofs.framing.find_hypotheses.Goals.{in-Some+in_ok-push-in-Some, in-None}

pub loop-index-preserved : goal.loop-index-preserved
loop-index-preserved c s are =
    let t = c.args.tables.now in
    let st = statements_of t in
    let indices = c.args.indices.now in
    let i = c.loop-index.index-index in
    elim c.match-label_at.branch [
      | in-Some+in_ok-push-in-Some w ↦
          subst (AreThoseAt st (take (i + 1) indices)) (sym (ap (λ v. v.items) w.hypotheses-is ∙ w.in_ok-push-in-Some.ensures.items))
          (those_step t i c.requires.labels c.requires.sound.1 are
          (record { id = w.in-Some.id; typing = w.typing.result; pattern = record { start = 0; end = 0 } })
          c.loop-index.hypotheses.items c.loop-index-test.true
          (sym c.label_at.ensures ∙ w.in-Some.is) w.typing.ensures (c.loop-index.invariant s are))
      | in-None w ↦
          let index = slice_get-get_or indices i 0 c.loop-index-test.true in
          let (id, is, value) = id_at t i c.requires.labels c.requires.sound.1 are _ index in
          absurd (cc (is, sym c.label_at.ensures ∙ w.in-None.is))
    ]

pub returns : goal.returns
returns c s are =
    rw (take_all _ _ c.loop-index-test.false) at (c.loop-index.invariant s are)
