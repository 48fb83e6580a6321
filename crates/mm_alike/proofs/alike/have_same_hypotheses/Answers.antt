-- What the hypotheses say.
use Rattle.mm_alike.proofs.ComparedFrames.{hypotheses_of_frame, hypotheses_within, same_hypotheses}
use Rattle.mm_alike.proofs.alike.have_same_hypotheses.Goals as goal

pub say_the_same-requires-clause-one : goal.say_the_same-requires-clause-one
say_the_same-requires-clause-one c =
    hypotheses_within c.args.old.now.statements c.args.one.0 _
    (hypotheses_of_frame c.frame-frame.result c.args.old.now.statements c.args.one.0
    c.hypotheses.result.now c.frame-frame.ensures.book c.frame-frame.ensures.index
    c.hypotheses.ensures.ids)

pub say_the_same-requires-clause-other : goal.say_the_same-requires-clause-other
say_the_same-requires-clause-other c =
    hypotheses_within c.args.new.now.statements c.args.other.0 _
    (hypotheses_of_frame c.frame-other_frame.result c.args.new.now.statements c.args.other.0
    c.hypotheses-2.result.now c.frame-other_frame.ensures.book c.frame-other_frame.ensures.index
    c.hypotheses-2.ensures.ids)

pub returns : goal.returns
returns c =
    same_hypotheses c.args.old.now.statements c.args.new.now.statements c.args.one.0 c.args.other.0
    c.hypotheses.result.now c.hypotheses-2.result.now
    (hypotheses_of_frame c.frame-frame.result c.args.old.now.statements c.args.one.0
    c.hypotheses.result.now c.frame-frame.ensures.book c.frame-frame.ensures.index
    c.hypotheses.ensures.ids)
    (hypotheses_of_frame c.frame-other_frame.result c.args.new.now.statements c.args.other.0
    c.hypotheses-2.result.now c.frame-other_frame.ensures.book c.frame-other_frame.ensures.index
    c.hypotheses-2.ensures.ids)
    c.say_the_same.result c.say_the_same.ensures
