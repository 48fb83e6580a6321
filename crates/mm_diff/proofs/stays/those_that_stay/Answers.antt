-- One more number.
use Rattle.std.proofs.Common.{List, ap, subst}
use Rattle.mm_frame.specs.Numbers.{IsLabelNumber}
use Rattle.mm_frame.specs.Sentence.{Sentence}
use Rattle.mm_rules.specs.Conclusion.{Conclusion}
use Rattle.mm_diff.proofs.StayingTheorems.{marks_more, marks_none}
use Rattle.mm_diff.proofs.stays.those_that_stay.Goals as goal

pub stays-mark-requires-clause-id : goal.stays-mark-requires-clause-id
stays-mark-requires-clause-id c =
    subst (λ (ss : List Sentence). IsLabelNumber ss c.loop-number.number)
    (ap (λ (v : Conclusion). v.sentences) c.new.view_is)
    (c.is_label.ensures.0 c.if-not-is_label.false)

pub loop-number-init : goal.loop-number-init
loop-number-init c =
    marks_none c.args.new.now c.args.old.now c.args.twins.now _ c.new-marks.ensures.items

pub loop-number-preserved : goal.loop-number-preserved
loop-number-preserved c =
    marks_more c.args.new.now c.args.old.now c.args.twins.now c.loop-number.number
    c.loop-number.marks.items _ c.stays-mark.result c.loop-number.invariant
    (rw c.deref.ensures.value at c.stays-mark.ensures) c.in_ok-push.ensures.items

pub returns : goal.returns
returns c = c.loop-number.invariant.those
