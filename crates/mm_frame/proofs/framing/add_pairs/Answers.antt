use Rattle.std.proofs.Common.{◌≡◌, ◌+◌, length, ◌∙◌, ap, arith, sym, subst}
use Rattle.mm_frame.specs.Mirror.Layout.{statements_of}
use Rattle.mm_frame.proofs.Frames.MandatoryPairs.{pairs_step}
use Rattle.mm_frame.proofs.framing.add_pairs.Goals as goal
use Rattle.mm_frame.proofs.framing.add_pairs.Goals.{then-is_distinct+in_ok-push, else-is_distinct}
use Rattle.mm_frame.specs.Mirror.Gathered.{AreFound}
use Rattle.mm_frame.proofs.BookLists.GrownLists.{all_statements}

pub loop-other-preserved : goal.loop-other-preserved
loop-other-preserved c indices variables are same at_b first =
    let t = c.args.tables.now in
    let st = statements_of t in
    let others = c.args.others.now in
    let i = c.loop-other.other-index in
    let all : c.len.result ≡ length st = omega (arith, all_statements t) in
    let step = pairs_step st indices variables others c.args.variable i c.len.result _ c.is_distinct.result c.loop-other.pairs.items are same at_b c.loop-other-test.true all c.is_distinct.ensures
    (c.loop-other.invariant indices variables are same at_b first) in
    elim c.if-is_distinct.branch [
      | then-is_distinct+in_ok-push w ↦
          subst (λ ps. AreFound st variables (length others) (i + 1) ps) (sym (ap (λ v. v.items) w.pairs-is ∙ w.in_ok-push.ensures.items)) (step.0 w.if-is_distinct.true)
      | else-is_distinct w ↦ subst (λ ps. AreFound st variables (length others) (i + 1) ps) (sym (ap (λ v. v.items) w.pairs-is)) (step.1 w.if-is_distinct.false)
    ]
