-- One index more is one more that says more, or none.
use Rattle.std.proofs.Common.{◌≡◌, ◌<◌, length, arith}
use Rattle.mm_base.proofs.Lists.{get_within}
use Rattle.mm_frame.specs.Mirror.Layout.{statements_of}
use Rattle.mm_frame.proofs.Frames.FurtherDistinct.{none_further, one_further}
use Rattle.mm_frame.proofs.further.find_further.Goals as goal
use Rattle.mm_frame.proofs.further.find_further.Goals.{then-says_more+in_ok-push, else-says_more}

pub loop-index-preserved : goal.loop-index-preserved
loop-index-preserved c =
    let st = statements_of c.args.tables.now in
    let index = c.loop-index.index in
    let within : index < length st = omega (arith, c.loop-index-test.true, c.requires.within) in
    let (d, there) = get_within st index within in
    let tells = c.says_more.ensures d there in
    elim c.if-says_more.branch [
      | then-says_more+in_ok-push w ↦
          rw (w.indices-is, w.in_ok-push.ensures.items)
          (one_further d there c.loop-index.invariant (tells.0 w.if-says_more.true))
      | else-says_more w ↦
          rw w.indices-is
          (none_further d there c.loop-index.invariant
          (λ more. let is = tells.1 more in absurd (cc (is, w.if-says_more.false))))
    ]

pub returns : goal.returns
returns c =
    let end : c.loop-index.index ≡ c.args.at = omega (arith, c.loop-index.auto.index-end, c.loop-index-test.false) in
    rw end at c.loop-index.invariant
