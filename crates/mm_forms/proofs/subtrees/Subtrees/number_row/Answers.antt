use Rattle.std.proofs.Common.{◌-◌, arith}
use Rattle.mm_forms.specs.Mirror.Subtrees.{KeepNumbers}
use Rattle.mm_forms.proofs.PackedProofs.SubtreeNumbers.{stands_more}
use Rattle.mm_forms.proofs.subtrees.Subtrees.number_row.Goals as goal

pub loop-index-preserved : goal.loop-index-preserved
loop-index-preserved c =
    let keep : KeepNumbers c.args.self.now c.number.new.self = λ index row there. c.number.ensures.kept index row (c.loop-index.invariant.0 index row there) in
    let some = c.loop-index-test.true in
    let within = c.loop-index.auto.index in (
      keep,
      λ once. c.number.ensures.once,
      λ st row a.
          stands_more st c.args.self.now c.loop-index.self c.number.new.self c.args.trees.now (c.loop-index.index - 1) c.loop-index.index _ c.loop-index.right c.in_ok-right.right row
          (omega arith) (omega arith) keep c.number.ensures.kept c.in_ok-right.ensures.number (c.loop-index.invariant.2 st) a,
    )
