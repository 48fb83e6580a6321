use Rattle.std.proofs.Common.{refl}
use Rattle.mm_forms.proofs.SmallProofs.UseLoops.{counted_more, counted_none}
use Rattle.mm_forms.proofs.small.count_uses.Goals as goal
use Rattle.mm_forms.proofs.small.count_uses.Goals.{in-Some, in_default}

pub loop-code-preserved : goal.loop-code-preserved
loop-code-preserved c = elim c.match-listed_index.branch [
  | in-Some w ↦
      let told = c.listed_index.ensures.some w.in-Some.index w.in-Some.is in
      rw w.uses-is
      (counted_more c.args.own c.args.codes.now c.loop-code.code-index _ c.loop-code.uses
      w.in-Some.index _ _ c.loop-code.invariant c.loop-code-test.true told.1 told.0 refl refl)
  | in_default w ↦
      rw w.uses-is
      (counted_none c.args.own c.args.codes.now c.loop-code.code-index _ c.loop-code.uses
      c.loop-code.invariant c.loop-code-test.true (c.listed_index.ensures.none w.in_default.is))
]
