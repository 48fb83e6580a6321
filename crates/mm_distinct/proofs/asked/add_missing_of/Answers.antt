use Rattle.std.proofs.Common.{arith}
use Rattle.std.proofs.lemmas.List.{length-map}
use Rattle.mm_step.specs.Stores.{numbers_in}
use Rattle.mm_step.proofs.ByNumbers.SharedVariables.{number_at}
use Rattle.mm_distinct.proofs.AskedByNumbers.ListedVariables.{adds_more}
use Rattle.mm_distinct.proofs.asked.add_missing_of.Goals as goal

pub loop-v-preserved : goal.loop-v-preserved
loop-v-preserved c =
    let at = number_at c.args.f.now c.loop-v.v-index (record { 0 = 0 }) c.loop-v-test.true in
    adds_more _ _ c.args.u.0 (numbers_in c.args.f.now) _ _ _ c.loop-v.v-index
    (omega (arith, length-map c.args.f.now (λ s. s.0))) (rw at c.in_ok-add_missing.ensures)
    c.loop-v.invariant
