use Rattle.std.proofs.Common.{arith}
use Rattle.std.proofs.lemmas.List.{length-map}
use Rattle.mm_step.specs.Stores.{numbers_in}
use Rattle.mm_step.proofs.ByNumbers.SharedVariables.{number_at}
use Rattle.mm_distinct.proofs.AskedByNumbers.ListedVariables.{missing_more}
use Rattle.mm_distinct.proofs.asked.missing_among.Goals as goal

pub loop-u-preserved : goal.loop-u-preserved
loop-u-preserved c =
    let at = number_at c.args.e.now c.loop-u.u-index (record { 0 = 0 }) c.loop-u-test.true in
    missing_more _ _ (numbers_in c.args.e.now) _ _ _ c.loop-u.u-index
    (omega (arith, length-map c.args.e.now (λ s. s.0))) (rw at c.in_ok-add_missing_of.ensures)
    c.loop-u.invariant
