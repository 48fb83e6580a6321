use Rattle.std.proofs.Common.{Contains, arith}
use Rattle.std.proofs.lemmas.List.{length-map}
use Rattle.mm_step.specs.Stores.{numbers_in}
use Rattle.mm_step.proofs.ByNumbers.SharedVariables.{number_at}
use Rattle.mm_distinct.proofs.AskedByNumbers.ListedVariables.{once_more}
use Rattle.mm_distinct.proofs.asked.those_in.Goals as goal

pub loop-symbol-preserved : goal.loop-symbol-preserved
loop-symbol-preserved c =
    let index = c.loop-symbol.symbol-index in
    let at = number_at c.args.symbols.now index (record { 0 = 0 }) c.loop-symbol-test.true in
    once_more (Contains (numbers_in c.args.f.now)) (numbers_in c.args.symbols.now) _ _ index
    (omega (arith, length-map c.args.symbols.now (λ s. s.0))) (rw at c.in_ok-add_shared.ensures)
    c.loop-symbol.invariant
