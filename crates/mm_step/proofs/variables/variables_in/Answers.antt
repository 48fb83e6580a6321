use Rattle.std.proofs.Common.{arith}
use Rattle.std.proofs.lemmas.List.{length-map}
use Rattle.mm_step.specs.Stores.{numbers_in}
use Rattle.mm_step.proofs.ByNumbers.SharedVariables.{number_at}
use Rattle.mm_step.proofs.ByNumbers.EntryVariables.{variables_more, variables_once}
use Rattle.mm_step.proofs.variables.variables_in.Goals as goal

pub loop-symbol-preserved : goal.loop-symbol-preserved
loop-symbol-preserved c =
    let index = c.loop-symbol.symbol-index in
    let at = number_at c.args.e.now index (record { 0 = 0 }) c.loop-symbol-test.true in
    variables_more c.args.book.now.statements (numbers_in c.args.e.now) _ _ index
    (omega (arith, length-map c.args.e.now (λ s. s.0))) (rw at c.in_ok-add_variable.ensures)
    c.loop-symbol.invariant

pub returns : goal.returns
returns c =
    variables_once c.args.book.now.statements (numbers_in c.args.e.now) _ _
    c.loop-symbol.symbol-index (omega (arith, length-map c.args.e.now (λ s. s.0)))
    c.loop-symbol.invariant c.sort_once.ensures.same c.sort_once.ensures.rising
