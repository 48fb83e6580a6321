use Rattle.std.proofs.Common.{arith, below_more}
use Rattle.std.proofs.lemmas.List.{length-map}
use Rattle.mm_step.specs.Stores.{numbers_in}
use Rattle.mm_step.proofs.ByNumbers.SharedVariables.{number_at, symbol_below, distinct_told}
use Rattle.mm_step.proofs.ByNumbers.SharedVariables.{near_told}
use Rattle.mm_step.proofs.pairs.are_disjoint.Goals as goal

pub is_disjoint_from_each-requires-clause-first : goal.is_disjoint_from_each-requires-clause-first
is_disjoint_from_each-requires-clause-first c = symbol_below c.args.book.now.statements _ c.args.e.now c.loop-symbol.symbol-index _ c.requires.first c.loop-symbol-test.true

pub returns-then-not-is_disjoint_from_each : goal.returns-then-not-is_disjoint_from_each
returns-then-not-is_disjoint_from_each c =
    let at = number_at c.args.e.now c.loop-symbol.symbol-index (record { 0 = 0 }) c.loop-symbol-test.true in
    near_told c.args.book.now.statements c.args.own.now.index (numbers_in c.args.e.now) (numbers_in c.args.f.now) c.loop-symbol.symbol-index c.requires.sound.0 c.requires.first c.requires.second
    (omega (arith, length-map c.args.e.now (λ s. s.0))) (rw at c.if-not-is_disjoint_from_each.ensures)

pub loop-symbol-preserved : goal.loop-symbol-preserved
loop-symbol-preserved c =
    let at = number_at c.args.e.now c.loop-symbol.symbol-index (record { 0 = 0 }) c.loop-symbol-test.true in
    below_more _ _ c.loop-symbol.invariant (rw at c.if-not-is_disjoint_from_each.ensures)

pub returns : goal.returns
returns c = distinct_told _ _ _ _ (λ k less. c.loop-symbol.invariant k (omega (arith, length-map c.args.e.now (λ s. s.0))))
