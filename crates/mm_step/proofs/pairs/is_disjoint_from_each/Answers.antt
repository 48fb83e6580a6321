use Rattle.std.proofs.Common.{arith, below_more}
use Rattle.std.proofs.lemmas.List.{length-map}
use Rattle.mm_step.proofs.ByNumbers.SharedVariables.{number_at, symbol_below}
use Rattle.mm_step.proofs.ByNumbers.NumberedSymbols.{number_of_name}
use Rattle.mm_step.proofs.pairs.is_disjoint_from_each.Goals as goal

pub is_disjoint-requires-clause-second : goal.is_disjoint-requires-clause-second
is_disjoint-requires-clause-second c = symbol_below c.args.book.now.statements _ c.args.f.now c.loop-symbol.symbol-index _ c.requires.second c.loop-symbol-test.true

pub loop-symbol-preserved : goal.loop-symbol-preserved
loop-symbol-preserved c =
    let at = number_at c.args.f.now c.loop-symbol.symbol-index (record { 0 = 0 }) c.loop-symbol-test.true in
    below_more _ _ c.loop-symbol.invariant (rw at c.if-not-is_disjoint.ensures)

pub returns-then-not-is_disjoint : goal.returns-then-not-is_disjoint
returns-then-not-is_disjoint c each =
    let same = number_at c.args.f.now _ (record { 0 = 0 }) c.loop-symbol-test.true in
    let variable = (c.is_variable.ensures.variable _ (number_of_name c.args.book.now.statements c.args.variable.0 c.requires.first)).0 c.if-not-is_variable.false in
    c.if-not-is_disjoint.ensures
    (rw same at (each variable c.loop-symbol.symbol-index (omega (arith, length-map c.args.f.now (λ s. s.0)))))

pub returns : goal.returns
returns c variable k less = c.loop-symbol.invariant k (omega (arith, length-map c.args.f.now (λ s. s.0)))
