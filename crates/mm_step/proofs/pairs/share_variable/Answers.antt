use Rattle.std.proofs.Common.{arith, below_more}
use Rattle.std.proofs.lemmas.List.{length-map}
use Rattle.mm_step.specs.Stores.{numbers_in}
use Rattle.mm_step.proofs.ByNumbers.SharedVariables.{number_at, symbol_below, shared_told}
use Rattle.mm_step.proofs.ByNumbers.SharedVariables.{not_shared_told}
use Rattle.mm_step.proofs.pairs.share_variable.Goals as goal

pub is_shared-requires : goal.is_shared-requires
is_shared-requires c = symbol_below c.args.book.now.statements _ c.args.e.now c.loop-symbol.symbol-index _ c.requires.first c.loop-symbol-test.true

pub returns-then-is_shared : goal.returns-then-is_shared
returns-then-is_shared c =
    let at = number_at c.args.e.now c.loop-symbol.symbol-index (record { 0 = 0 }) c.loop-symbol-test.true in
    let both = c.if-is_shared.ensures in
    shared_told c.args.book.now.statements c.args.own.now.index (numbers_in c.args.e.now) (numbers_in c.args.f.now) c.loop-symbol.symbol-index c.requires.sound.0 c.requires.first
    (omega (arith, length-map c.args.e.now (λ s. s.0))) (rw at both.0) (rw at both.1)

pub loop-symbol-preserved : goal.loop-symbol-preserved
loop-symbol-preserved c =
    let at = number_at c.args.e.now c.loop-symbol.symbol-index (record { 0 = 0 }) c.loop-symbol-test.true in
    below_more _ _ c.loop-symbol.invariant (rw at c.if-is_shared.ensures)

pub returns : goal.returns
returns c =
    not_shared_told c.one_number.ensures c.args.book.now.statements c.args.own.now.index _ _ c.requires.first c.requires.second
    (λ k less. c.loop-symbol.invariant k (omega (arith, length-map c.args.e.now (λ s. s.0))))
