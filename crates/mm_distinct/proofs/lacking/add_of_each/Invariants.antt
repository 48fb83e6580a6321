use Rattle.std.proofs.Common.{take, drop}
use Rattle.mm_frame.specs.Pieces.{variables_of}
use Rattle.mm_step.specs.Mirror.CodeAsked.{number_pairs}
use Rattle.mm_step.specs.Mirror.CodeVerify.{value_of, pairs_in}
use Rattle.mm_distinct.specs.Mirror.CodeLacking.{AddsLacking}
use Rattle.mm_distinct.proofs.lacking.add_of_each.Given as goal

abbrev pub invariant-loop-pair : goal.invariant-loop-pair
invariant-loop-pair g l =
    AddsLacking l.fn.book.statements l.fn.own.index
    (value_of (variables_of l.signature.hypotheses.now) (drop l.base (g.S.Store.stack l.store)))
    (take l.pair-index (pairs_in l.signature.pairs.now)) (number_pairs l.initial.lacking.items)
    (number_pairs l.lacking.items)
