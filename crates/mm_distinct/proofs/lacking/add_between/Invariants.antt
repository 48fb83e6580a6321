use Rattle.std.proofs.Common.{take}
use Rattle.mm_step.specs.Stores.{numbers_in}
use Rattle.mm_step.specs.Mirror.CodeAsked.{number_pairs}
use Rattle.mm_distinct.specs.Mirror.CodeLacking.{AddsBetween}
use Rattle.mm_distinct.proofs.lacking.add_between.Given as goal

abbrev pub invariant-loop-u : goal.invariant-loop-u
invariant-loop-u l =
    AddsBetween l.fn.book.statements l.fn.own.index (take l.u-index (numbers_in l.e))
    (numbers_in l.f) (number_pairs l.initial.lacking.items) (number_pairs l.lacking.items)
