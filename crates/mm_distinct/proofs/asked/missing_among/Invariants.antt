use Rattle.std.proofs.Common.{take}
use Rattle.mm_step.specs.Stores.{numbers_in}
use Rattle.mm_step.specs.Mirror.CodeAsked.{AreMissingNumbers, number_pairs}
use Rattle.mm_distinct.proofs.asked.missing_among.Given as goal

abbrev pub invariant-loop-u : goal.invariant-loop-u
invariant-loop-u l =
    AreMissingNumbers l.fn.book.statements l.fn.own.index (take l.u-index (numbers_in l.e))
    (numbers_in l.f) (number_pairs l.missing.items)
