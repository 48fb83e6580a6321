use Rattle.std.proofs.Common.{take}
use Rattle.mm_step.specs.Stores.{numbers_in}
use Rattle.mm_step.specs.Mirror.CodeAsked.{AddsMissing, number_pairs}
use Rattle.mm_distinct.proofs.asked.add_missing_of.Given as goal

abbrev pub invariant-loop-v : goal.invariant-loop-v
invariant-loop-v l =
    AddsMissing l.fn.book.statements l.fn.own.index l.u.0 (take l.v-index (numbers_in l.f))
    (number_pairs l.initial.missing.items) (number_pairs l.missing.items)
