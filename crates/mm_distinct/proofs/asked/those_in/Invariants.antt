use Rattle.std.proofs.Common.{take, Contains}
use Rattle.mm_step.specs.Stores.{numbers_in}
use Rattle.mm_step.specs.Mirror.CodeAsked.{AreOnce}
use Rattle.mm_distinct.proofs.asked.those_in.Given as goal

abbrev pub invariant-loop-symbol : goal.invariant-loop-symbol
invariant-loop-symbol l =
    AreOnce (Contains (numbers_in l.f)) (take l.symbol-index (numbers_in l.symbols))
    (numbers_in l.shared.items)
