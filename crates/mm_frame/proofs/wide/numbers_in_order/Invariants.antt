use Rattle.std.proofs.Common.{◌≡◌, map, take}
use Rattle.mm_frame.proofs.wide.numbers_in_order.Given as goal

abbrev pub invariant-loop-symbol : goal.invariant-loop-symbol
invariant-loop-symbol l = l.numbers.items ≡ map (λ n. n.0) (take l.symbol-index l.symbols)
