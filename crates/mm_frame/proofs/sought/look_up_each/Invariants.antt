use Rattle.std.proofs.Common.{map, take}
use Rattle.mm_frame.specs.Mirror.Layout.{statements_of}
use Rattle.mm_frame.specs.Mirror.Sought.{AreSought}
use Rattle.mm_frame.proofs.sought.look_up_each.Given as goal

abbrev pub invariant-loop-token : goal.invariant-loop-token
invariant-loop-token l = AreSought (statements_of l.tables) (map (λ n. n.0) l.numbers.items) (take l.token-index (map (λ t. t.text.now) l.symbols))
