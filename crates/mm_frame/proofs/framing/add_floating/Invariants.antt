use Rattle.std.proofs.Common.{◌≡◌, ◌++◌, take}
use Rattle.mm_frame.specs.Mirror.Gathered.{floatings}
use Rattle.mm_frame.proofs.framing.add_floating.Given as goal

abbrev pub invariant-loop-symbol : goal.invariant-loop-symbol
invariant-loop-symbol l = l.indices.items ≡ l.fn.indices.items ++ floatings l.tables.infos.items (take l.symbol-index l.expression)
