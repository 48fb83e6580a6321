use Rattle.std.proofs.Common.{take, map}
use Rattle.mm_frame.proofs.Names.NameNumbers.{StandOnce}
use Rattle.mm_frame.proofs.broken.has_repeats_among_few.Given as goal

abbrev pub invariant-loop-at : goal.invariant-loop-at
invariant-loop-at l = StandOnce (take l.at (map (λ token. token.text.now) l.symbols))
