-- The words before an index were taken out.
use Rattle.std.proofs.Common.{◌-◌, length}
use Rattle.mm_axioms.specs.Mirror.Scratch.{IsNoted}
use Rattle.mm_axioms.proofs.ScratchWords.{IsDrained}
use Rattle.mm_axioms.proofs.scratch.Scratch.drain.Given as goal

abbrev pub invariant-loop-at : goal.invariant-loop-at
invariant-loop-at l =
    IsDrained l.fn.self l.self-inside.words.items l.fn.out.items l.out.items l.at
    × IsNoted l.self-inside.words.items l.self-inside.touched.items

abbrev pub decreases-loop-at : goal.decreases-loop-at
decreases-loop-at l = length l.self-inside.words.items - l.at
