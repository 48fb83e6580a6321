-- The words so far were put in.
use Rattle.mm_axioms.proofs.ScratchWords.{AreJoined}
use Rattle.mm_axioms.proofs.scratch.Scratch.join.Given as goal

abbrev pub invariant-loop-word : goal.invariant-loop-word
invariant-loop-word l = AreJoined l.fn.self l.self l.row l.word-index
