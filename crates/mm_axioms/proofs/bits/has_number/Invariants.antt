-- None of the words so far has the bit.
use Rattle.std.proofs.Common.{◌≡◌, take, false}
use Rattle.mm_axioms.specs.Mirror.Bits.{has_number}
use Rattle.mm_axioms.proofs.bits.has_number.Given as goal

abbrev pub invariant-loop-word : goal.invariant-loop-word
invariant-loop-word l = has_number (take l.word-index l.row) l.number ≡ false
