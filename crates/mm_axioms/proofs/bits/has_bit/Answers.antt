-- The bit of its word.
use Rattle.mm_axioms.proofs.WordSets.{is_bit_of_here, no_bit_of}
use Rattle.mm_axioms.proofs.bits.has_bit.Goals as goal

pub returns-then-word-number : goal.returns-then-word-number
returns-then-word-number c = is_bit_of_here c.args.word c.args.number c.if-word-number.true

pub returns-else-word-number : goal.returns-else-word-number
returns-else-word-number c = no_bit_of c.args.word c.args.number c.if-word-number.false
