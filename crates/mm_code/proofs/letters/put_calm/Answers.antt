-- A code that is put at the index is the next one that is read, or is put over where the letter is
-- a leading digit.
use Rattle.std.proofs.Common.{arith, ◌+◌, ◌*◌, ◌%◌}
use Rattle.mm_code.specs.declared.code.Code.TheVariants.{Number}
use Rattle.mm_code.proofs.LetterSteps.{put_last, put_leading}
use Rattle.mm_code.proofs.letters.put_calm.Goals as goal

pub returns-then-digit-lt20-clause-reads : goal.returns-then-digit-lt20-clause-reads
returns-then-digit-lt20-clause-reads c rest =
    put_last c.args.slots.now c.args.index _ c.args.value c.args.byte (20 * c.args.value + (c.from-digit.result + 4294967231) % 4294967296 + 1) rest c.requires.slot (omega arith) (omega arith) (omega arith) (omega arith)

pub returns-else-digit-lt20-clause-reads : goal.returns-else-digit-lt20-clause-reads
returns-else-digit-lt20-clause-reads c rest =
    put_leading c.args.slots.now c.args.index _ c.args.value c.args.byte ((5 * c.args.value + (c.from-digit.result + 4294967231) % 4294967296 + 4294967277) % 4294967296)
    (Number (20 * c.args.value + (c.from-digit.result + 4294967231) % 4294967296 + 1)) rest (omega arith) (omega arith) (omega arith) (omega arith)
