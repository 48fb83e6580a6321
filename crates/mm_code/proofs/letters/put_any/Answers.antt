-- A code that is put at the index is the next one that is read.
use Rattle.std.proofs.Common.{arith}
use Rattle.mm_code.proofs.LetterSteps.{put_last, put_tag}
use Rattle.mm_code.proofs.letters.put_any.Goals as goal

pub returns-in-90-clause-reads : goal.returns-in-90-clause-reads
returns-in-90-clause-reads c rest = put_tag c.args.slots.now c.args.index c.args.value c.args.byte rest c.requires (omega arith) (omega arith)

pub returns-in-65-to-84-clause-reads : goal.returns-in-65-to-84-clause-reads
returns-in-65-to-84-clause-reads c rest =
    put_last c.args.slots.now c.args.index _ c.args.value c.args.byte c.number_after.result rest c.requires (omega arith) (omega arith) (omega arith) (omega arith)
