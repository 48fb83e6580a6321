use Rattle.std.proofs.Common.{arith}
use Rattle.mm_step.proofs.StoreRanges.{stays-before, part-of-copy}
use Rattle.mm_step.proofs.said.put_part.Goals as goal

pub returns-then-room-used-ge-CHUNK-clause-put : goal.returns-then-room-used-ge-CHUNK-clause-put
returns-then-room-used-ge-CHUNK-clause-put c =
    part-of-copy c.args.used c.args.start c.args.end _ c.args.room.now c.put_chunk.new.room
    c.requires.used c.requires.order c.requires.inside c.if-end-start-le-CHUNK.true
    c.put_chunk.ensures.put

pub returns-then-room-used-ge-CHUNK-clause-prefix :
    goal.returns-then-room-used-ge-CHUNK-clause-prefix
returns-then-room-used-ge-CHUNK-clause-prefix c =
    stays-before c.args.used _ c.args.room.now c.put_chunk.new.room _ c.requires.used (omega arith)
    c.put_chunk.ensures.put
