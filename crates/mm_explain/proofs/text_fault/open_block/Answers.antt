-- The last of the blocks that are open at the end is the innermost.
use Rattle.std.proofs.Common.{List, map, arith}
use Rattle.mm_base.specs.declared.token.Token.{Token}
use Rattle.mm_text.specs.Files.{plain_file}
use Rattle.mm_text.proofs.Reader.WholeReadings.{readings_are_balanced}
use Rattle.mm_explain.proofs.InnermostBlocks.{open_block_there, popped}
use Rattle.mm_explain.proofs.text_fault.open_block.Goals as goal

pub returns : goal.returns
returns c = λ statements ending reads.
    let blocks : List Token = c.pass_all.new.visitor.blocks.items in
    open_block_there statements blocks c.pop.new.self.items c.pop.result
    (readings_are_balanced (map plain_file c.args.files.now) statements ending reads)
    (c.in_ok-pass_all.ensures statements ending reads)
    (popped c.pop.result blocks c.pop.new.self.items _ _
    (let ok = c.pass_all.new.visitor.blocks.ok in omega arith) c.pop.ensures.items
    c.pop.ensures.cases)
