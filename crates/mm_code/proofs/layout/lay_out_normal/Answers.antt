-- The first label begins the lines, and the others follow it.
use Rattle.mm_code.specs.Layout.{texts}
use Rattle.mm_code.proofs.LaidOutLines.{tokens_laid_out}
use Rattle.mm_code.proofs.layout.lay_out_normal.Goals as goal

pub returns : goal.returns
returns c =
    rw c.in-Some.ensures.cases.0
    (tokens_laid_out c.in_ok-text.text.items c.begin_line.new.text.items c.add_tokens.new.text.items c.push.new.self.items _ c.in_ok-room.room c.in_ok-add_tokens.field-0 (texts c.in-Some.others.now)
    c.in_ok-text.ensures.empty c.in_ok-room.ensures.text c.in_ok-room.ensures.room c.in_ok-add_tokens.ensures c.in_ok-push.ensures.items)
