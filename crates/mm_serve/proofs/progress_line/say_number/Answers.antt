-- The digits are written behind the text.
use Rattle.std.proofs.Common.{decimal}
use Rattle.mm_serve.proofs.AnsweredWords.{beginning_both}
use Rattle.mm_serve.proofs.progress_line.say_number.Goals as goal

pub returns-clause-beginning : goal.returns-clause-beginning
returns-clause-beginning g c =
    beginning_both g.P.Write.contents c.args.text.now (decimal c.args.number) c.say_text-2.result _
    c.say_text.new.err _ c.in_ok-say_text.ensures.all
    (rw (c.as_bytes.ensures.value, c.format.ensures.text) at c.say_text-2.ensures.beginning)
