-- The texts are written one after the other.
use Rattle.std.proofs.Common.{◌++◌}
use Rattle.mm_serve.proofs.AnsweredWords.{all_both, beginning_both, breaks_before, breaks_both}
use Rattle.mm_serve.proofs.AnsweredWords.{on_failure, takes_both}
use Rattle.mm_serve.proofs.say.say_all.Goals as goal

pub returns-in_err-say_text-clause-beginning : goal.returns-in_err-say_text-clause-beginning
returns-in_err-say_text-clause-beginning g c = on_failure c.from_residual.result
    (breaks_before g.E.Write.contents (c.args.first.now ++ c.args.second.now) c.args.third.now _ _
    (breaks_before g.E.Write.contents c.args.first.now c.args.second.now _ _
    c.in_err-say_text.ensures.beginning))

pub returns-in_err-say_text-2-clause-beginning : goal.returns-in_err-say_text-2-clause-beginning
returns-in_err-say_text-2-clause-beginning g c = on_failure c.from_residual-in_err-say_text-2.result
    (breaks_before g.E.Write.contents (c.args.first.now ++ c.args.second.now) c.args.third.now _ _
    (breaks_both g.E.Write.contents c.args.first.now c.args.second.now _ c.say_text.new.err _
    c.in_ok-say_text.ensures.all c.in_err-say_text-2.ensures.beginning))

pub returns-clause-all : goal.returns-clause-all
returns-clause-all g c =
    all_both g.E.Write.contents (c.args.first.now ++ c.args.second.now) c.args.third.now
    c.say_text-3.result _ c.say_text-2.new.err _
    (takes_both g.E.Write.contents c.args.first.now c.args.second.now _ c.say_text.new.err _
    c.in_ok-say_text.ensures.all c.in_ok-say_text-2.ensures.all) c.say_text-3.ensures.all

pub returns-clause-beginning : goal.returns-clause-beginning
returns-clause-beginning g c =
    beginning_both g.E.Write.contents (c.args.first.now ++ c.args.second.now) c.args.third.now
    c.say_text-3.result _ c.say_text-2.new.err _
    (takes_both g.E.Write.contents c.args.first.now c.args.second.now _ c.say_text.new.err _
    c.in_ok-say_text.ensures.all c.in_ok-say_text-2.ensures.all) c.say_text-3.ensures.beginning
