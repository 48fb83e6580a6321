-- What is told twice is told of the same hypotheses.
use Rattle.std.proofs.Common.{take, ap, ◌∙◌, length}
use Rattle.std.proofs.lemmas.Result.{on_ok_weaker}
use Rattle.mm_frame.proofs.Rules.ObeyedRules.{allmeant_prefix}
use Rattle.mm_facts.specs.Mirror.Explaining.{told_steps}
use Rattle.mm_facts.proofs.AskedDetails.{turn_told}
use Rattle.mm_facts.proofs.HaltDetails.{count_steps}
use Rattle.mm_facts.proofs.details.push_asked_in_turn.Goals as goal

pub returns : goal.returns
returns c =
    on_ok_weaker c.push_asked-2.result
    (λ told limit index s prefix moves number h.
    let st = c.args.book.now.statements in
    let first = c.in_ok-push_asked.ensures limit index s prefix moves number h in
    let second = told limit index s prefix moves number h in
    turn_told (take index st) s h.there.stack h.there.kept (told_steps c.args.stop.now) h.there.left
    (allmeant_prefix st index c.requires.sound.0)
    (count_steps c.args.stop.now ∙ ap length h.same_origins ∙ h.there.made.count) first.0 second.0
    c.args.out.now.items c.push_asked.new.out.items c.push_asked-2.new.out.items first.1 first.2
    second.1 second.2)
    c.push_asked-2.ensures
