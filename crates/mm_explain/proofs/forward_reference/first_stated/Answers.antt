-- The label is the first that is it, or not it.
use Rattle.std.proofs.Common.{sym, ap, ◌∙◌}
use Rattle.std.specs.Prelude.{option_map}
use Rattle.mm_base.specs.Token.{plain_token}
use Rattle.mm_explain.proofs.LaterLabels.{first_there, none_more}
use Rattle.mm_explain.proofs.forward_reference.first_stated.Goals as goal

pub returns-in-Some : goal.returns-in-Some
returns-in-Some c =
    first_there c.args.label.now c.args.briefs.now c.loop-brief.brief-index _
    c.loop-brief-test.true c.loop-brief.invariant (plain_token c.in-Some.token)
    (ap (option_map plain_token) (sym c.in-Some.is) ∙ c.with_text.ensures)

pub loop-brief-preserved : goal.loop-brief-preserved
loop-brief-preserved c =
    none_more c.args.label.now c.args.briefs.now c.loop-brief.brief-index _
    c.loop-brief-test.true c.loop-brief.invariant
    (sym c.with_text.ensures ∙ ap (option_map plain_token) c.in_default.is)
