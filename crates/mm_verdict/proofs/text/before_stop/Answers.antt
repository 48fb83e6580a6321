-- The last token is left out where it is `$.`, and the proof ends there.
use Rattle.std.proofs.Common.{true, false, sym, ◌∙◌}
use Rattle.mm_verdict.proofs.Questions.HandedProofs.{before_last, ends_at_last, none_ends}
use Rattle.mm_verdict.proofs.Questions.HandedProofs.{none_stopped}
use Rattle.mm_verdict.proofs.text.before_stop.Goals as goal

pub returns-in_default-clause-tokens : goal.returns-in_default-clause-tokens
returns-in_default-clause-tokens c =
    none_stopped c.args.tokens.now c.in_default.ensures.cases

pub returns-in_default-clause-end : goal.returns-in_default-clause-end
returns-in_default-clause-end c =
    none_ends c.args.size c.args.tokens.now c.in_default.ensures.cases

pub returns-then-is_stop-clause-tokens : goal.returns-then-is_stop-clause-tokens
returns-then-is_stop-clause-tokens c =
    before_last c.args.tokens.now c.in-Some.last.now c.in-Some.others.now true
    c.in-Some.ensures.cases.0 (sym c.is_stop.ensures ∙ c.if-is_stop.true)

pub returns-then-is_stop-clause-end : goal.returns-then-is_stop-clause-end
returns-then-is_stop-clause-end c =
    ends_at_last c.args.size c.args.tokens.now c.in-Some.last.now c.in-Some.others.now true
    c.in-Some.ensures.cases.0 (sym c.is_stop.ensures ∙ c.if-is_stop.true)

pub returns-clause-tokens : goal.returns-clause-tokens
returns-clause-tokens c =
    before_last c.args.tokens.now c.in-Some.last.now c.in-Some.others.now false
    c.in-Some.ensures.cases.0 (sym c.is_stop.ensures ∙ c.if-is_stop.false)

pub returns-clause-end : goal.returns-clause-end
returns-clause-end c =
    ends_at_last c.args.size c.args.tokens.now c.in-Some.last.now c.in-Some.others.now false
    c.in-Some.ensures.cases.0 (sym c.is_stop.ensures ∙ c.if-is_stop.false)
