-- The first token is left out where it is `$=`.
use Rattle.std.proofs.Common.{true, false, sym, ◌∙◌}
use Rattle.mm_verdict.proofs.Questions.HandedProofs.{behind_first, none_begun}
use Rattle.mm_verdict.proofs.text.behind_equals.Goals as goal

pub returns-in_default : goal.returns-in_default
returns-in_default c = none_begun c.args.tokens.now c.in_default.ensures.cases

pub returns-then-is_equals : goal.returns-then-is_equals
returns-then-is_equals c =
    behind_first c.args.tokens.now c.in-Some.first.now c.in-Some.others.now true
    c.in-Some.ensures.cases.0 (sym c.is_equals.ensures ∙ c.if-is_equals.true)

pub returns : goal.returns
returns c =
    behind_first c.args.tokens.now c.in-Some.first.now c.in-Some.others.now false
    c.in-Some.ensures.cases.0 (sym c.is_equals.ensures ∙ c.if-is_equals.false)
