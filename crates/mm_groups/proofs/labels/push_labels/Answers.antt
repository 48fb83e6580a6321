-- One token more is appended, or stands for an unknown step.
use Rattle.std.proofs.Common.{◌≡◌, ◌+◌, ◌++◌, List, filter, not, take, ap, sym, subst, ◌∙◌}
use Rattle.std.proofs.lemmas.List.{map-append, map_more, take_all}
use Rattle.mm_base.specs.declared.token.Token.{Token}
use Rattle.mm_code.specs.Layout.{texts}
use Rattle.mm_step.specs.Plain.{token_texts}
use Rattle.mm_groups.specs.Shared.{is_known}
use Rattle.mm_groups.proofs.NamedLabels.{kept_more, kept_same}
use Rattle.mm_groups.proofs.labels.push_labels.Goals as goal

pub loop-token-preserved-then-is_unknown : goal.loop-token-preserved-then-is_unknown
loop-token-preserved-then-is_unknown c =
    let tokens = c.args.tokens.now in
    let i = c.loop-token.token-index in
    kept_same is_known (texts c.args.labels.now.items) (token_texts (take i tokens))
    (token_texts (take (i + 1) tokens)) (texts c.loop-token.labels.items) _ c.loop-token.invariant
    (map_more (λ (t : Token). t.text.now) tokens i _ c.loop-token-test.true)
    (ap not (sym c.is_unknown.ensures ∙ c.if-is_unknown.true))

pub loop-token-preserved : goal.loop-token-preserved
loop-token-preserved c =
    let tokens = c.args.tokens.now in
    let i = c.loop-token.token-index in
    ap texts c.in_ok-push.ensures.items
    ∙ map-append (λ t. t.now) c.loop-token.labels.items _
    ∙ kept_more is_known (texts c.args.labels.now.items) (token_texts (take i tokens))
    (token_texts (take (i + 1) tokens)) (texts c.loop-token.labels.items) _ c.loop-token.invariant
    (map_more (λ (t : Token). t.text.now) tokens i _ c.loop-token-test.true)
    (ap not (sym c.is_unknown.ensures ∙ c.if-is_unknown.false))

pub returns : goal.returns
returns c =
    subst (λ (ts : List Token). texts c.loop-token.labels.items
    ≡ texts c.args.labels.now.items ++ filter is_known (token_texts ts))
    (take_all c.loop-token.token-index c.args.tokens.now c.loop-token-test.false)
    c.loop-token.invariant
