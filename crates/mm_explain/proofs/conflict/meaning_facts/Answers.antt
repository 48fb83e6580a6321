-- The error is that of the statement at which the files are refused.
use Rattle.std.proofs.Common.{◌≡◌, ◌+◌, ◌-◌, List, ℕ, ◌∷◌, ◌++◌, refl, sym, ap, ◌∙◌, arith}
use Rattle.mm_base.specs.Token.{PlainToken, plain_token}
use Rattle.mm_facts.specs.Explained.{Detail, detail_text, details_text, token_at_fault}
use Rattle.mm_rules.specs.declared.rule.Rule.TheVariants as rules
use Rattle.mm_explain.proofs.Collisions.{facts_told, stop_broken, stop_count}
use Rattle.mm_explain.proofs.conflict.meaning_facts.Goals as goal

pub read_semantic_error-requires-clause-broken : goal.read_semantic_error-requires-clause-broken
read_semantic_error-requires-clause-broken c =
    stop_broken c.requires (c.args.refusal.now.statement - 1) c.meaning_rule-rule.result
    (let e = stop_count c.requires c.args.refusal.now.statement refl in omega arith)
    c.meaning_rule-rule.ensures

pub returns : goal.returns
returns c =
    let earlier = c.in_ok-push_earlier.ensures in
    let token : PlainToken = plain_token c.token-token.result in
    let fault : Detail = token_at_fault token.text in
    let counted : c.in_ok-error.error.before + 1 ≡ c.args.refusal.now.statement =
    (let e = stop_count c.requires c.args.refusal.now.statement refl in
    let f = c.in_ok-error.ensures.before in omega arith) in (
      fault ∷ earlier.0,
      facts_told c.requires c.args.source c.in_ok-error.error token earlier.0 c.in_ok-error.ensures.error
          counted
          (c.meaning_rule-rule.ensures ∙ ap rules.Meaning (sym c.in_ok-error.ensures.rule))
          c.token-token.ensures earlier.1,
      earlier.2
          ∙ ap (λ (ts : List ℕ). ts ++ details_text earlier.0)
          (c.in_ok-push_token.ensures
          ∙ ap (λ (ts : List ℕ). ts ++ detail_text fault) c.new-text.ensures.items),
    )
