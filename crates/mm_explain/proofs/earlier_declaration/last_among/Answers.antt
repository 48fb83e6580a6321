-- One token more, or all of them.
use Rattle.std.proofs.Common.{◌≡◌, List, map, option_map, subst, take_all}
use Rattle.mm_base.specs.declared.token.Token.{Token}
use Rattle.mm_base.specs.Token.{plain_token}
use Rattle.mm_explain.specs.MeaningFacts.{last_met, mentions}
use Rattle.mm_explain.proofs.NamesMet.{met_more}
use Rattle.mm_explain.proofs.earlier_declaration.last_among.Goals as goal

pub loop-token-preserved : goal.loop-token-preserved
loop-token-preserved c =
    rw c.or-last.ensures (met_more c.args.name.now c.args.tokens.now c.loop-token.token-index _
    c.with_name.result c.loop-token.last c.loop-token-test.true c.with_name.ensures
    c.loop-token.invariant)

pub returns : goal.returns
returns c =
    subst
    (λ (ts : List Token). option_map plain_token c.loop-token.last
    ≡ last_met c.args.name.now (mentions (map plain_token ts)))
    (take_all c.loop-token.token-index c.args.tokens.now c.loop-token-test.false)
    c.loop-token.invariant
