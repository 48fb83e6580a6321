-- One token more.
use Rattle.std.proofs.Common.{ℕ, List, ◌++◌, get_or, sym, ap, ◌∙◌}
use Rattle.mm_places.proofs.ProofPlaces.WholePlaces.{no_token, joined_more, joined_all}
use Rattle.mm_places.proofs.whole_places.joined.Goals as goal

pub loop-token-preserved : goal.loop-token-preserved
loop-token-preserved c =
    let token = get_or c.args.tokens.now c.loop-token.token-index no_token in
    c.in_ok-extend_from_slice.ensures.items
    ∙ ap (λ (l : List ℕ). l ++ token.text.now) c.loop-token.invariant
    ∙ sym (joined_more c.args.tokens.now c.loop-token.token-index no_token c.loop-token-test.true)

pub returns : goal.returns
returns c =
    c.loop-token.invariant
    ∙ joined_all c.args.tokens.now c.loop-token.token-index c.loop-token-test.false
