-- The token is that at which the rule is broken, or the moves stop by it.
use Rattle.std.proofs.Common.{List, inl, inr, subst}
use Rattle.std.proofs.lemmas.Result.{on_ok_weaker}
use Rattle.mm_frame.specs.Sentence.{Sentence, sentence_of}
use Rattle.mm_places.specs.WholePlaces.{IsWholePlace}
use Rattle.mm_facts.specs.Explained.{judged_tokens}
use Rattle.mm_rules.specs.Verdict.{proof_of}
use Rattle.mm_explain.proofs.OwnHypotheses.{placed_prefix}
use Rattle.mm_facts.proofs.TokenHalts.{token_caused, moves_caused}
use Rattle.mm_explain.proofs.hypothesis_places.push_hypothesis_places.Goals as goal

pub push_at_stop-requires-clause-placed : goal.push_at_stop-requires-clause-placed
push_at_stop-requires-clause-placed c = (c.args.place.1, c.requires.placed)

pub returns-in-Token-clause-told : goal.returns-in-Token-clause-told
returns-in-Token-clause-told c =
    on_ok_weaker c.push_at_token.result
    (λ told p profile step r.
    let caused = token_caused c.in-Token.is r in
    let (details, facts, put) = told p.site in (
      details,
      inl (
        caused.0,
        c.in-Token.index,
        c.in-Token.byte,
        c.in-Token.text.now,
        subst (λ (ss : List Sentence). IsWholePlace ss (sentence_of p.site.s)
            (judged_tokens (proof_of p.site.s)) c.args.rule c.in-Token.index c.in-Token.byte)
            (placed_prefix p)
            (caused.1 c.args.place.1 (sentence_of p.site.s) p.number),
        caused.2,
        facts,
      ),
      put,
    ))
    c.push_at_token.ensures.told

pub returns-in-Moves-clause-told : goal.returns-in-Moves-clause-told
returns-in-Moves-clause-told c =
    on_ok_weaker c.push_at_stop.result
    (λ told p profile step r.
    let moved = moves_caused c.in-Moves.is r in
    let (details, facts, put) = told c.args.place.1 p in (details, inr (moved.0, facts), put))
    c.push_at_stop.ensures.told
