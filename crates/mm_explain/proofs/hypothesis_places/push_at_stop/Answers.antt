-- The theorem's own hypotheses are told by the rule.
use Rattle.std.proofs.Common.{inl, sym, ◌∙◌}
use Rattle.std.proofs.lemmas.Result.{on_ok_weaker}
use Rattle.mm_explain.proofs.hypothesis_places.push_at_stop.Goals as goal

pub returns-then-tells_own-clause-told : goal.returns-then-tells_own-clause-told
returns-then-tells_own-clause-told c =
    on_ok_weaker c.push_own_hypotheses.result
    (λ told count p.
    let (details, facts, put) = told count p in
    (details, inl (sym c.tells_own.ensures ∙ c.if-tells_own.true, facts), put))
    c.push_own_hypotheses.ensures.told
