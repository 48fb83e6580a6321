-- The label of one more statement is offered, or it has none.
use Rattle.std.proofs.Common.{ap, option_map}
use Rattle.std.proofs.lemmas.Result.{on_ok_weaker}
use Rattle.mm_base.specs.Token.{PlainToken, plain_token}
use Rattle.mm_base.specs.Statement.{plain_statement}
use Rattle.mm_explain.proofs.NearestLabels.{offered_on, offered_past}
use Rattle.mm_explain.proofs.label_suggestion.OffersPassing.pass.Goals as goal

pub returns-in-Some : goal.returns-in-Some
returns-in-Some c =
    on_ok_weaker c.offer.result
    (λ kept first passed has. offered_on first.nearest c.args.self.now.nearest passed
    (plain_statement c.args.statement.now) has c.offer.new.self c.in-Some.label.text.now
    (ap (λ o. option_map (λ (t : PlainToken). t.text) (option_map plain_token o)) c.in-Some.is)
    c.offer.ensures.wanted c.offer.ensures.listed kept)
    c.offer.ensures.kept

pub returns-in-None : goal.returns-in-None
returns-in-None c = λ first passed has.
    offered_past first.nearest c.args.self.now.nearest passed
    (plain_statement c.args.statement.now) has
    (ap (λ o. option_map (λ (t : PlainToken). t.text) (option_map plain_token o)) c.in-None.is)
