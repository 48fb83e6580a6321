-- The list is that of the tokens; with no `)` behind the first one these are no compressed proof.
use Rattle.std.proofs.Common.{take, drop, length, ◌-◌, inr}
use Rattle.mm_step.specs.Plain.{token_texts}
use Rattle.mm_places.proofs.ProofPlaces.WholePlaces.{never_endless, after_first}
use Rattle.mm_facts.proofs.ListedLabels.{listed_there}
use Rattle.mm_facts.proofs.listed.listed_labels.Goals as goal

pub returns-in-Some : goal.returns-in-Some
returns-in-Some c =
    listed_there _ _ (token_texts c.in-Some.listed.now) _
    (after_first c.args.tokens.now (c.begins_list.ensures.first.0 c.if-begins_list.true))
    c.in-Some.ensures

pub returns-in-None : goal.returns-in-None
returns-in-None c = λ labels letters parts.
    let tokens = c.args.tokens.now in
    never_endless (token_texts tokens) (token_texts (take (length tokens - 1) (drop 1 tokens)))
    labels (after_first tokens (c.begins_list.ensures.first.0 c.if-begins_list.true))
    c.in-None.ensures (inr (letters, parts))
