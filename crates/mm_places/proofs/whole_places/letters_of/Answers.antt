-- A list without an end has no letters.
use Rattle.std.proofs.Common.{take, drop, length, ◌-◌, inr}
use Rattle.mm_step.specs.Plain.{token_texts}
use Rattle.mm_places.proofs.ProofPlaces.WholePlaces.{never_endless, after_first}
use Rattle.mm_places.proofs.whole_places.letters_of.Goals as goal

pub unreachable-requires : goal.unreachable-requires
unreachable-requires c =
    let tokens = c.args.tokens.now in
    let are = c.requires.1 in
    never_endless (token_texts tokens) (token_texts (take (length tokens - 1) (drop 1 tokens)))
    are.0 (after_first tokens (c.begins_list.ensures.first.0 c.if-begins_list.true))
    c.in-None.ensures (inr (are.1, are.2))
