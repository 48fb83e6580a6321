-- It is the last of those before the index.
use Rattle.std.proofs.Common.{◌≡◌, map, take, option_map}
use Rattle.mm_base.specs.Token.{plain_token}
use Rattle.mm_explain.specs.MeaningFacts.{last_met, mentions}
use Rattle.mm_explain.proofs.earlier_declaration.last_among.Given as goal

abbrev pub invariant-loop-token : goal.invariant-loop-token
invariant-loop-token l =
    option_map plain_token l.last
    ≡ last_met l.name (mentions (map plain_token (take l.token-index l.tokens)))
