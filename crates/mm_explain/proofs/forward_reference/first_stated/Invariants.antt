-- None of those so far is it.
use Rattle.std.proofs.Common.{◌≡◌, map, take, None, option_map}
use Rattle.mm_base.specs.Token.{plain_token}
use Rattle.mm_explain.specs.Later.{first_stated}
use Rattle.mm_explain.proofs.forward_reference.first_stated.Given as goal

abbrev pub invariant-loop-brief : goal.invariant-loop-brief
invariant-loop-brief l =
    first_stated l.label (map (λ b. option_map plain_token b.label) (take l.brief-index l.briefs))
    ≡ None
