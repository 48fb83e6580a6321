use Rattle.std.proofs.Common.{◌≡◌, ◌-◌, ◌^◌, min, take}
use Rattle.mm_code.specs.Layout.{texts, size_of}
use Rattle.mm_code.proofs.layout.size_of_tokens.Given as goal

-- the size of the tokens so far
abbrev pub invariant-loop-token : goal.invariant-loop-token
invariant-loop-token l = l.size ≡ min (size_of (texts (take l.token-index l.tokens))) (2 ^ 64 - 1)
