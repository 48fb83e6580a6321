use Rattle.std.proofs.Common.{◌≡◌, drop}
use Rattle.std.specs.List.{flat_map}
use Rattle.mm_code.specs.Mirror.Reading.{with_prefix, reading}
use Rattle.mm_code.proofs.letters.read_tokens.Given as goal

-- the tokens that are left are read behind what is read so far
abbrev pub invariant-loop-at : goal.invariant-loop-at
invariant-loop-at l = with_prefix l.codes.items (reading l.value (flat_map (λ token. token.now) (drop l.at l.tokens))) ≡ reading 0 (flat_map (λ token. token.now) l.tokens)
