use Rattle.std.proofs.Common.{◌≡◌, ℕ, ◌+◌, ◌≤◌, List, ◌++◌, length, take, drop}
use Rattle.mm_code.specs.Mirror.Reading.{with_prefix, reading}
use Rattle.mm_code.proofs.letters.put_token.Given as goal

-- There are slots for what is left of the token. And it, and whatever follows it, is read behind what is read so far.
abbrev pub invariant-loop-at : goal.invariant-loop-at
invariant-loop-at l = (l.index ≤ l.from + l.at) × (length l.slots ≡ length l.fn.slots) × ((rest : List ℕ) → with_prefix (take l.index l.slots) (reading l.value (drop l.at l.token ++ rest)) ≡ with_prefix (take l.from l.fn.slots) (reading l.leading (l.token ++ rest)))
