use Rattle.std.proofs.Common.{◌≡◌, ◌-◌, ◌≤◌}
use Rattle.mm_code.specs.LetterCount.{numbers_within, letters_for}
use Rattle.mm_code.proofs.counting.letters_for.Given as goal

-- what is reached are the numbers within the letters so far, and the number has no fewer
abbrev pub invariant-loop-within : goal.invariant-loop-within
invariant-loop-within l = (l.within ≡ numbers_within l.letters) × (l.letters ≤ letters_for l.number)

abbrev pub decreases-loop-within : goal.decreases-loop-within
decreases-loop-within l = l.number - l.within
