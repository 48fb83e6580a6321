use Rattle.std.proofs.Common.{◌≡◌, ◌*◌, ◌-◌, ◌^◌, ◌≤◌, min, take}
use Rattle.mm_code.specs.LetterCount.{letter_count}
use Rattle.mm_code.proofs.counting.letter_count.Given as goal

-- the letters of the codes so far, each of at most 13
abbrev pub invariant-loop-code : goal.invariant-loop-code
invariant-loop-code l =
    (l.letters ≡ min (letter_count (take l.code-index l.codes)) (2 ^ 64 - 1))
    × (l.letters ≤ 13 * l.code-index)
