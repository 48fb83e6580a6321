use Rattle.std.proofs.Common.{◌≡◌, ℕ, ◌<◌, get_or, false}
use Rattle.mm_code.specs.declared.code.Code.TheVariants.{Number}
use Rattle.mm_places.specs.StepLetters.{is_number}
use Rattle.mm_places.proofs.letters.tag_count.Given as goal

-- those so far are tags
abbrev pub invariant-loop-index : goal.invariant-loop-index
invariant-loop-index l = (k : ℕ) → k < l.index → is_number (get_or l.codes k (Number 0)) ≡ false
