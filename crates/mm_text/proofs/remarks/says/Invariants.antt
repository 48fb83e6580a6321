use Rattle.std.proofs.Common.{◌≡◌, drop}
use Rattle.mm_text.specs.Remarks.{says}
use Rattle.mm_text.proofs.remarks.says.Given as goal

-- what was passed doesn't say it
abbrev pub invariant-loop-at : goal.invariant-loop-at
invariant-loop-at l = says l.sentence l.text ≡ says l.sentence (drop l.at l.text)
