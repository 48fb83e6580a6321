-- The words of the hypotheses that are left follow the text so far.
use Rattle.std.proofs.Common.{◌≡◌, ◌++◌, drop}
use Rattle.mm_rules.specs.Shown.{symbols_text}
use Rattle.mm_find.specs.Found.{premises}
use Rattle.mm_find.specs.Plain.{expressions_in}
use Rattle.mm_find.proofs.line.push_premises.Given as goal

abbrev pub invariant-loop-at : goal.invariant-loop-at
invariant-loop-at l =
    l.out.items ++ symbols_text (premises (expressions_in (drop l.at l.hypotheses)))
    ≡ l.fn.out.items ++ symbols_text (premises (expressions_in l.hypotheses))
