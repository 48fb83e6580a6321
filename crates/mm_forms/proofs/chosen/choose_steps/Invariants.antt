use Rattle.std.proofs.Common.{take}
use Rattle.mm_forms.specs.Mirror.CodeChosen.{AreWrittenOut}
use Rattle.mm_forms.proofs.chosen.choose_steps.Given as goal

abbrev pub invariant-loop-one : goal.invariant-loop-one
invariant-loop-one l = AreWrittenOut l.table (take l.one-index l.steps) l.chosen.items
