use Rattle.std.proofs.Common.{take}
use Rattle.mm_forms.specs.Mirror.CodeSmall.{AreLabelUses}
use Rattle.mm_forms.proofs.small.count_uses.Given as goal

abbrev pub invariant-loop-code : goal.invariant-loop-code
invariant-loop-code l = AreLabelUses l.own (take l.code-index l.codes) l.uses
