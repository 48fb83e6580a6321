use Rattle.std.proofs.Common.{◌≡◌, ℕ, [], length}
use Rattle.mm_forms.specs.Mirror.CodeSmall.{AreLabelUses}
use Rattle.mm_forms.proofs.small.unused.Given as goal

abbrev pub invariant-loop-index : goal.invariant-loop-index
invariant-loop-index l = record {
  many : length l.uses.items ≡ l.index;
  none : (own : ℕ) → AreLabelUses own [] l.uses.items;
}
