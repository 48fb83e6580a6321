-- The lines so far are those of the theorems so far.
use Rattle.std.proofs.Common.{◌≡◌, ◌++◌, map, take}
use Rattle.mm_rules.specs.Conclusion.{labels_in}
use Rattle.mm_diff.specs.Diff.{axiom_lines}
use Rattle.mm_diff.specs.Mirror.Changes.{plain_dependence}
use Rattle.mm_diff.proofs.text.push_dependence_lines.Given as goal

abbrev pub invariant-loop-one : goal.invariant-loop-one
invariant-loop-one l =
    l.out.items
    ≡ l.fn.out.items
    ++ axiom_lines l.letter (labels_in l.new.statements) (labels_in l.version.statements)
    (map plain_dependence (take l.one-index l.told))
