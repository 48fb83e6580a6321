-- The lines so far are those of the pairs so far.
use Rattle.std.proofs.Common.{◌≡◌, ◌++◌, map, take}
use Rattle.mm_rules.specs.Conclusion.{labels_in}
use Rattle.mm_diff.specs.Diff.{renamed_lines}
use Rattle.mm_diff.specs.Mirror.Changes.{plain_renaming}
use Rattle.mm_diff.proofs.text.push_renamed_lines.Given as goal

abbrev pub invariant-loop-renaming : goal.invariant-loop-renaming
invariant-loop-renaming l =
    l.out.items
    ≡ l.fn.out.items
    ++ renamed_lines (labels_in l.old.statements) (labels_in l.new.statements)
    (map plain_renaming (take l.renaming-index l.renamed))
