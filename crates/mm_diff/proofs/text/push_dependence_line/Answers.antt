-- The letter, the labels and the line feed.
use Rattle.mm_rules.specs.Conclusion.{labels_in}
use Rattle.mm_diff.proofs.DiffLines.{dependence_line}
use Rattle.mm_diff.proofs.text.push_dependence_line.Goals as goal

pub returns : goal.returns
returns c =
    dependence_line (labels_in c.args.new.now.statements) (labels_in c.args.version.now.statements)
    c.args.told.now c.args.letter.now c.name_of.result.now _ _ _ _ _ c.name_of.ensures
    c.in_ok-extend_from_slice.ensures.items c.in_ok-push_word.ensures
    (rw c.deref.ensures.value at c.in_ok-push_labels.ensures) c.in_ok-push.ensures.items
