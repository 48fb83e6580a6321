-- A space and the label.
use Rattle.mm_rules.specs.Conclusion.{labels_in}
use Rattle.mm_diff.proofs.DiffLines.{spaced_label}
use Rattle.mm_diff.proofs.text.push_label.Goals as goal

pub returns : goal.returns
returns c =
    spaced_label (labels_in c.args.book.now.statements) c.args.number.0 c.name_of.result.now _ _
    c.name_of.ensures c.in_ok-push_word.ensures
