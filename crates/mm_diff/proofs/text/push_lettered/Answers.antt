-- The letter, the label and the line feed.
use Rattle.mm_rules.specs.Conclusion.{labels_in}
use Rattle.mm_diff.proofs.DiffLines.{lettered_line}
use Rattle.mm_diff.proofs.text.push_lettered.Goals as goal

pub returns : goal.returns
returns c =
    lettered_line (labels_in c.args.book.now.statements) c.args.number.0 c.args.letter.now c.name_of.result.now
    _ _ _ _ c.name_of.ensures c.in_ok-extend_from_slice.ensures.items c.in_ok-push_word.ensures
    c.in_ok-push.ensures.items
