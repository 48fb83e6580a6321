-- The letter, both labels and the line feed.
use Rattle.mm_rules.specs.Conclusion.{labels_in}
use Rattle.mm_diff.proofs.DiffLines.{renamed_line}
use Rattle.mm_diff.proofs.text.push_renaming.Goals as goal

pub returns : goal.returns
returns c =
    renamed_line (labels_in c.args.old.now.statements) (labels_in c.args.new.now.statements)
    c.args.renaming c.name_of.result.now c.name_of-2.result.now _ _ _ _ _ c.name_of.ensures
    c.name_of-2.ensures c.in_ok-push.ensures.items c.in_ok-push_word.ensures
    c.in_ok-push_word-2.ensures c.in_ok-push-2.ensures.items
