-- Each number is that of a label.
use Rattle.mm_diff.specs.Mirror.Changes.{plain_renaming}
use Rattle.mm_diff.proofs.DiffLines.{told_at}
use Rattle.mm_diff.proofs.text.push_renamed_lines.Goals as goal

pub push_renaming-requires-clause-old : goal.push_renaming-requires-clause-old
push_renaming-requires-clause-old c =
    (told_at plain_renaming _ c.args.renamed.now c.loop-renaming.renaming-index _ c.requires
    c.loop-renaming-test.true).0

pub push_renaming-requires-clause-new : goal.push_renaming-requires-clause-new
push_renaming-requires-clause-new c =
    (told_at plain_renaming _ c.args.renamed.now c.loop-renaming.renaming-index _ c.requires
    c.loop-renaming-test.true).1
