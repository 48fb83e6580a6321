-- Each number is that of a label.
use Rattle.std.proofs.Common.{subst, sym}
use Rattle.mm_rules.specs.Conclusion.{labels_in}
use Rattle.mm_diff.specs.declared.depends.Dependence.{Dependence}
use Rattle.mm_diff.specs.Mirror.Changes.{AreNumbersOf, plain_dependence}
use Rattle.mm_diff.proofs.DiffLines.{told_at}
use Rattle.mm_diff.proofs.text.push_dependence_lines.Goals as goal

pub push_dependence_line-requires : goal.push_dependence_line-requires
push_dependence_line-requires c =
    subst (λ (d : Dependence). AreNumbersOf (labels_in c.args.new.now.statements)
    (labels_in c.args.version.now.statements) (plain_dependence d)) (sym c.one-item.is)
    (told_at plain_dependence (AreNumbersOf (labels_in c.args.new.now.statements)
    (labels_in c.args.version.now.statements)) c.args.told.now c.loop-one.one-index
    c.one-item.result c.requires c.loop-one-test.true)
