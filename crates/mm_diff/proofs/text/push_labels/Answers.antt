-- Each number is that of a label.
use Rattle.std.proofs.Common.{◌<◌, ℕ, length}
use Rattle.mm_frame.specs.declared.number.LabelId.{LabelId}
use Rattle.mm_rules.specs.Conclusion.{labels_in}
use Rattle.mm_rules.proofs.Numbers.{all_at}
use Rattle.mm_diff.proofs.text.push_labels.Goals as goal

pub push_label-requires : goal.push_label-requires
push_label-requires c =
    all_at (λ (id : LabelId). id.0) (λ (n : ℕ). n < length (labels_in c.args.book.now.statements))
    c.args.numbers.now c.loop-number.number-index _ c.requires c.loop-number-test.true
