-- One label more, or all of them.
use Rattle.std.proofs.Common.{sym, ◌∙◌}
use Rattle.std.proofs.lemmas.Bool.{false≢true}
use Rattle.mm_alike.proofs.CheckedTheorems.{labels_end}
use Rattle.mm_alike.proofs.KeptWidths.{all_kept, one_kept}
use Rattle.mm_alike.proofs.widths.keep_widths.Goals as goal

pub returns-then-not-is_label : goal.returns-then-not-is_label
returns-then-not-is_label c = λ t.
    all_kept c.args.book.now.statements c.args.other.now.statements c.loop-number.number
    (labels_end c.args.book.now.statements c.loop-number.number
    (λ h. false≢true (sym c.if-not-is_label.true ∙ c.is_label.ensures.1 h)))
    c.loop-number.invariant

pub loop-number-preserved : goal.loop-number-preserved
loop-number-preserved c =
    one_kept c.args.book.now.statements c.args.other.now.statements c.loop-number.number
    c.loop-number.invariant (c.keeps_width.ensures c.if-not-keeps_width.false)
