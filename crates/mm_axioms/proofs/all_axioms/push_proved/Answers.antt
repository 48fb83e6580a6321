-- The line is written word by word.
use Rattle.std.proofs.Common.{map}
use Rattle.mm_frame.specs.declared.number.LabelId.{LabelId}
use Rattle.mm_axioms.proofs.Resting.AllReports.{proved_text}
use Rattle.mm_axioms.proofs.all_axioms.push_proved.Goals as goal

pub returns : goal.returns
returns c =
    proved_text c.args.checked.now.labels c.args.label.now (map (λ (id : LabelId). id.0) c.args.report.now.axioms.items) (map (λ (id : LabelId). id.0) c.args.report.now.unproved.items)
    c.args.out.now.items _ _ _ _ c.in_ok-extend_from_slice.ensures.items
    (rw c.deref.ensures.value at c.in_ok-push_marked.ensures)
    (rw c.deref-2.ensures.value at c.in_ok-push_marked-2.ensures)
    c.in_ok-push.ensures.items
