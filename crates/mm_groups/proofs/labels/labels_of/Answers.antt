-- A `$p` has its label and those that its proof names, and another statement none.
use Rattle.std.proofs.Common.{ap, ◌∙◌}
use Rattle.mm_code.specs.Layout.{texts}
use Rattle.mm_step.specs.Plain.{token_texts}
use Rattle.mm_groups.specs.Shared.{named_labels}
use Rattle.mm_groups.proofs.NamedLabels.{of_other, of_provable}
use Rattle.mm_groups.proofs.labels.labels_of.Goals as goal

pub returns-in_ok-push_labels-in-Provable : goal.returns-in_ok-push_labels-in-Provable
returns-in_ok-push_labels-in-Provable c =
    c.in_ok-push_labels-in-Provable.ensures
    ∙ of_provable c.args.statement.now c.in-Provable.is _ _ (rw c.new-labels.ensures.items at c.in_ok-push_own-in-Provable.ensures)
    (c.named_labels.ensures ∙ ap (λ ts. named_labels (token_texts ts)) c.deref.ensures.value)

pub returns-in_default : goal.returns-in_default
returns-in_default c =
    ap texts c.new-labels.ensures.items ∙ of_other c.args.statement.now c.in_default.not-Provable
