-- The users, or the fault, are those of the statements.
use Rattle.std.proofs.Common.{ℕ, List, ◌++◌, map, None, ap, ◌∙◌}
use Rattle.mm_frame.specs.declared.number.LabelId.{LabelId}
use Rattle.mm_verdict.specs.Reply.{lines_of}
use Rattle.mm_rules.specs.Answer.{labels_at}
use Rattle.mm_check.proofs.question.users_text.Goals as goal

pub returns-clause-text : goal.returns-clause-text
returns-clause-text c = λ statements reads.
    let labels : List (List ℕ) = c.args.checked.now.labels in
    let users : List ℕ = map (λ (id : LabelId). id.0) c.in_ok-users.users.items in (
      users,
      c.in_ok-users.ensures.users statements reads,
      c.in_ok-push_labels.ensures
          ∙ ap (λ (before : List ℕ). before ++ lines_of (labels_at labels
          (map (λ (id : LabelId). id.0) c.deref.result.now))) c.new-text.ensures.items
          ∙ ap (λ (ids : List LabelId). lines_of (labels_at labels
          (map (λ (id : LabelId). id.0) ids))) c.deref.ensures.value
          ∙ ap (λ (ls : List (List ℕ)). lines_of (labels_at ls users))
          (c.requires statements None reads),
    )
