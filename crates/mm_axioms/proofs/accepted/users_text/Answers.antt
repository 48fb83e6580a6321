-- The users are those of the statements, and each has a label.
use Rattle.std.proofs.Common.{ℕ, List, ◌++◌, map, ap, ◌∙◌}
use Rattle.mm_frame.specs.declared.number.LabelId.{LabelId}
use Rattle.mm_rules.specs.Answer.{labels_at}
use Rattle.mm_rules.specs.Conclusion.{labels_in}
use Rattle.mm_verdict.specs.Reply.{lines_of}
use Rattle.mm_verdict.proofs.Verdicts.StatementByStatement.{labels_said}
use Rattle.mm_axioms.proofs.AcceptedProofs.{accepted_users_within}
use Rattle.mm_axioms.proofs.accepted.users_text.Goals as goal

pub push_lines-requires : goal.push_lines-requires
push_lines-requires c =
    let (files, kept) = c.requires in
    let named = c.in_ok-assertion.ensures.found kept.statements kept.said in
    let users = c.in_ok-users.ensures files kept c.args.label.now named in
    rw (c.deref.ensures.value, kept.said)
    (accepted_users_within c.args.all kept.statements c.args.label.now _ users)

pub returns-clause-text : goal.returns-clause-text
returns-clause-text c = λ files kept.
    let named = c.in_ok-assertion.ensures.found kept.statements kept.said in
    let users : List ℕ = map (λ (id : LabelId). id.0) c.in_ok-users.users.items in
    let told = ap labels_in kept.said ∙ labels_said kept.statements in (
      users,
      c.in_ok-users.ensures files kept c.args.label.now named,
      c.in_ok-push_lines.ensures
          ∙ ap (λ (before : List ℕ). before
          ++ lines_of (labels_at (labels_in c.args.uses.now.book.statements)
          (map (λ (id : LabelId). id.0) c.deref.result.now))) c.new-text.ensures.items
          ∙ ap (λ (ids : List LabelId).
          lines_of (labels_at (labels_in c.args.uses.now.book.statements)
          (map (λ (id : LabelId). id.0) ids))) c.deref.ensures.value
          ∙ ap (λ (ls : List (List ℕ)). lines_of (labels_at ls users)) told,
    )
