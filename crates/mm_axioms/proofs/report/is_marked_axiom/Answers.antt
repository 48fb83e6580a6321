-- The book tells the kind.
use Rattle.std.proofs.Common.{sym, ◌∙◌}
use Rattle.mm_verdict.proofs.Questions.AskedTheorems.{axiom_kind, no_axiom_kind}
use Rattle.mm_axioms.proofs.report.is_marked_axiom.Goals as goal

pub returns-in-Axiom : goal.returns-in-Axiom
returns-in-Axiom c = (
  (λ t. (axiom_kind c.args.book.now.statements c.args.id.0 c.kind.result c.requires c.kind.ensures c.in-Axiom.is, sym c.is_marked.ensures ∙ t)),
  λ h. c.is_marked.ensures ∙ h.1,
)

pub returns-in_default : goal.returns-in_default
returns-in_default c = (
  (λ t. absurd cc),
  λ h. absurd (no_axiom_kind c.args.book.now.statements c.args.id.0 c.kind.result c.kind.ensures c.in_default.not-Axiom h.0),
)
