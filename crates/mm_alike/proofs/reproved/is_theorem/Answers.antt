-- By its kind.
use Rattle.std.proofs.Common.{refl}
use Rattle.std.proofs.lemmas.Bool.{false≢true}
use Rattle.mm_base.specs.declared.statement.Kind.TheVariants.{Floating, Essential, Axiom}
use Rattle.mm_alike.proofs.CheckedTheorems.{theorem_by, no_theorem_by}
use Rattle.mm_alike.proofs.reproved.is_theorem.Goals as goal

pub returns-in-Axiom : goal.returns-in-Axiom
returns-in-Axiom c = (
  (λ t. absurd (false≢true t)),
  (λ h. absurd (no_theorem_by c.args.book.now.statements c.args.id.0 Axiom (λ e. cc)
      (λ s at. c.in-Axiom.ensures s at) h)),
)

pub returns-in-Proof : goal.returns-in-Proof
returns-in-Proof c = (
  (λ t. theorem_by c.args.book.now.statements c.args.id.0 c.requires
      (λ s at. c.in-Proof.ensures s at)),
  (λ h. refl),
)

pub returns-in-Floating : goal.returns-in-Floating
returns-in-Floating c = (
  (λ t. absurd (false≢true t)),
  (λ h. absurd (no_theorem_by c.args.book.now.statements c.args.id.0 Floating (λ e. cc)
      (λ s at. c.in-Floating.ensures s at) h)),
)

pub returns-in-Essential : goal.returns-in-Essential
returns-in-Essential c = (
  (λ t. absurd (false≢true t)),
  (λ h. absurd (no_theorem_by c.args.book.now.statements c.args.id.0 Essential (λ e. cc)
      (λ s at. c.in-Essential.ensures s at) h)),
)
