use Rattle.std.proofs.Common.{refl}
use Rattle.mm_step.proofs.ByNumbers.CalledAssertions.{assertion_kind}
use Rattle.mm_step.proofs.used.is_assertion.Goals as goal

pub returns-in-Axiom : goal.returns-in-Axiom
returns-in-Axiom c = (
  (λ is. assertion_kind c.args.book.now.statements c.requires.used.0 c.args.id.0 c.kind.result (c.requires.used.1, c.requires.used.2) c.kind.ensures c.in-Axiom.is),
  λ h. refl,
)
