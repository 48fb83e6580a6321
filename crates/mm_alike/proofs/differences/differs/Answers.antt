-- By its kind.
use Rattle.std.proofs.Common.{inl, inr, refl}
use Rattle.std.proofs.lemmas.Bool.{false≢true}
use Rattle.mm_base.specs.declared.statement.Kind.TheVariants.{Floating, Essential, Axiom, Provable}
use Rattle.mm_alike.proofs.DifferingNumbers.{asserts_by, hypothesis_is_none}
use Rattle.mm_alike.proofs.differences.differs.Goals as goal

pub assertion_differs-requires : goal.assertion_differs-requires
assertion_differs-requires c =
    asserts_by c.args.book.now.statements c.args.id.0 Axiom (inl refl) c.requires
    (λ s at. c.in-Axiom.ensures s at)

pub assertion_differs-requires-in-Proof : goal.assertion_differs-requires-in-Proof
assertion_differs-requires-in-Proof c =
    asserts_by c.args.book.now.statements c.args.id.0 Provable (inr refl) c.requires
    (λ s at. c.in-Proof.ensures s at)

pub returns-in-Floating : goal.returns-in-Floating
returns-in-Floating c = (
  (λ t. absurd (false≢true t)),
  (λ h. absurd (hypothesis_is_none c.args.difference c.args.book.now.statements
      c.args.other.now.statements c.args.id.0 Floating (inl refl) c.requires
      (λ s at. c.in-Floating.ensures s at) h)),
)

pub returns-in-Essential : goal.returns-in-Essential
returns-in-Essential c = (
  (λ t. absurd (false≢true t)),
  (λ h. absurd (hypothesis_is_none c.args.difference c.args.book.now.statements
      c.args.other.now.statements c.args.id.0 Essential (inr refl) c.requires
      (λ s at. c.in-Essential.ensures s at) h)),
)
