-- By its kind.
use Rattle.std.proofs.Common.{inl, inr, refl}
use Rattle.mm_base.specs.declared.statement.Kind.TheVariants.{Floating, Essential, Axiom, Provable}
use Rattle.mm_alike.proofs.DifferingNumbers.{asserts_by}
use Rattle.mm_diff.proofs.OneAssertions.{hypothesis_alone}
use Rattle.mm_diff.proofs.twins.twin_at_label.Goals as goal

pub twin_of-requires-clause-id : goal.twin_of-requires-clause-id
twin_of-requires-clause-id c =
    asserts_by c.args.book.now.statements c.args.id.0 Axiom (inl refl) c.requires.id
    (λ s at. c.in-Axiom.ensures s at)

pub twin_of-requires-in-Proof-clause-id : goal.twin_of-requires-in-Proof-clause-id
twin_of-requires-in-Proof-clause-id c =
    asserts_by c.args.book.now.statements c.args.id.0 Provable (inr refl) c.requires.id
    (λ s at. c.in-Proof.ensures s at)

pub returns-in-Floating-clause-none : goal.returns-in-Floating-clause-none
returns-in-Floating-clause-none c = λ none.
    hypothesis_alone c.args.book.now.statements c.args.other.now.statements c.args.id.0 Floating
    (inl refl) (λ s at. c.in-Floating.ensures s at)

pub returns-in-Essential-clause-none : goal.returns-in-Essential-clause-none
returns-in-Essential-clause-none c = λ none.
    hypothesis_alone c.args.book.now.statements c.args.other.now.statements c.args.id.0 Essential
    (inr refl) (λ s at. c.in-Essential.ensures s at)
