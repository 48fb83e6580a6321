-- By the kind.
use Rattle.std.proofs.Common.{inl, inr, refl}
use Rattle.mm_base.specs.declared.statement.Kind.TheVariants.{Floating, Essential, Axiom, Provable}
use Rattle.mm_alike.proofs.DifferingNumbers.{asserts_by}
use Rattle.mm_alike.proofs.WidthsInBoth.{no_width}
use Rattle.mm_alike.proofs.moves.width.Goals as goal

pub hypothesis_count-requires : goal.hypothesis_count-requires
hypothesis_count-requires c =
    asserts_by c.args.book.now.statements c.args.id.0 Axiom (inl refl) c.requires
    (λ s at. c.in-Axiom.ensures s at)

pub hypothesis_count-requires-in-Proof : goal.hypothesis_count-requires-in-Proof
hypothesis_count-requires-in-Proof c =
    asserts_by c.args.book.now.statements c.args.id.0 Provable (inr refl) c.requires
    (λ s at. c.in-Proof.ensures s at)

pub returns-in-Floating : goal.returns-in-Floating
returns-in-Floating c =
    no_width c.args.book.now.statements c.args.id.0 Floating (inl refl) c.requires
    (λ s at. c.in-Floating.ensures s at)

pub returns-in-Essential : goal.returns-in-Essential
returns-in-Essential c =
    no_width c.args.book.now.statements c.args.id.0 Essential (inr refl) c.requires
    (λ s at. c.in-Essential.ensures s at)
