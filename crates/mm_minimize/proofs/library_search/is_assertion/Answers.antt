-- The kind of the label is that of an assertion, or it isn't.
use Rattle.std.proofs.Common.{◌≢◌, inl, inr, refl, ap, subst, ◌∙◌}
use Rattle.std.proofs.lemmas.Bool.{false≢true}
use Rattle.mm_frame.specs.declared.number.LabelKind.{LabelKind}
use Rattle.mm_frame.specs.declared.number.LabelKind.TheVariants as kinds
use Rattle.mm_frame.specs.Sentence.{IsAssertion}
use Rattle.mm_frame.specs.Taken.{kind_behind}
use Rattle.mm_frame.proofs.Names.LabelNumbers.{numbered_get}
use Rattle.mm_minimize.proofs.library_search.is_assertion.Goals as goal

-- another kind is that of a hypothesis
no_assertion : (kind : LabelKind) → kind ≢ kinds.Axiom → kind ≢ kinds.Proof
    → ¬ (IsAssertion (kind_behind kind))
no_assertion kinds.Floating no_axiom no_proof (inl is) = absurd cc
no_assertion kinds.Floating no_axiom no_proof (inr is) = absurd cc
no_assertion kinds.Essential no_axiom no_proof (inl is) = absurd cc
no_assertion kinds.Essential no_axiom no_proof (inr is) = absurd cc
no_assertion kinds.Axiom no_axiom no_proof is = no_axiom refl
no_assertion kinds.Proof no_axiom no_proof is = no_proof refl

pub returns-in-Axiom : goal.returns-in-Axiom
returns-in-Axiom c = (
  λ _.
      let (index, s, numbered) = c.is_label.ensures.0 c.if-not-is_label.false in
      let told = c.kind.ensures s (numbered_get c.args.book.now.statements c.args.id.0 index s numbered) in (
        index,
        s,
        numbered,
        elim c.in-Axiom.is [
          | inl is ↦ inl (told ∙ ap kind_behind is)
          | inr is ↦ inr (told ∙ ap kind_behind is)
        ],
      ),
  λ _.
      refl,
)

pub returns-in_default : goal.returns-in_default
returns-in_default c = (
  λ e. absurd (false≢true e),
  λ (index, s, numbered, is).
      let told = c.kind.ensures s (numbered_get c.args.book.now.statements c.args.id.0 index s numbered) in
      absurd (no_assertion c.kind.result c.in_default.not-Axiom c.in_default.not-Proof
      (subst IsAssertion told is)),
)
