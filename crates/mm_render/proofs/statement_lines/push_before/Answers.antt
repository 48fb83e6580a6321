-- By the kind nothing, the frame, or the frame and what says more.
use Rattle.std.proofs.Common.{[], refl, sym, ap, ◌∙◌, inl, inr, append-nil, subst, take}
use Rattle.mm_base.specs.declared.statement.Kind.{Kind}
use Rattle.mm_verdict.specs.Stated.{IsTextBefore}
use Rattle.mm_frame.specs.Taken.{kind_behind}
use Rattle.mm_frame.proofs.Names.LabelNumbers.{numbered_get}
use Rattle.mm_render.proofs.ToldProofs.ToldStatements.{assertion_number, nothing_before, on_ok}
use Rattle.mm_render.proofs.ToldProofs.ToldStatements.{proof_told}
use Rattle.mm_render.proofs.statement_lines.push_before.Goals as goal

pub push_frame-requires : goal.push_frame-requires
push_frame-requires c =
    assertion_number c.args.book.now.statements c.args.id.0 c.kind.result c.requires c.kind.ensures
    (inl c.in-Axiom.is)

pub push_frame-requires-in-Proof : goal.push_frame-requires-in-Proof
push_frame-requires-in-Proof c =
    assertion_number c.args.book.now.statements c.args.id.0 c.kind.result c.requires c.kind.ensures
    (inr c.in-Proof.is)

pub push_more-requires : goal.push_more-requires
push_more-requires c =
    assertion_number c.args.book.now.statements c.args.id.0 c.kind.result c.requires c.kind.ensures
    (inr c.in-Proof.is)

pub returns-in-Floating : goal.returns-in-Floating
returns-in-Floating c index s numbered =
    let kind = c.kind.ensures s (numbered_get _ _ _ _ numbered) ∙ ap kind_behind c.in-Floating.is in
    ([], nothing_before _ s _ kind (inl refl), sym (append-nil c.args.out.now.items))

pub returns-in-Essential : goal.returns-in-Essential
returns-in-Essential c index s numbered =
    let kind = c.kind.ensures s (numbered_get _ _ _ _ numbered) ∙ ap kind_behind c.in-Essential.is in
    ([], nothing_before _ s _ kind (inr refl), sym (append-nil c.args.out.now.items))

pub returns-in-Axiom : goal.returns-in-Axiom
returns-in-Axiom c =
    on_ok c.push_frame.result _ _
    (λ told index s numbered.
    let kind = c.kind.ensures s (numbered_get _ _ _ _ numbered) ∙ ap kind_behind c.in-Axiom.is in
    let (lines, text, is) = told index s numbered in
    (lines, subst (λ (k : Kind). IsTextBefore k (take index c.args.book.now.statements) s lines) (sym kind) text, is))
    c.push_frame.ensures

pub returns-in_ok-push_frame-in-Proof : goal.returns-in_ok-push_frame-in-Proof
returns-in_ok-push_frame-in-Proof c =
    on_ok c.push_more.result _ _
    (λ told index s numbered.
    let kind = c.kind.ensures s (numbered_get _ _ _ _ numbered) ∙ ap kind_behind c.in-Proof.is in
    proof_told numbered c.args.out.now.items c.push_frame-in-Proof.new.out.items
    c.push_more.new.out.items kind (c.in_ok-push_frame-in-Proof.ensures index s numbered)
    (told index s numbered))
    c.push_more.ensures
