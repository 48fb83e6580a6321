use Rattle.std.proofs.Common.{sym, ap, ◌∙◌, slice_get}
use Rattle.mm_frame.specs.Pieces.{variables_of}
use Rattle.mm_frame.proofs.Frames.VariableIndices.{noted_at, noted_nowhere}
use Rattle.std.proofs.lemmas.Option.{same_Some}
use Rattle.mm_frame.proofs.noted.NotedIndices.index_of.Goals as goal

pub returns-in-Some : goal.returns-in-Some
returns-in-Some c =
    let there = sym (ap (λ ps. slice_get ps c.args.symbol.0) c.deref.ensures.value) ∙ sym c.at.ensures ∙ c.in-Some.is in
    noted_at c.args.self.now.indices.items (variables_of c.args.hypotheses.now) c.args.symbol.0 c.in-Some.index there (sym c.is_at.ensures ∙ c.if-is_at.true)

pub returns-in_default : goal.returns-in_default
returns-in_default c =
    let there = sym (ap (λ ps. slice_get ps c.args.symbol.0) c.deref.ensures.value) ∙ sym c.at.ensures ∙ c.in-Some.is in
    noted_nowhere _ (variables_of c.args.hypotheses.now) c.args.symbol.0 (λ q at.
    rw (same_Some c.in-Some.index q (sym there ∙ at)) at (sym c.is_at.ensures ∙ c.if-is_at.false))

pub returns-in_default-2 : goal.returns-in_default-2
returns-in_default-2 c =
    let there = sym (ap (λ ps. slice_get ps c.args.symbol.0) c.deref.ensures.value) ∙ sym c.at.ensures ∙ c.in_default.is in
    noted_nowhere _ (variables_of c.args.hypotheses.now) c.args.symbol.0
    (λ q at. absurd (cc (there, at)))
