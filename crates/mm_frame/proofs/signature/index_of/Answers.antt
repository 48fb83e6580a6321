use Rattle.std.proofs.Common.{sym, ap, ◌∙◌, ◌≡◌, None, ⊎_elim, arith, slice_index_or}
use Rattle.std.proofs.str.Laws.{order}
use Rattle.mm_frame.specs.Pieces.{is_of, variables_of}
use Rattle.mm_frame.proofs.Frames.VariableIndices.{variable_at, variables_counted, none_behind}
use Rattle.mm_frame.proofs.signature.index_of.Goals as goal

pub returns-then-is_of : goal.returns-then-is_of
returns-then-is_of c = record {
  within = omega (arith, variables_counted c.args.hypotheses.now, c.loop-index-test.true);
  is = ap (is_of c.args.symbol.0) (variable_at c.args.hypotheses.now c.loop-index.index _ c.loop-index-test.true) ∙ sym c.is_of.ensures ∙ c.if-is_of.true;
  first = c.loop-index.invariant;
}

pub loop-index-preserved : goal.loop-index-preserved
loop-index-preserved c k lt =
    ⊎_elim (λ less. c.loop-index.invariant k less) (λ from.
    let at : k ≡ c.loop-index.index = omega arith in
    ap (λ i. is_of c.args.symbol.0 (slice_index_or (variables_of c.args.hypotheses.now) i None)) at ∙ ap (is_of c.args.symbol.0) (variable_at c.args.hypotheses.now c.loop-index.index _ c.loop-index-test.true) ∙ sym c.is_of.ensures ∙ c.if-is_of.false) (order k c.loop-index.index)

pub returns : goal.returns
returns c k = ⊎_elim (λ less. c.loop-index.invariant k less) (λ from. none_behind c.args.hypotheses.now c.args.symbol.0 k (omega (arith, c.loop-index-test.false))) (order k c.loop-index.index)
