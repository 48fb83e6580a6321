use Rattle.std.proofs.Common.{ℕ, Some, ap, sym, ◌∙◌, ◌≡◌, ⊎_elim, refl, slice_get, arith}
use Rattle.std.proofs.lemmas.Bool.{false≢true}
use Rattle.std.proofs.lemmas.List.{length-map}
use Rattle.std.proofs.lemmas.Option.{same_Some, slice_get_within}
use Rattle.std.proofs.lemmas.Slice.Eq.{bytes_eq-Decides}
use Rattle.std.proofs.str.Laws.{order}
use Rattle.mm_base.specs.declared.token.Token.{Token}
use Rattle.mm_base.proofs.Lists.{at_from_contains}
use Rattle.mm_frame.proofs.Rules.RepeatedSymbols.{text_at, texts_of}
use Rattle.mm_frame.proofs.broken.index_among.Goals as goal

pub returns-then-eq : goal.returns-then-eq
returns-then-eq c =
    text_at c.args.tokens.now c.loop-index.index _ c.loop-index-test.true ∙ ap Some ((bytes_eq-Decides _ _).0 (sym c.eq.ensures ∙ c.if-eq.true))

pub loop-index-preserved : goal.loop-index-preserved
loop-index-preserved c i x lt there same =
    ⊎_elim (λ less. c.loop-index.invariant i x less there same) (λ from.
    let at : i ≡ c.loop-index.index = omega arith in
    let is = same_Some x _ (sym there ∙ ap (λ (k : ℕ). slice_get (texts_of c.args.tokens.now) k) at ∙ text_at c.args.tokens.now c.loop-index.index _ c.loop-index-test.true) in
    false≢true (sym c.if-eq.false ∙ c.eq.ensures ∙ (bytes_eq-Decides _ _).1 (sym is ∙ same))) (order i c.loop-index.index)

pub returns : goal.returns
returns c has =
    let texts = texts_of c.args.tokens.now in
    let at = at_from_contains texts c.args.text.now has in
    c.loop-index.invariant at.0 c.args.text.now
    (omega (arith, slice_get_within texts at.0 c.args.text.now at.1, length-map c.args.tokens.now (λ (t : Token). t.text.now), c.loop-index-test.false)) at.1 refl
