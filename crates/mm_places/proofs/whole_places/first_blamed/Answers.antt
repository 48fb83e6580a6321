-- The label that is found is the first that is to blame.
use Rattle.std.proofs.Common.{ℕ, List, subst, Contains, sym, ◌∙◌}
use Rattle.std.proofs.lemmas.Bool.{false≢true}
use Rattle.mm_places.specs.Mirror.CodeWhole.{IsBlamed}
use Rattle.mm_proof.proofs.ProofTokens.ProofLabels.{none_more, prefix_all, text_at}
use Rattle.mm_places.proofs.whole_places.first_blamed.Goals as goal

pub returns-then-is_blamed : goal.returns-then-is_blamed
returns-then-is_blamed c = (
  _,
  text_at (λ t. t.text.now) c.args.labels.now c.loop-index.index _ c.loop-index-test.true,
  c.is_blamed.ensures.0 c.if-is_blamed.true,
  c.loop-index.invariant,
)

pub loop-index-preserved : goal.loop-index-preserved
loop-index-preserved c =
    none_more (λ t. t.text.now)
    (IsBlamed c.args.blame c.args.book.now.statements c.args.own.now.index)
    c.args.labels.now c.loop-index.index _ c.loop-index-test.true c.loop-index.invariant
    (λ is. false≢true (sym c.if-is_blamed.false ∙ c.is_blamed.ensures.1 is))

pub returns : goal.returns
returns c label has =
    c.loop-index.invariant label (subst (λ (l : List (List ℕ)). Contains l label)
    (sym (prefix_all (λ t. t.text.now) c.args.labels.now c.loop-index.index
    c.loop-index-test.false)) has)
