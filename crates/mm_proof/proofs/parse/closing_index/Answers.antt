use Rattle.std.proofs.Common.{◌≡◌, subst, Contains, refl, sym, ap, ◌∙◌, Some, take}
use Rattle.std.proofs.lemmas.Bool.{false≢true}
use Rattle.mm_proof.specs.Tokens.{closing_token}
use Rattle.mm_step.specs.Plain.{token_texts}
use Rattle.mm_proof.proofs.ProofTokens.ProofLabels.{none_more, prefix_all, text_at}
use Rattle.mm_proof.proofs.parse.closing_index.Goals as goal

pub returns-then-is_byte : goal.returns-then-is_byte
returns-then-is_byte c = (
  c.loop-index-test.true,
  text_at (λ t. t.text.now) c.args.tokens.now c.loop-index.index _ c.loop-index-test.true ∙ ap Some (c.is_byte.ensures.same.0 c.if-is_byte.true),
  c.loop-index.invariant,
)

pub loop-index-preserved : goal.loop-index-preserved
loop-index-preserved c has =
    none_more (λ t. t.text.now) (λ t. t ≡ closing_token) c.args.tokens.now c.loop-index.index _ c.loop-index-test.true
    (λ t among is. c.loop-index.invariant (subst (λ l. Contains (take c.loop-index.index (token_texts c.args.tokens.now)) l) is among))
    (λ is. false≢true (sym c.if-is_byte.false ∙ c.is_byte.ensures.same.1 is)) closing_token has refl

pub returns : goal.returns
returns c has = c.loop-index.invariant (subst (λ l. Contains l closing_token) (sym (prefix_all (λ t. t.text.now) c.args.tokens.now c.loop-index.index c.loop-index-test.false)) has)
