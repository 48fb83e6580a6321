-- The first of the tokens that are left is `$*`, or the others are asked.
use Rattle.std.proofs.Common.{◌≢◌, ◌∙◌, ℕ, List, codes, refl, sym}
use Rattle.std.proofs.lemmas.Bool.{false≢true}
use Rattle.std.proofs.lemmas.Slice.Eq.{bytes_eq-Decides}
use Rattle.mm_words.proofs.EachPattern.{word_met, word_unmet, words_met}
use Rattle.mm_words.proofs.find_request.hold_no_gap.Goals as goal

pub loop-token-init : goal.loop-token-init
loop-token-init c = ((λ h. h), (λ h. h))

pub loop-token-preserved : goal.loop-token-preserved
loop-token-preserved c =
    word_met (λ (token : List ℕ). token ≢ codes "$*") c.args.tokens.now c.loop-token.token-index _ _
    c.loop-token-test.true
    (λ same. false≢true (sym c.if-eq.false ∙ c.eq.ensures ∙ (bytes_eq-Decides _ _).1 same))
    c.loop-token.invariant

pub returns-then-eq : goal.returns-then-eq
returns-then-eq c = (
  (λ t. absurd (false≢true t)),
  (λ all. absurd (word_unmet (λ (token : List ℕ). token ≢ codes "$*") c.args.tokens.now
      c.loop-token.token-index _ _ c.loop-token-test.true
      (λ other. other ((bytes_eq-Decides _ _).0 (sym c.eq.ensures ∙ c.if-eq.true)))
      c.loop-token.invariant all)),
)

pub returns : goal.returns
returns c = (
  (λ t. words_met (λ (token : List ℕ). token ≢ codes "$*") c.args.tokens.now
      c.loop-token.token-index _ c.loop-token-test.false c.loop-token.invariant),
  (λ all. refl),
)
