-- The first of the patterns that are left holds a `$*`, or the others are asked.
use Rattle.std.proofs.Common.{◌∙◌, refl, sym}
use Rattle.std.proofs.lemmas.Bool.{false≢true}
use Rattle.mm_words.specs.Words.{IsGapless}
use Rattle.mm_words.proofs.AskedWords.{short_at}
use Rattle.mm_words.proofs.EachPattern.{word_met, word_unmet, words_met}
use Rattle.mm_words.proofs.find_request.are_gapless.Goals as goal

pub is_gapless-requires : goal.is_gapless-requires
is_gapless-requires c =
    rw c.as_bytes.ensures.value
    (short_at c.args.patterns.now c.loop-pattern.pattern-index _ c.loop-pattern-test.true c.requires)

pub loop-pattern-init : goal.loop-pattern-init
loop-pattern-init c = ((λ h. h), (λ h. h))

pub loop-pattern-preserved : goal.loop-pattern-preserved
loop-pattern-preserved c =
    word_met IsGapless c.args.patterns.now c.loop-pattern.pattern-index _ _
    c.loop-pattern-test.true
    (rw c.as_bytes.ensures.value at (c.in_ok-gapless.ensures.0 c.if-not-gapless.false))
    c.loop-pattern.invariant

pub returns-then-not-gapless : goal.returns-then-not-gapless
returns-then-not-gapless c = (
  (λ t. absurd (false≢true t)),
  (λ all. absurd (word_unmet IsGapless c.args.patterns.now c.loop-pattern.pattern-index _ _
      c.loop-pattern-test.true
      (λ gapless. false≢true (sym c.if-not-gapless.true
      ∙ c.in_ok-gapless.ensures.1 (rw c.as_bytes.ensures.value gapless)))
      c.loop-pattern.invariant all)),
)

pub returns : goal.returns
returns c = (
  (λ t. words_met IsGapless c.args.patterns.now c.loop-pattern.pattern-index _
      c.loop-pattern-test.false c.loop-pattern.invariant),
  (λ all. refl),
)
