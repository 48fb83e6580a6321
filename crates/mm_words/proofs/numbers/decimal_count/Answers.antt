-- The words are made of decimal digits up to the first that isn't, or to their end.
use Rattle.std.proofs.Common.{◌≡◌, ◌∙◌, arith, length, sym, true}
use Rattle.clap.specs.Words.{Text}
use Rattle.mm_words.specs.Words.{is_decimal}
use Rattle.mm_words.proofs.AskedWords.{each_more}
use Rattle.mm_words.proofs.LemmaWishes.{name_first, none_first}
use Rattle.mm_words.proofs.numbers.decimal_count.Goals as goal

pub loop-at-preserved : goal.loop-at-preserved
loop-at-preserved c =
    each_more (λ (word : Text). is_decimal word ≡ true) c.args.words.now c.loop-at.at _
    c.loop-at-test.true c.loop-at.invariant
    (rw c.as_bytes.ensures.value at (sym c.is_decimal.ensures ∙ c.if-not-is_decimal.false))

pub returns-then-not-is_decimal-clause-others : goal.returns-then-not-is_decimal-clause-others
returns-then-not-is_decimal-clause-others c =
    name_first c.args.words.now c.loop-at.at _ c.loop-at-test.true
    (rw c.as_bytes.ensures.value at (sym c.is_decimal.ensures ∙ c.if-not-is_decimal.true))

pub returns-clause-others : goal.returns-clause-others
returns-clause-others c =
    none_first c.args.words.now (length c.args.words.now) (omega arith)
