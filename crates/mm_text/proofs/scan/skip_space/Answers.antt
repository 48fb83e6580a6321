use Rattle.std.proofs.Common.{◌∙◌, sym}
use Rattle.mm_text.proofs.Tokens.WordsAndComments.{tokens_from-step, below_more_from}
use Rattle.mm_text.proofs.scan.skip_space.Goals as goal

-- a byte of white space is stepped over
pub loop-at-preserved : goal.loop-at-preserved
loop-at-preserved c = record {
  same = λ file.
      c.loop-at.invariant.same file
      ∙ tokens_from-step c.args.bytes.now file c.loop-at.at c.loop-at-test.true (sym c.is_space.ensures ∙ c.if-not-is_space.false);
  space = below_more_from _ _ _ c.loop-at.invariant.space (sym c.is_space.ensures ∙ c.if-not-is_space.false);
}
