-- The tokens so far are those of the prefix of the text.
use Rattle.std.proofs.Common.{length, map}
use Rattle.mm_base.specs.Token.{plain_token}
use Rattle.mm_verdict.specs.Mirror.Comparisons.{ArePrefixTokens}
use Rattle.mm_verdict.proofs.text.placed_tokens.Given as goal

abbrev pub invariant-loop-first : goal.invariant-loop-first
invariant-loop-first l = ArePrefixTokens l.text (map plain_token l.tokens.items) l.rest

abbrev pub decreases-loop-first : goal.decreases-loop-first
decreases-loop-first l = length l.rest
