-- The tokens are those of the pattern.
use Rattle.mm_words.proofs.find_request.is_gapless.Goals as goal

pub returns : goal.returns
returns c = rw (c.deref.ensures.value, c.in_ok-tokens.ensures.tokens) at c.hold_no_gap.ensures
