-- By its tokens, its first byte and its last.
use Rattle.mm_with_lemmas.proofs.OtherProofs.{text_stands}
use Rattle.mm_with_lemmas.proofs.proof_text.placeable_tokens.Goals as goal

pub returns-in-Ok : goal.returns-in-Ok
returns-in-Ok c = (
  text_stands c.args.text.now c.in-Ok.ensures.legal
      (c.begins_with_space.ensures c.if-not-begins_with_space.false)
      (c.ends_with_space.ensures c.if-not-ends_with_space.false),
  c.in-Ok.ensures.tokens,
)
