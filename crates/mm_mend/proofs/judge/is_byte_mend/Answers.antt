-- The text is that after the change.
use Rattle.std.proofs.Common.{◌∙◌}
use Rattle.mm_mend.proofs.judge.is_byte_mend.Goals as goal

pub returns : goal.returns
returns c = rw (c.deref.ensures.value ∙ c.in_ok-new.ensures) at c.is_proof_text.ensures
