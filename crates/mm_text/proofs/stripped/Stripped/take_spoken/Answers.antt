use Rattle.std.proofs.Common.{sym, ◌∙◌}
use Rattle.mm_text.proofs.Alike.StrippedFiles.{both_told, left_out}
use Rattle.mm_text.proofs.stripped.Stripped.take_spoken.Goals as goal

pub returns-then-is_quiet : goal.returns-then-is_quiet
returns-then-is_quiet c =
    both_told c.leave_out.result _ _ _ c.leave_out.ensures.kept c.leave_out.ensures.state
    (λ kept state bytes stripped. rw (state, kept)
    (left_out bytes _ _ _ (sym c.is_quiet.ensures ∙ c.if-is_quiet.true) (rw c.requires at stripped)))
