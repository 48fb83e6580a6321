-- A heading is no comment of its own.
use Rattle.mm_with_lemmas.proofs.comment.own_comment_at.Goals as goal

pub returns-then-is_headed_at : goal.returns-then-is_headed_at
returns-then-is_headed_at c =
    λ text own. own.1 (c.is_headed_at.ensures.0 c.if-is_headed_at.true)
