-- Both have the same comment, or neither has one of its own.
use Rattle.std.proofs.lemmas.Bool.Decides.{Decides-eqb}
use Rattle.std.proofs.lemmas.Slice.Eq.{slice_eq-Decides}
use Rattle.mm_with_lemmas.proofs.KeptComments.{same_comments}
use Rattle.mm_with_lemmas.proofs.comment.have_one_comment.Goals as goal

pub returns-in-Some-own_comment_at : goal.returns-in-Some-own_comment_at
returns-in-Some-own_comment_at c = λ t.
    same_comments c.args.bytes.now c.args.at c.args.others.now c.args.place c.in-Some.text.now
    c.in-Some-own_comment_at.other.now c.in-Some.ensures c.in-Some-own_comment_at.ensures
    ((slice_eq-Decides Decides-eqb _ _ _ c.eq.ensures).0 t)

pub returns-in-None-own_comment_at-2 : goal.returns-in-None-own_comment_at-2
returns-in-None-own_comment_at-2 c = λ t text. (
  λ own. absurd (c.in-None.ensures text own),
  λ own. absurd (c.in-None-own_comment_at-2.ensures text own),
)
