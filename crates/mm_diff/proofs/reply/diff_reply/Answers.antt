-- The reply beside the old database.
use Rattle.std.proofs.Common.{map}
use Rattle.std.proofs.lemmas.Result.{IfOk-weaker}
use Rattle.mm_text.specs.Files.{plain_file}
use Rattle.mm_diff.specs.Mirror.Outcomes.{IsOfFiles}
use Rattle.mm_diff.proofs.DiffReplies.{told_of_both}
use Rattle.mm_diff.proofs.reply.diff_reply.Goals as goal

pub reply_beside-reply-requires : goal.reply_beside-reply-requires
reply_beside-reply-requires c =
    let of : IsOfFiles c.args.profile (map plain_file c.args.old.now) c.in-Accepted.database =
    rw c.in-Accepted.is at c.in_ok-database.ensures in
    rw c.deref.ensures.value of.complete

pub returns-in-Accepted : goal.returns-in-Accepted
returns-in-Accepted c =
    let of : IsOfFiles c.args.profile (map plain_file c.args.old.now) c.in-Accepted.database =
    rw c.in-Accepted.is at c.in_ok-database.ensures in
    IfOk-weaker c.reply_beside-reply.result _ _
    (λ reply beside. told_of_both c.args.profile (map plain_file c.args.old.now)
    (map plain_file c.args.new.now) c.in-Accepted.database _ _ of beside)
    c.reply_beside-reply.ensures
