-- What changed to the new database.
use Rattle.std.proofs.Common.{map}
use Rattle.std.proofs.lemmas.Result.{IfOk-weaker}
use Rattle.mm_text.specs.Files.{plain_file}
use Rattle.mm_diff.specs.Mirror.Outcomes.{IsOfFiles}
use Rattle.mm_diff.proofs.DiffReplies.{told_beside}
use Rattle.mm_diff.proofs.reply.reply_beside.Goals as goal

pub changes_reply-reply-requires-clause-new : goal.changes_reply-reply-requires-clause-new
changes_reply-reply-requires-clause-new c =
    let of : IsOfFiles c.args.profile (map plain_file c.args.new.now) c.in-Accepted.database =
    rw c.in-Accepted.is at c.in_ok-database.ensures in
    rw c.deref.ensures.value of.complete

pub returns-in-Accepted : goal.returns-in-Accepted
returns-in-Accepted c =
    let of : IsOfFiles c.args.profile (map plain_file c.args.new.now) c.in-Accepted.database =
    rw c.in-Accepted.is at c.in_ok-database.ensures in
    IfOk-weaker c.changes_reply-reply.result _ _
    (λ reply tells. told_beside c.args.profile c.args.old.now (map plain_file c.args.new.now)
    c.in-Accepted.database _ _ of tells)
    c.changes_reply-reply.ensures
