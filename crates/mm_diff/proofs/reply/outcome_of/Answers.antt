-- What was kept, or the fault.
use Rattle.std.proofs.Common.{map}
use Rattle.std.proofs.lemmas.Result.{IfOk-weaker}
use Rattle.mm_text.specs.Files.{plain_file}
use Rattle.mm_diff.proofs.DiffReplies.{refused_told}
use Rattle.mm_diff.proofs.reply.outcome_of.Goals as goal

pub returns-in-Ok : goal.returns-in-Ok
returns-in-Ok c =
    IfOk-weaker c.outcome_of_checked.result _ _
    (λ outcome told. told c.args.profile c.in-Ok.ensures.verdict c.in-Ok.ensures.uses
    c.in-Ok.ensures.files)
    c.outcome_of_checked.ensures

pub returns-in_ok-reply-in-Err : goal.returns-in_ok-reply-in-Err
returns-in_ok-reply-in-Err c =
    refused_told c.args.profile (map plain_file c.args.files.now) c.in-Err.fault _ _
    c.in-Err.ensures.verdict c.in_ok-reply-in-Err.ensures.text c.in_ok-reply-in-Err.ensures.status
