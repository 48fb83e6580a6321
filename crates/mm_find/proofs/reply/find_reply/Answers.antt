-- The list, or the fault.
use Rattle.std.proofs.Common.{map, inl, refl}
use Rattle.mm_text.specs.Files.{plain_file}
use Rattle.mm_find.proofs.Replies.{fault_told}
use Rattle.mm_find.proofs.reply.find_reply.Goals as goal

pub returns-in-Ok : goal.returns-in-Ok
returns-in-Ok c = inl (rw c.in_ok-query.ensures at c.in-Ok.ensures.listed, refl)

pub returns : goal.returns
returns c =
    fault_told _ (map plain_file c.args.files.now) c.in-Err.fault _ _ c.in-Err.ensures.fault
    c.in_ok-reply-in-Err.ensures.text c.in_ok-reply-in-Err.ensures.status
