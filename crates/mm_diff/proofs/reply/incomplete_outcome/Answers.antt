-- The reply is that of `check`.
use Rattle.std.proofs.Common.{map}
use Rattle.mm_text.specs.Files.{plain_file}
use Rattle.mm_diff.proofs.DiffReplies.{incomplete_told}
use Rattle.mm_diff.proofs.reply.incomplete_outcome.Goals as goal

pub returns : goal.returns
returns c = λ profile holds.
    incomplete_told profile (map plain_file c.args.files.now) c.args.checked.now _ _ c.requires holds
    c.in_ok-reply.ensures.text c.in_ok-reply.ensures.status
