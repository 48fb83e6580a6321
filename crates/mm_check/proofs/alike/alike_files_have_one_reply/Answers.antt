use Rattle.mm_text.proofs.Alike.AlikeItems.{alike_files_are_read_alike}
use Rattle.mm_check.proofs.AlikeReplies as alike
use Rattle.mm_check.proofs.alike.alike_files_have_one_reply.Goals as goal

pub returns : goal.returns
returns c = alike.alike_files_have_one_reply alike_files_are_read_alike
