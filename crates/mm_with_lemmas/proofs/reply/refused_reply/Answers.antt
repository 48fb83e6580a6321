-- The refusal is told.
use Rattle.std.proofs.Common.{map}
use Rattle.mm_text.specs.Files.{plain_file}
use Rattle.mm_with_lemmas.proofs.LemmaReplies.{refused_files}
use Rattle.mm_with_lemmas.proofs.reply.refused_reply.Goals as goal

pub returns : goal.returns
returns c = (
  refused_files (map plain_file c.args.files.now) c.args.fault.now _ _ c.requires
      c.in_ok-reply.ensures.text c.in_ok-reply.ensures.status,
  c.new.ensures.items,
)
