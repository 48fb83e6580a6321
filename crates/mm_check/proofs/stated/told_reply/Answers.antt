-- The statement begins in one of the files.
use Rattle.std.proofs.Common.{map}
use Rattle.mm_text.specs.Files.{plain_file}
use Rattle.mm_check.proofs.ToldComments.{begins_there}
use Rattle.mm_check.proofs.stated.told_reply.Goals as goal

pub told_first-requires : goal.told_first-requires
told_first-requires c =
    begins_there (map plain_file c.args.files.now) c.requires.0 c.args.stated.now c.requires.1
