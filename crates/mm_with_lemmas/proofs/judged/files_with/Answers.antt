-- The one with the number has the bytes.
use Rattle.mm_with_lemmas.proofs.JudgedFiles.{with_one}
use Rattle.mm_with_lemmas.proofs.judged.files_with.Goals as goal

pub returns : goal.returns
returns c =
    rw c.in_ok-anew.ensures.items
    (with_one c.args.files.now c.args.number _ c.args.bytes c.if-files-number.false)
