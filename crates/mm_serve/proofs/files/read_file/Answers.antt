use Rattle.std.proofs.Common.{◌≡◌, refl}
use Rattle.mm_serve.proofs.FilesRead.{held_by}
use Rattle.mm_serve.proofs.files.read_file.Goals as goal

pub returns-in-Ok-read_bytes-clause-read : goal.returns-in-Ok-read_bytes-clause-read
returns-in-Ok-read_bytes-clause-read g c =
    let (all, known, size, read) = c.in-Ok-read_bytes.ensures.read in (
      record { name = c.args.name.now; bytes = all },
      refl,
      held_by (λ bytes. all ≡ bytes) (g.F.Folder.holds c.args.folder.now c.args.name.now)
          (g.F.File.Source.left c.in-Ok.file) c.in-Ok.ensures.bytes (rw c.new.ensures.inner at known),
      size,
      (refl, read),
    )
