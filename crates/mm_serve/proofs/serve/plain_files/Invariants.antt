use Rattle.std.proofs.Common.{◌≡◌, map, take}
use Rattle.mm_text.specs.Files.{plain_file}
use Rattle.mm_serve.specs.Folder.{plain_read}
use Rattle.mm_serve.proofs.serve.plain_files.Given as goal

-- The files so far are those that were read, in order.
abbrev pub invariant-loop-file : goal.invariant-loop-file
invariant-loop-file l = map plain_file l.plain.items ≡ map plain_read (take l.file-index l.files)
