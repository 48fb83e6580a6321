use Rattle.std.proofs.Common.{◌≡◌, List, map, ◌+◌, take}
use Rattle.std.specs.List.{AllByRecursion, AllZip}
use Rattle.mm_text.specs.Files.{PlainFile, total_bytes}
use Rattle.mm_serve.specs.Folder.{IsHeld, plain_read}
use Rattle.mm_serve.specs.ReadFiles.{IsReadAs}
use Rattle.mm_serve.proofs.files.read_files.Given as goal

-- The files so far are read of those with the names so far, and the bytes of these and what is left
-- make up the limit.
abbrev pub invariant-loop-name : goal.invariant-loop-name
invariant-loop-name g l = (wholes : List PlainFile)
    × (map (λ f. f.name) wholes ≡ map (λ n. n.now) (take l.name-index l.names))
    × AllByRecursion (IsHeld (g.F.Folder.holds l.folder)) wholes
    × (total_bytes wholes + l.left ≡ l.max)
    × AllZip (IsReadAs l.comments) wholes (map plain_read l.files.items)
