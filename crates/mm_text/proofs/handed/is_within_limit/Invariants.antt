use Rattle.std.proofs.Common.{◌≡◌, ◌+◌, drop, map}
use Rattle.mm_base.specs.MostBytes.{most_bytes}
use Rattle.mm_text.specs.Files.{plain_file, total_bytes}
use Rattle.mm_text.proofs.handed.is_within_limit.Given as goal

-- the files so far hold what is no longer left
abbrev pub invariant-loop-file : goal.invariant-loop-file
invariant-loop-file l =
    total_bytes (map plain_file l.files) + l.left
    ≡ total_bytes (map plain_file (drop l.file-index l.files)) + most_bytes
