-- The bytes so far and those of the files that are left are those of all.
use Rattle.std.proofs.Common.{◌≡◌, ◌+◌, ◌≤◌, drop, map}
use Rattle.mm_base.specs.MostBytes.{most_bytes}
use Rattle.mm_text.specs.Files.{plain_file, total_bytes}
use Rattle.mm_rules.proofs.size.size_of.Given as goal

abbrev pub invariant-loop-file : goal.invariant-loop-file
invariant-loop-file l =
    total_bytes (map plain_file l.files) ≤ most_bytes
    → l.size + total_bytes (map plain_file (drop l.file-index l.files)) ≡ total_bytes (map plain_file l.files)
