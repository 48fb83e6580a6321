-- The files of the texts so far.
use Rattle.std.proofs.Common.{◌≡◌, map, take}
use Rattle.mm_text.specs.Files.{plain_file}
use Rattle.mm_with_lemmas.specs.Mirror.Editing.{lone_file}
use Rattle.mm_with_lemmas.proofs.lone.lone_files.Given as goal

abbrev pub invariant-loop-change : goal.invariant-loop-change
invariant-loop-change l =
    map plain_file l.files.items ≡ map lone_file (take l.change-index l.changes)
