use Rattle.std.proofs.Common.{◌≡◌, map, take}
use Rattle.std.specs.List.{flat_map}
use Rattle.mm_serve.specs.Notes.{note_of}
use Rattle.mm_serve.proofs.notes.notes_on.Given as goal

-- The notes so far are those on the names so far.
abbrev pub invariant-loop-name : goal.invariant-loop-name
invariant-loop-name l =
    l.notes.items ≡ flat_map note_of (map (λ name. name.now) (take l.name-index l.name-items))
