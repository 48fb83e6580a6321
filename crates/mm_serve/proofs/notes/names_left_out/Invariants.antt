use Rattle.std.proofs.Common.{◌≡◌, map, take}
use Rattle.mm_text.specs.Files.{plain_file}
use Rattle.mm_rules.specs.Places.{name_of}
use Rattle.mm_serve.proofs.notes.names_left_out.Given as goal

-- The names so far are those by the numbers so far.
abbrev pub invariant-loop-number : goal.invariant-loop-number
invariant-loop-number l =
    map (λ name. name.now) l.names.items
    ≡ map (name_of (map plain_file l.files)) (take l.number-index l.number-items)
