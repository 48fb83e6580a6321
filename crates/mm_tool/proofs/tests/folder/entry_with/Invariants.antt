use Rattle.std.proofs.Common.{◌≡◌, find, drop}
use Rattle.std.specs.Str.{bytes_eq}
use Rattle.mm_tool.proofs.tests.folder.entry_with.Given as goal

-- The first entry with the name is among those that are left.
abbrev pub invariant-loop-entry : goal.invariant-loop-entry
invariant-loop-entry l = find (λ entry. bytes_eq entry.name.now l.name) l.entries
    ≡ find (λ entry. bytes_eq entry.name.now l.name) (drop l.entry-index l.entries)
