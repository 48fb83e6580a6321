-- The codes so far are those of the entries so far.
use Rattle.std.proofs.Common.{◌≡◌, take}
use Rattle.std.specs.List.{flat_map}
use Rattle.mm_step.specs.Stores.{numbers_in, entries_in}
use Rattle.mm_facts.proofs.types.codes_given.Given as goal

abbrev pub invariant-loop-entry : goal.invariant-loop-entry
invariant-loop-entry l =
    numbers_in l.codes.items ≡ flat_map (take 1) (entries_in (take l.entry-index l.entries))
