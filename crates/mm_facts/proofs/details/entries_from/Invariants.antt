-- The entries so far are those from the base on.
use Rattle.std.proofs.Common.{◌≡◌, ◌+◌, ℕ, List, Some, length, slice_get}
use Rattle.mm_step.specs.Stores.{entries_in}
use Rattle.mm_listing.specs.Halted.{TellsEntry}
use Rattle.mm_facts.proofs.details.entries_from.Given as goal

abbrev pub invariant-loop-index : goal.invariant-loop-index
invariant-loop-index l =
    (l.base + length l.entries.items ≡ l.index)
    × ((k : ℕ) (numbers : List ℕ) → slice_get (entries_in l.entries.items) k ≡ Some numbers → TellsEntry l.halt (l.base + k) numbers)
