use Rattle.std.proofs.Common.{◌≡◌, ◌≤◌, ◌<◌, ℕ, Some, slice_get}
use Rattle.mm_step.specs.declared.entry.Entry.{Entry}
use Rattle.mm_step.specs.Mirror.Buffer.{AreParts}
use Rattle.mm_step.proofs.flat.needed_length.Given as goal

abbrev pub invariant-loop-entry : goal.invariant-loop-entry
invariant-loop-entry l =
    ((i : ℕ) (e : Entry) → i < l.entry-index → slice_get l.entries i ≡ Some e → e.end ≤ l.needed)
    × ((used : ℕ) → AreParts used l.entries → l.needed ≤ used)
