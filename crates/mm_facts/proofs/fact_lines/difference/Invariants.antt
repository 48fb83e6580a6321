-- The symbols so far are the same.
use Rattle.std.proofs.Common.{◌≡◌, ◌<◌, ℕ, slice_get}
use Rattle.mm_step.specs.Stores.{numbers_in}
use Rattle.mm_facts.proofs.fact_lines.difference.Given as goal

abbrev pub invariant-loop-index : goal.invariant-loop-index
invariant-loop-index l =
    (i : ℕ) → i < l.index → slice_get (numbers_in l.e) i ≡ slice_get (numbers_in l.f) i
