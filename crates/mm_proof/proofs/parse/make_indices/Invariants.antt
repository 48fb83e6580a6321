use Rattle.std.proofs.Common.{◌≤◌, length}
use Rattle.mm_proof.proofs.parse.make_indices.Given as goal

abbrev pub invariant-loop : goal.invariant-loop
invariant-loop l = l.counter ≤ length l.indices.items
