-- So many are told.
use Rattle.std.proofs.Common.{◌≡◌, replicate, true}
use Rattle.mm_render.proofs.uses_lines.all_told.Given as goal

abbrev pub invariant-loop : goal.invariant-loop
invariant-loop l = l.told.items ≡ replicate l.counter true
