-- The line feeds so far are counted.
use Rattle.std.proofs.Common.{◌≡◌, ◌==◌, take, count_by}
use Rattle.mm_rules.proofs.position.count_in_piece.Given as goal

abbrev pub invariant-loop-byte : goal.invariant-loop-byte
invariant-loop-byte l = l.count ≡ count_by (λ b. b == 10) (take l.byte-index l.piece)
