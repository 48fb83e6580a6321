-- So many bytes are left behind the pieces so far.
use Rattle.std.proofs.Common.{◌≡◌, ◌+◌, take, length, flat_map}
use Rattle.mm_step.specs.Plain.{token_texts}
use Rattle.mm_places.proofs.whole_places.byte_of.Given as goal

abbrev pub invariant-loop-piece : goal.invariant-loop-piece
invariant-loop-piece l =
    l.index ≡ length (flat_map (λ p. p) (take l.piece (token_texts l.pieces))) + l.left
