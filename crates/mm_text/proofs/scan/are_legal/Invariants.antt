use Rattle.std.proofs.Common.{◌≡◌, take}
use Rattle.std.specs.List.{list_all}
use Rattle.mm_text.specs.Mirror.Position.{is_legal}
use Rattle.mm_text.proofs.scan.are_legal.Given as goal

-- whether each byte so far may stand in a file
abbrev pub invariant-loop-at : goal.invariant-loop-at
invariant-loop-at l = l.so_far ≡ list_all is_legal (take l.at l.bytes)
