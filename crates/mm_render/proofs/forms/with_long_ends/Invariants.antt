-- The text so far has its carriage returns.
use Rattle.std.proofs.Common.{◌≡◌, take, flat_map}
use Rattle.mm_render.specs.Saved.{long_end}
use Rattle.mm_render.proofs.forms.with_long_ends.Given as goal

abbrev pub invariant-loop-byte : goal.invariant-loop-byte
invariant-loop-byte l = l.put.items ≡ flat_map long_end (take l.byte-index l.text)
