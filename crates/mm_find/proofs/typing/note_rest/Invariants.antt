-- The types so far are those of the statements so far.
use Rattle.std.proofs.Common.{map, length}
use Rattle.mm_text.specs.Files.{plain_file}
use Rattle.mm_find.specs.Mirror.Types.{IsTyping}
use Rattle.mm_find.proofs.typing.note_rest.Given as goal

abbrev pub invariant-loop-statement : goal.invariant-loop-statement
invariant-loop-statement l = IsTyping (map plain_file l.files) l.progress l.statements l.types

abbrev pub decreases-loop-statement : goal.decreases-loop-statement
decreases-loop-statement l = length l.statements.statements
