use Rattle.std.proofs.Common.{◌≡◌, length}
use Rattle.mm_text.specs.Mirror.Reader.{Between, reading_of}
use Rattle.mm_text.specs.Mirror.Steps.{plain_scope}
use Rattle.mm_text.proofs.parts.first_token.Given as goal

-- what was passed over says nothing
abbrev pub invariant-loop-token : goal.invariant-loop-token
invariant-loop-token l = reading_of (plain_scope l.scope) Between l.initial.cursor ≡ reading_of (plain_scope l.scope) Between l.cursor

abbrev pub decreases-loop-token : goal.decreases-loop-token
decreases-loop-token l = length l.cursor
