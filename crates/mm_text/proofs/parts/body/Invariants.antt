use Rattle.std.proofs.Common.{◌≡◌, length}
use Rattle.mm_base.specs.Statement.{plain_statement}
use Rattle.mm_text.specs.Mirror.Reader.{InBody, reading_of}
use Rattle.mm_text.specs.Mirror.Steps.{plain_scope}
use Rattle.mm_text.proofs.parts.body.Given as goal

-- what was read so far and what is left give the same reading
abbrev pub invariant-loop-cursor : goal.invariant-loop-cursor
invariant-loop-cursor l = reading_of (plain_scope l.scope) (InBody (plain_statement l.initial.into)) l.initial.cursor ≡ reading_of (plain_scope l.scope) (InBody (plain_statement l.into)) l.cursor

abbrev pub decreases-loop-cursor : goal.decreases-loop-cursor
decreases-loop-cursor l = length l.cursor
