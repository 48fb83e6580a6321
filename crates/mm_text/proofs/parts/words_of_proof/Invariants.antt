use Rattle.std.proofs.Common.{◌≡◌, ◌≤◌, length}
use Rattle.mm_base.specs.Statement.{plain_statement}
use Rattle.mm_text.specs.Mirror.Reader.{InProof, reading_of}
use Rattle.mm_text.specs.Mirror.Steps.{plain_scope}
use Rattle.mm_text.proofs.parts.words_of_proof.Given as goal

-- what was read so far and what is left give the same reading, and no more is left
abbrev pub invariant-loop-word : goal.invariant-loop-word
invariant-loop-word l =
    (reading_of (plain_scope l.scope) (InProof (plain_statement l.initial.into)) l.initial.cursor
    ≡ reading_of (plain_scope l.scope) (InProof (plain_statement l.into)) l.cursor)
    × (length l.cursor ≤ length l.initial.cursor)

abbrev pub decreases-loop-word : goal.decreases-loop-word
decreases-loop-word l = length l.cursor
