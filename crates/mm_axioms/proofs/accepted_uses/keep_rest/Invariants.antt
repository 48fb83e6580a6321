-- What is kept so far is that of the statements so far.
use Rattle.std.proofs.Common.{map, length}
use Rattle.mm_text.specs.Files.{plain_file}
use Rattle.mm_axioms.specs.Mirror.Accepted.{IsKeeping}
use Rattle.mm_axioms.proofs.accepted_uses.keep_rest.Given as goal

abbrev pub invariant-loop-statement : goal.invariant-loop-statement
invariant-loop-statement l = IsKeeping (map plain_file l.files) l.progress l.statements l.kept

abbrev pub decreases-loop-statement : goal.decreases-loop-statement
decreases-loop-statement l = length l.statements.statements
