-- These statements are left, and over the others the walk has gone.
use Rattle.std.proofs.Common.{map, length}
use Rattle.mm_text.specs.Files.{plain_file}
use Rattle.mm_with_lemmas.specs.Mirror.Editing.{put_statements}
use Rattle.mm_with_lemmas.specs.Mirror.Walking.{IsOnWalk}
use Rattle.mm_with_lemmas.proofs.walk.Walk.goes_over_all.Given as goal

abbrev pub invariant-loop-statement : goal.invariant-loop-statement
invariant-loop-statement l =
    IsOnWalk (map plain_file l.sides.files.now) (map plain_file l.sides.anew.now)
    l.fn.self.left.statements (put_statements l.sides.put.now) l.fn.statements.statements
    l.statements.statements l.self

abbrev pub decreases-loop-statement : goal.decreases-loop-statement
decreases-loop-statement l = length l.statements.statements
