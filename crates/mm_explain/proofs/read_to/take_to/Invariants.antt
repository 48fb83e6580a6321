-- None of the statements so far has the label.
use Rattle.std.proofs.Common.{map, length}
use Rattle.mm_text.specs.Files.{plain_file}
use Rattle.mm_explain.specs.Mirror.Reached.{IsSeeking}
use Rattle.mm_explain.proofs.read_to.take_to.Given as goal

abbrev pub invariant-loop-taken : goal.invariant-loop-taken
invariant-loop-taken l =
    IsSeeking (map plain_file l.files) l.label l.progress l.statements

abbrev pub decreases-loop-taken : goal.decreases-loop-taken
decreases-loop-taken l = length l.statements.statements
