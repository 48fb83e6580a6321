-- What is said of the statements so far is known, and a position in each file was passed.
use Rattle.std.proofs.Common.{length, map}
use Rattle.mm_text.specs.Files.{plain_file}
use Rattle.mm_minimize.proofs.ShorterTheorems.StatementRemarks.{IsReadTo}
use Rattle.mm_minimize.proofs.remarks.read_remarks.Given as goal

abbrev pub invariant-loop-remarks : goal.invariant-loop-remarks
invariant-loop-remarks l =
    IsReadTo (map plain_file l.files) l.fn.statements.statements l.statements l.passed l.remarks.items

abbrev pub decreases-loop-remarks : goal.decreases-loop-remarks
decreases-loop-remarks l = length l.statements.statements
