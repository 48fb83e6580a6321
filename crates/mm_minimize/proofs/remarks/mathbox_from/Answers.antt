-- A position has no more headings before it than bytes.
use Rattle.std.proofs.Common.{◌≤◌, arith}
use Rattle.mm_text.specs.Remarks.{mathbox_at}
use Rattle.mm_minimize.proofs.ShorterTheorems.StatementRemarks.{headings_few}
use Rattle.mm_minimize.proofs.remarks.mathbox_from.Goals as goal

pub overflow_add-result : goal.overflow_add-result
overflow_add-result c =
    let sum = c.headings_between.ensures.sum in
    let passed = c.requires.passed.mathbox in
    let few : mathbox_at c.args.bytes.now c.args.at ≤ c.args.at = headings_few c.args.at c.args.bytes.now in
    let fits = c.ranges.at in
    omega arith

pub returns-then-passed-at : goal.returns-then-passed-at
returns-then-passed-at c =
    let sum = c.headings_between.ensures.sum in
    let passed = c.requires.passed.mathbox in
    omega arith
