use Rattle.mm_step.proofs.ByNumbers.VariablesOfLists.{variable_number}
use Rattle.mm_distinct.proofs.AskedByNumbers.ListedVariables.{missing_told}
use Rattle.mm_distinct.proofs.asked.is_missing.Goals as goal

pub returns : goal.returns
returns c =
    let first = variable_number _ _ _ c.is_variable.ensures.variable c.is_variable.ensures.known in
    let second = variable_number _ _ _ c.is_variable-else-not-is_variable.ensures.variable
    c.is_variable-else-not-is_variable.ensures.known in
    missing_told _ _ _ _ c.distinct.result (first.0 c.if-not-is_variable.false)
    (second.0 c.if-not-is_variable-2.false)
    c.if-u-v.false (rw c.requires at c.distinct.ensures)
