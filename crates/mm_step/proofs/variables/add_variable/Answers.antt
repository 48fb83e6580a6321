use Rattle.mm_step.proofs.ByNumbers.VariablesOfLists.{variable_number, not_true, symbol_pushed}
use Rattle.mm_step.proofs.ByNumbers.EntryVariables.{adds_none, adds_one}
use Rattle.mm_step.proofs.variables.add_variable.Goals as goal

pub returns-then-not-is_variable : goal.returns-then-not-is_variable
returns-then-not-is_variable c =
    let variable = variable_number _ _ _ c.is_variable.ensures.variable
    c.is_variable.ensures.known in
    adds_none c.args.book.now.statements _ _
    (λ p. not_true _ c.if-not-is_variable.true (variable.1 p))

pub returns : goal.returns
returns c =
    let variable = variable_number _ _ _ c.is_variable.ensures.variable
    c.is_variable.ensures.known in
    adds_one c.args.book.now.statements _ _ _ _ (variable.0 c.if-not-is_variable.false)
    c.in_ok-make_room.ensures (symbol_pushed _ _ _ c.in_ok-push.ensures.items)
