use Rattle.mm_step.proofs.ByNumbers.SharedVariables.{and_told, not_told}
use Rattle.mm_step.proofs.ByNumbers.NumberedSymbols.{number_of_name}
use Rattle.mm_step.proofs.pairs.is_shared.Goals as goal

pub returns-then-is_variable : goal.returns-then-is_variable
returns-then-is_variable c =
    and_told _ _ c.has_symbol.result c.has_symbol.ensures.0 c.has_symbol.ensures.1
    ((c.is_variable.ensures.variable _ (number_of_name c.args.book.now.statements c.args.symbol.0 c.requires)).0 c.if-is_variable.true)

pub returns-else-is_variable : goal.returns-else-is_variable
returns-else-is_variable c =
    not_told _ _ c.is_variable.result c.if-is_variable.false (c.is_variable.ensures.variable _ (number_of_name c.args.book.now.statements c.args.symbol.0 c.requires)).1
