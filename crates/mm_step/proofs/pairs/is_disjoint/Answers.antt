use Rattle.mm_step.proofs.ByNumbers.SharedVariables.{apart_free, apart_told}
use Rattle.mm_step.proofs.ByNumbers.NumberedSymbols.{number_of_name}
use Rattle.mm_step.proofs.pairs.is_disjoint.Goals as goal

pub returns-then-not-is_variable : goal.returns-then-not-is_variable
returns-then-not-is_variable c =
    apart_free _ _ c.is_variable.result c.if-not-is_variable.true (c.is_variable.ensures.variable _ (number_of_name c.args.book.now.statements c.args.symbol.0 c.requires.second)).1

pub returns-else-not-is_variable : goal.returns-else-not-is_variable
returns-else-not-is_variable c =
    let told = rw c.requires.book at c.distinct.ensures in
    let d = told _ _ (number_of_name c.args.book.now.statements c.args.variable.0 c.requires.first) (number_of_name c.args.book.now.statements c.args.symbol.0 c.requires.second) in
    apart_told _ _ c.distinct.result d.0 d.1 ((c.is_variable.ensures.variable _ (number_of_name c.args.book.now.statements c.args.symbol.0 c.requires.second)).0 c.if-not-is_variable.false)
