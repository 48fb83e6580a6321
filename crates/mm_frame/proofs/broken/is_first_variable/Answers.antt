use Rattle.std.proofs.Common.{rules}
use Rattle.mm_frame.specs.Mirror.Layout.{statements_of}
use Rattle.mm_frame.proofs.Rules.SymbolLookups.{first_says}
use Rattle.mm_frame.proofs.broken.is_first_variable.Goals as goal

pub returns-in-Some : goal.returns-in-Some
returns-in-Some c symbols are =
    first_says (statements_of c.args.tables.now) c.args.numbers.now symbols c.in-Some.first.now c.is_variable_number.result are (search rules) c.is_variable_number.ensures
