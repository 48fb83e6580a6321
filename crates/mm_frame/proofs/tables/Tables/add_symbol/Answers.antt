use Rattle.std.proofs.Common.{◌∙◌}
use Rattle.mm_base.proofs.Lists.{contains_from_at}
use Rattle.mm_frame.proofs.BookLists.SymbolsAndLabels.{fresh_name}
use Rattle.mm_frame.proofs.tables.Tables.add_symbol.Goals as goal

pub returns-clause-names : goal.returns-clause-names
returns-clause-names c = c.add.ensures.names ∙ fresh_name _ _ (λ at. c.requires.fresh (contains_from_at _ _ at))
