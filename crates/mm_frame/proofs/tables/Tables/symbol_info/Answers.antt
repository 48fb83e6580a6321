use Rattle.mm_frame.proofs.Rules.SymbolLookups.{unknown}
use Rattle.mm_frame.proofs.tables.Tables.symbol_info.Goals as goal

pub returns-in-None : goal.returns-in-None
returns-in-None c = unknown _ _ _ _ c.requires.infos (rw c.in-None.is at c.find.ensures)
