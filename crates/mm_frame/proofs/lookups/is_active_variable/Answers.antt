use Rattle.mm_frame.proofs.Rules.SymbolLookups.{variable_says}
use Rattle.mm_frame.proofs.lookups.is_active_variable.Goals as goal

pub returns-in-Some-variable : goal.returns-in-Some-variable
returns-in-Some-variable c = variable_says _ _ c.in-Some.info _ _ c.requires.sound.0
    (rw c.in-Some.is at c.symbol_info.ensures) c.in-Some-variable.is c.is_active_now.ensures
