use Rattle.mm_frame.proofs.Rules.SymbolLookups.{constant_says}
use Rattle.mm_frame.proofs.lookups.is_constant.Goals as goal

pub returns-in-Some : goal.returns-in-Some
returns-in-Some c = constant_says _ _ c.in-Some.info _ c.requires.sound.0
    (rw c.in-Some.is at c.symbol_info.ensures) c.is_none.ensures
