use Rattle.mm_frame.proofs.Rules.SymbolLookups.{sought_missing}
use Rattle.mm_frame.proofs.sought.number_guessed.Goals as goal

pub returns-in-None : goal.returns-in-None
returns-in-None c = sought_missing _ _ _ _ _ c.requires.infos
    (rw c.in-None.is at c.find_guessed.ensures) c.len.ensures.len
