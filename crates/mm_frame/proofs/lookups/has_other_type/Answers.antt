use Rattle.std.proofs.Common.{rules}
use Rattle.mm_frame.proofs.Rules.SymbolLookups.{other_code}
use Rattle.mm_frame.proofs.lookups.has_other_type.Goals as goal

pub returns-in-Some : goal.returns-in-Some
returns-in-Some c = other_code _ _ _ c.in-Some.other.now _ c.requires.sound.0
    (rw c.in-Some.is at c.latest_code.ensures) (search rules)
