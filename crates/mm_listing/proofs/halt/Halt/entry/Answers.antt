use Rattle.mm_listing.proofs.Machines.ProofHalts.{entry_told}
use Rattle.mm_listing.proofs.halt.Halt.entry.Goals as goal

pub returns-clause-entry : goal.returns-clause-entry
returns-clause-entry c = entry_told c.args.self.now c.args.index _ c.at.ensures
