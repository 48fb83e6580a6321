use Rattle.std.proofs.Common.{refl}
use Rattle.mm_listing.proofs.Machines.StepUses.{links_mark}
use Rattle.mm_listing.proofs.uses.LinkerMachine.mark.Goals as goal

pub returns-clause-ran : goal.returns-clause-ran
returns-clause-ran g c first prefix allowed was =
    links_mark g.S.Store.stack g.S.Store.kept first c.args.self.now prefix was _
    (c.in_ok-mark.ensures.ran first.lister prefix allowed.0 was.listed) allowed refl refl refl refl
