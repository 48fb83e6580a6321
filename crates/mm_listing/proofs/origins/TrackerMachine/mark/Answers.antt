use Rattle.std.proofs.Common.{refl}
use Rattle.mm_listing.proofs.Machines.StackOrigins.{tracks_mark}
use Rattle.mm_listing.proofs.origins.TrackerMachine.mark.Goals as goal

pub returns-in-Ok-clause-ran : goal.returns-in-Ok-clause-ran
returns-in-Ok-clause-ran g c first prefix allowed was =
    tracks_mark g.S.Store.stack g.S.Store.kept first c.args.self.now prefix allowed.2 was _
    (c.in-Ok.ensures.ran first.judge prefix allowed.0 was.judged) refl
