use Rattle.std.proofs.Common.{◌<◌, ◌≤◌, ◌-◌, length, refl}
use Rattle.mm_step.specs.Moves.{again}
use Rattle.mm_listing.proofs.Machines.StackOrigins.{tracks_step, origin_stands}
use Rattle.mm_listing.proofs.origins.TrackerMachine.step_again.Given.{Over}
use Rattle.mm_listing.proofs.origins.TrackerMachine.step_again.Goals.{In-Ok}
use Rattle.mm_listing.proofs.origins.TrackerMachine.step_again.Goals as goal

-- the step leaves something
left : (g : Over) (c : In-Ok g)
    → let entries = g.S.Store.stack c.step_again.new.self.store.now in
    (0 < length entries) × (length entries - 1 ≤ length c.args.self.now.origins.now.items)
left g c =
    let next = c.requires in
    origin_stands g.S.Store.stack g.S.Store.kept next.first c.args.self.now next.prefix
    next.allowed.2 next.ran _ (again c.args.tag) refl
    (c.in-Ok.ensures.ran next.first.judge next.prefix next.allowed.0 next.ran.judged)
    next.allowed.1

pub put_origin-requires-clause-made : goal.put_origin-requires-clause-made
put_origin-requires-clause-made g c =
    (left g (goal.at.put_origin-requires-clause-made g c).In-Ok).0

pub put_origin-requires-clause-within : goal.put_origin-requires-clause-within
put_origin-requires-clause-within g c =
    (left g (goal.at.put_origin-requires-clause-within g c).In-Ok).1

pub returns-in_ok-put_origin-in-Ok-clause-ran : goal.returns-in_ok-put_origin-in-Ok-clause-ran
returns-in_ok-put_origin-in-Ok-clause-ran g c first prefix allowed was =
    tracks_step g.S.Store.stack g.S.Store.kept first c.args.self.now prefix allowed.2 was _
    (again c.args.tag) refl
    (c.in-Ok.ensures.ran first.judge prefix allowed.0 was.judged) refl
    c.in_ok-put_origin-in-Ok.ensures
