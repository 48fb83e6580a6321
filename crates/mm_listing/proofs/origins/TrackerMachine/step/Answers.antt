use Rattle.std.proofs.Common.{◌<◌, ◌≤◌, ◌-◌, length, refl, ◌∙◌}
use Rattle.mm_step.specs.Moves.{name}
use Rattle.mm_listing.proofs.Machines.StackOrigins.{tracks_step, origin_stands, stopped_after}
use Rattle.mm_listing.proofs.origins.TrackerMachine.step.Given.{Over}
use Rattle.mm_listing.proofs.origins.TrackerMachine.step.Goals.{In-Ok}
use Rattle.mm_listing.proofs.origins.TrackerMachine.step.Goals as goal

pub step-requires : goal.step-requires
step-requires g c =
    let next = c.requires.next in
    record {
      id = c.requires.id;
      next = record {
        first = next.first.judge;
        prefix = next.prefix;
        ran = next.ran.judged;
        allowed = next.allowed.0;
        few = next.few;
      };
      there = c.requires.there;
    }

-- the step leaves something
left : (g : Over) (c : In-Ok g)
    → let entries = g.S.Store.stack c.step.new.self.store.now in
    (0 < length entries) × (length entries - 1 ≤ length c.args.self.now.origins.now.items)
left g c =
    let next = c.requires.next in
    origin_stands g.S.Store.stack g.S.Store.kept next.first c.args.self.now next.prefix
    next.allowed.2 next.ran _ (name c.requires.id) refl
    (c.in-Ok.ensures.ran next.first.judge next.prefix c.requires.id c.requires.there next.allowed.0
    next.ran.judged)
    next.allowed.1

pub put_origin-requires-clause-made : goal.put_origin-requires-clause-made
put_origin-requires-clause-made g c =
    (left g (goal.at.put_origin-requires-clause-made g c).In-Ok).0

pub put_origin-requires-clause-within : goal.put_origin-requires-clause-within
put_origin-requires-clause-within g c =
    (left g (goal.at.put_origin-requires-clause-within g c).In-Ok).1

pub returns-in_ok-put_origin-in-Ok-clause-ran : goal.returns-in_ok-put_origin-in-Ok-clause-ran
returns-in_ok-put_origin-in-Ok-clause-ran g c first prefix id there allowed was =
    tracks_step g.S.Store.stack g.S.Store.kept first c.args.self.now prefix allowed.2 was _
    (name id) refl
    (c.in-Ok.ensures.ran first.judge prefix id there allowed.0 was.judged) refl
    c.in_ok-put_origin-in-Ok.ensures

pub returns-in-Err-clause-stops : goal.returns-in-Err-clause-stops
returns-in-Err-clause-stops g c first prefix id there allowed was =
    rw c.stop_for.ensures (stopped_after first.judge.table.now.site prefix (name id) _ _
    (c.passed-passed.ensures ∙ was.judged.all)
    (c.in-Err.ensures.stops first.judge prefix id there allowed.0 was.judged))
