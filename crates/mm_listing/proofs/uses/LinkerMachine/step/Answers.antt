use Rattle.std.proofs.Common.{◌<◌, ◌≤◌, ◌-◌, length, refl, ap, arith}
use Rattle.mm_step.specs.Moves.{name}
use Rattle.mm_listing.proofs.Machines.StepUses.{links_name, linker_left, origins_among, rows_pushed}
use Rattle.mm_listing.proofs.uses.LinkerMachine.step.Given.{Over}
use Rattle.mm_listing.proofs.uses.LinkerMachine.step.Goals.{In_ok-step}
use Rattle.mm_listing.proofs.uses.LinkerMachine.step.Goals as goal

pub step-requires : goal.step-requires
step-requires g c =
    let next = c.requires.next in
    record {
      id = c.requires.id;
      next = record {
        first = next.first.lister;
        prefix = next.prefix;
        ran = next.ran.listed;
        allowed = next.allowed.0;
        few = next.few;
      };
      there = c.requires.there;
    }

-- the step leaves something
left : (g : Over) (c : In_ok-step g)
    → let entries = g.S.Store.stack c.step.new.self.judge.store.now in
    (0 < length entries) × (length entries - 1 ≤ length c.args.self.now.origins.now.items)
left g c =
    let next = c.requires.next in
    linker_left g.S.Store.stack g.S.Store.kept next.first c.args.self.now next.prefix
    (name c.requires.id) next.ran next.allowed _ refl
    (c.in_ok-step.ensures.ran next.first.lister next.prefix c.requires.id c.requires.there
    next.allowed.0 next.ran.listed)

pub last_index-base-requires : goal.last_index-base-requires
last_index-base-requires g c = (left g (goal.at.last_index-base-requires g c).In_ok-step).0

pub last_operands-requires-clause-base : goal.last_operands-requires-clause-base
last_operands-requires-clause-base g c =
    let within = (left g (goal.at.last_operands-requires-clause-base g c).In_ok-step).1 in
    omega (arith, within, c.last_index-base.ensures, ap length c.deref.ensures.value)

pub last_operands-requires-clause-within : goal.last_operands-requires-clause-within
last_operands-requires-clause-within g c =
    let next = c.requires.next in
    rw (c.deref.ensures.value, c.deref-2.ensures.value)
    (origins_among g.S.Store.stack g.S.Store.kept next.first c.args.self.now next.prefix
    (name c.requires.id) next.ran next.allowed c.last_index-base.result)

pub put_origin-requires-clause-made : goal.put_origin-requires-clause-made
put_origin-requires-clause-made g c =
    (left g (goal.at.put_origin-requires-clause-made g c).In_ok-step).0

pub put_origin-requires-clause-within : goal.put_origin-requires-clause-within
put_origin-requires-clause-within g c =
    (left g (goal.at.put_origin-requires-clause-within g c).In_ok-step).1

pub returns-clause-ran : goal.returns-clause-ran
returns-clause-ran g c first prefix id there allowed was =
    let same = was.listed.judged.same_table in
    links_name g.S.Store.stack g.S.Store.kept first c.args.self.now prefix was _ id
    c.call-call.result.now c.in_ok-used.used.items allowed
    (c.in_ok-step.ensures.ran first.lister prefix id there allowed.0 was.listed)
    refl refl refl refl c.in_ok-put_origin.ensures c.in_ok-push-2.ensures.items
    (rows_pushed _ _ c.in_ok-used.used c.in_ok-push.ensures.items)
    (rw same at (c.call-call.ensures id allowed.0.0.0 (rw same there) (rw same allowed.0.0.1)))
    (rw (c.deref.ensures.value, c.deref-2.ensures.value, c.last_index-base.ensures) at
    c.in_ok-used.ensures)
