use Rattle.std.proofs.Common.{◌≡◌, ◌<◌, length, refl, sym, ◌∙◌}
use Rattle.std.proofs.lemmas.Option.{same_Some, slice_get_within}
use Rattle.mm_step.specs.Moves.{name}
use Rattle.mm_listing.specs.Listing.{by_label}
use Rattle.mm_listing.proofs.Machines.ListedLines.{lists_step, name_stands}
use Rattle.mm_listing.proofs.lines.ListerMachine.step.Given.{Over}
use Rattle.mm_listing.proofs.lines.ListerMachine.step.Goals.{In_ok-step}
use Rattle.mm_listing.proofs.lines.ListerMachine.step.Goals as goal

pub label-id-requires : goal.label-id-requires
label-id-requires g c =
    let next = c.requires.next in
    slice_get_within _ _ c.requires.id (rw next.ran.judged.same_table c.requires.there)

pub step-requires : goal.step-requires
step-requires g c =
    let next = c.requires.next in
    record {
      id = c.requires.id;
      next = record {
        first = next.first.judge;
        prefix = next.prefix;
        ran = next.ran.judged;
        allowed = next.allowed.0;
        few = next.few;
      };
      there = c.requires.there;
    }

-- the step leaves something
left : (g : Over) (c : In_ok-step g) → 0 < length (g.S.Store.stack c.step.new.self.store.now)
left g c =
    let next = c.requires.next in
    name_stands g.S.Store.stack g.S.Store.kept next.first.judge _ next.prefix c.requires.id
    (c.in_ok-step.ensures.ran next.first.judge next.prefix c.requires.id c.requires.there
    next.allowed.0 next.ran.judged)
    next.allowed.1

pub last_line-requires : goal.last_line-requires
last_line-requires g c = left g (goal.at.last_line-requires g c).In_ok-step

pub returns-clause-ran : goal.returns-clause-ran
returns-clause-ran g c first prefix id there allowed was =
    let line = c.in_ok-line.ensures in
    let e : c.label-id.result.0 ≡ id =
    same_Some _ id (sym c.label-id.ensures ∙ rw was.judged.same_table there) in
    lists_step g.S.Store.stack g.S.Store.kept first c.args.self.now _ prefix (name id) _ was
    (c.in_ok-step.ensures.ran first.judge prefix id there allowed.0 was.judged) refl refl
    c.in_ok-push.ensures.items refl refl (left g (goal.at.returns-clause-ran g c).In_ok-step)
    (rw c.expresses_next-expressed.ensures at line.expression)
    (λ moves move numbered n.
    (by_label n.1, rw (line.name, e) (n.0, n.1, n.2, n.3, refl), rw n.4 refl))
