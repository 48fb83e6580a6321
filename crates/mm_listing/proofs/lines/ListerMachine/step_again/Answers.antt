use Rattle.std.proofs.Common.{rules, ◌≡◌, ◌<◌, length, refl, arith, vec_len}
use Rattle.std.proofs.lemmas.Option.{slice_get_read}
use Rattle.mm_step.specs.Moves.{again}
use Rattle.mm_listing.specs.Listing.{by_step}
use Rattle.mm_listing.proofs.Machines.ListedLines.{lists_step, tag_stands}
use Rattle.mm_listing.proofs.lines.ListerMachine.step_again.Given.{Over}
use Rattle.mm_listing.proofs.lines.ListerMachine.step_again.Goals.{In_ok-step_again}
use Rattle.mm_listing.proofs.lines.ListerMachine.step_again.Goals as goal

-- the tag is known, and the step leaves something
left : (g : Over) (c : In_ok-step_again g)
    → (c.args.tag < length c.args.self.now.tags.now.items)
    × (0 < length (g.S.Store.stack c.step_again.new.self.store.now))
left g c =
    let next = c.requires in
    tag_stands g.S.Store.stack g.S.Store.kept next.first c.args.self.now _ next.prefix c.args.tag
    next.ran
    (c.in_ok-step_again.ensures.ran next.first.judge next.prefix next.allowed.0 next.ran.judged)
    next.allowed.1

pub index-after-requires : goal.index-after-requires
index-after-requires g c =
    let tags = c.args.self.now.tags.now in
    let long : vec_len tags ≡ length tags.items = search rules in
    let known = (left g (goal.at.index-after-requires g c).In_ok-step_again).0 in
    omega (arith, known, long)

pub last_line-requires : goal.last_line-requires
last_line-requires g c = (left g (goal.at.last_line-requires g c).In_ok-step_again).1

pub returns-clause-ran : goal.returns-clause-ran
returns-clause-ran g c first prefix allowed was =
    let line = c.in_ok-line.ensures in
    let tag = c.args.tag in
    let within = (left g (goal.at.returns-clause-ran g c).In_ok-step_again).0 in
    let there = slice_get_read c.args.self.now.tags.now.items _ tag c.index-after.result.now refl within
    c.index-after.ensures in
    lists_step g.S.Store.stack g.S.Store.kept first c.args.self.now _ prefix (again tag) _ was
    (c.in_ok-step_again.ensures.ran first.judge prefix allowed.0 was.judged) refl refl
    c.in_ok-push.ensures.items refl refl
    (left g (goal.at.returns-clause-ran g c).In_ok-step_again).1
    (rw c.expresses_next-expressed.ensures at line.expression)
    (λ moves move numbered n. let stands = was.stand moves numbered tag _ there in
    (by_step c.index-after.result.now, rw line.name refl, rw n (_, stands, refl)))
