use Rattle.std.proofs.Common.{rules, ◌≡◌, ◌<◌, ◌≤◌, ◌-◌, ◌++◌, ◌∷◌, [], List, ℕ, length, vec_len}
use Rattle.std.proofs.Common.{refl}
use Rattle.std.proofs.Common.{ap, arith, ◌∙◌}
use Rattle.std.proofs.lemmas.Option.{slice_get_read}
use Rattle.mm_step.specs.Moves.{again}
use Rattle.mm_listing.specs.Uses.{rows_of}
use Rattle.mm_listing.proofs.Machines.StepUses.{links_again, linker_left, tag_known, tag_after}
use Rattle.mm_listing.proofs.Machines.StepUses.{rows_pushed}
use Rattle.mm_listing.proofs.uses.LinkerMachine.step_again.Given.{Over}
use Rattle.mm_listing.proofs.uses.LinkerMachine.step_again.Goals.{In_ok-step_again}
use Rattle.mm_listing.proofs.uses.LinkerMachine.step_again.Goals.{After-step_before-after}
use Rattle.mm_listing.proofs.uses.LinkerMachine.step_again.Goals as goal

-- the step leaves something
left : (g : Over) (c : In_ok-step_again g)
    → let entries = g.S.Store.stack c.step_again.new.self.judge.store.now in
    (0 < length entries) × (length entries - 1 ≤ length c.args.self.now.origins.now.items)
left g c =
    let next = c.requires in
    linker_left g.S.Store.stack g.S.Store.kept next.first c.args.self.now next.prefix
    (again c.args.tag) next.ran next.allowed _ refl
    (c.in_ok-step_again.ensures.ran next.first.lister next.prefix next.allowed.0 next.ran.listed)

-- its tag stands after one of the steps
after : (g : Over) (c : After-step_before-after g)
    → (0 < c.step_before-after.result)
    × (c.step_before-after.result ≤ length c.args.self.now.sources.now.items)
after g c =
    let next = c.requires in
    let t = tag_after g.S.Store.stack g.S.Store.kept next.first c.args.self.now next.prefix next.ran
    _ c.args.tag c.step_before-after.result next.allowed
    (c.in_ok-step_again.ensures.ran next.first.lister next.prefix next.allowed.0 next.ran.listed)
    c.step_before-after.ensures in
    (t.0, t.1)

pub step_before-after-requires : goal.step_before-after-requires
step_before-after-requires g c =
    let next = c.requires in
    tag_known g.S.Store.stack g.S.Store.kept next.first c.args.self.now next.prefix _ c.args.tag
    next.ran next.allowed
    (c.in_ok-step_again.ensures.ran next.first.lister next.prefix next.allowed.0 next.ran.listed)

pub overflow_sub-after : goal.overflow_sub-after
overflow_sub-after g c =
    let some = (after g (goal.at.overflow_sub-after g c).After-step_before-after).0 in
    omega (arith, some)

pub index-source-requires : goal.index-source-requires
index-source-requires g c =
    let sources = c.args.self.now.sources.now in
    let long : vec_len sources ≡ length sources.items = search rules in
    let known = after g (goal.at.index-source-requires g c).After-step_before-after in
    omega (arith, known.0, known.1, long)

pub put_origin-requires-clause-made : goal.put_origin-requires-clause-made
put_origin-requires-clause-made g c =
    (left g (goal.at.put_origin-requires-clause-made g c).In_ok-step_again).0

pub put_origin-requires-clause-within : goal.put_origin-requires-clause-within
put_origin-requires-clause-within g c =
    (left g (goal.at.put_origin-requires-clause-within g c).In_ok-step_again).1

pub returns-clause-ran : goal.returns-clause-ran
returns-clause-ran g c first prefix allowed was =
    let old = c.args.self.now in
    let known = after g (goal.at.returns-clause-ran g c).After-step_before-after in
    let at : ℕ = c.step_before-after.result - 1 in
    let read = slice_get_read old.sources.now.items _ at c.index-source.result.now refl
    (omega (arith, known.0, known.1)) c.index-source.ensures in
    links_again g.S.Store.stack g.S.Store.kept first old prefix was _ c.args.tag
    c.step_before-after.result c.index-source.result.now allowed
    (c.in_ok-step_again.ensures.ran first.lister prefix allowed.0 was.listed)
    refl refl refl refl c.in_ok-put_origin.ensures c.in_ok-push-2.ensures.items
    (rows_pushed _ _ c.new.result c.in_ok-push.ensures.items
    ∙ ap (λ (l : List ℕ). rows_of old.uses.now.items ++ l ∷ []) c.new.ensures.items)
    c.step_before-after.ensures read
