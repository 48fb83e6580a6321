use Rattle.std.proofs.Common.{rules, ◌≡◌, ◌-◌, ◌<◌, get_or, length, refl, subst, arith, vec_len}
use Rattle.mm_step.specs.Moves.{name}
use Rattle.mm_proof.proofs.ProofVerdicts.FirstFault.{handed}
use Rattle.mm_proof.proofs.ProofNumbers.UsedAssertions.{entry_is}
use Rattle.mm_forms.proofs.TreeBuilding.Building.{next_make, make_within, at_make, make_long}
use Rattle.mm_forms.proofs.TreeBuilding.Building.{first_more, built_more, some_next}
use Rattle.mm_forms.proofs.builder.ForestItemMachine.step.Given.{Over}
use Rattle.mm_forms.proofs.builder.ForestItemMachine.step.Goals.{Start}
use Rattle.mm_forms.proofs.builder.ForestItemMachine.step.Goals as goal

-- the label at the index
entry : (g : Over) (c : Start g)
    → let entries = c.args.self.now.entries.now in
    (c.args.index < length entries) × ((get_or entries c.args.index (record { 0 = 0 })).0 ≡ c.requires.id)
entry g c =
    entry_is c.args.self.now.entries.now c.args.index c.requires.id (record { 0 = 0 })
    (rw c.requires.next.ran.same_entries c.requires.there)

pub bounds-self-index : goal.bounds-self-index
bounds-self-index g c = (entry g c).0

pub width-requires-clause-sound : goal.width-requires-clause-sound
width-requires-clause-sound g c = rw c.requires.next.ran.same_book c.requires.next.ran.sound

pub width-requires-clause-used : goal.width-requires-clause-used
width-requires-clause-used g c =
    let s = some_next g.B.Builder.holds c.args.self.now _ c.requires.next in
    let n = next_make _ _ s.0 s.1 _ _ _ c.requires.id s.3 s.2 in
    let e = entry g (goal.at.width-requires-clause-used g c).Start in
    rw (c.requires.next.ran.same_book, e.1) (s.1.index, n.label, n.used)

pub overflow_sub-base : goal.overflow_sub-base
overflow_sub-base g c =
    let s = some_next g.B.Builder.holds c.args.self.now _ c.requires.next in
    let n = next_make _ _ s.0 s.1 _ _ _ c.requires.id s.3 s.2 in
    let stack = c.args.self.now.stack.now in
    let long : vec_len stack ≡ length stack.items = search rules in
    let e = entry g (goal.at.overflow_sub-base g c).Start in
    let wide = rw (c.requires.next.ran.same_book, e.1) at c.width.ensures in
    let same = wide s.1.index n.label n.below n.used n.stands in
    omega (arith, long, c.len.ensures, make_within _ _ _ s.1 _ _ _ _ _ s.3 n same)

pub returns-in_err-item-clause-stops : goal.returns-in_err-item-clause-stops
returns-in_err-item-clause-stops g c =
    handed _ c.from_residual.result c.from_residual.ensures.1
    (λ fault is first prefix id there may ran long moves m begun.
    let e = entry_is c.args.self.now.entries.now c.args.index id (record { 0 = 0 }) (rw ran.same_entries there) in
    let more = first_more prefix moves (name id) begun in
    let h = ran.at moves m more.0 in
    let n = next_make _ _ moves m _ _ _ id h more.1 in
    make_long _ _ moves m _ _ _ _ _ h n (c.in_err-item.ensures.long
    (subst g.B.Builder.is_long is long) first.builder.now first.book.now.statements))

pub returns-clause-ran : goal.returns-clause-ran
returns-clause-ran g c first prefix id there may ran =
    let e = entry_is c.args.self.now.entries.now c.args.index id (record { 0 = 0 }) (rw ran.same_entries there) in
    built_more g.B.Builder.holds first c.args.self.now _ prefix _ ran refl refl refl refl (λ moves m here h.
    let stack = c.args.self.now.stack.now in
    let n = next_make _ _ moves m _ _ _ id h here in
    let long : vec_len stack ≡ length stack.items = search rules in
    let wide = rw (ran.same_book, e.1) at c.width.ensures in
    rw c.in_ok-put_last.ensures.put (at_make _ _ _ moves m _ _ _ _ _ _
    (c.len.result - c.width.result) h n (wide m.index n.label n.below n.used n.stands)
    (let l = c.len.ensures in omega arith)
    (rw (c.deref.ensures.value, e.1) at
    (c.in_ok-item.ensures.made first.builder.now first.book.now.statements))))
