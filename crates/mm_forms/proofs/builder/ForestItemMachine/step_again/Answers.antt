use Rattle.std.proofs.Common.{rules, ◌≡◌, length, refl, subst, arith, vec_len}
use Rattle.std.proofs.lemmas.List.{take_all}
use Rattle.mm_step.specs.Moves.{again}
use Rattle.mm_proof.proofs.ProofVerdicts.FirstFault.{handed}
use Rattle.mm_forms.proofs.TreeBuilding.Building.{repeat_within, next_repeat, at_repeat, repeat_long}
use Rattle.mm_forms.proofs.TreeBuilding.Building.{first_more, built_more, some_next}
use Rattle.mm_forms.proofs.builder.ForestItemMachine.step_again.Goals as goal

pub index-requires : goal.index-requires
index-requires g c =
    let s = some_next g.B.Builder.holds c.args.self.now _ c.requires in
    let shelf = c.args.self.now.shelf.now in
    let long : vec_len shelf ≡ length shelf.items = search rules in
    omega (arith, long, repeat_within _ _ s.0 s.1 _ _ _ c.args.tag s.3 s.2)

pub repeat-requires : goal.repeat-requires
repeat-requires g c =
    let first = c.requires.first in
    let s = some_next g.B.Builder.holds c.args.self.now _ c.requires in
    let h = s.3 in
    let n = next_repeat _ _ s.0 s.1 _ _ _ c.index.result.now c.args.tag h s.2 c.index.ensures in (
      first.builder.now,
      first.book.now.statements,
      record {
        stack = c.args.self.now.stack.now.items;
        row = h.row;
        shelf = c.args.self.now.shelf.now.items;
        kept = h.kept;
        steps = h.steps;
        label = n.label;
        below = n.below;
        holds = h.holds;
        has = n.has;
      },
    )

pub returns-in_err-item-clause-stops : goal.returns-in_err-item-clause-stops
returns-in_err-item-clause-stops g c =
    handed _ c.from_residual.result c.from_residual.ensures.1
    (λ fault is first prefix may ran long moves m begun.
    let more = first_more prefix moves (again c.args.tag) begun in
    let h = ran.at moves m more.0 in
    let n = next_repeat _ _ moves m _ _ _ c.index.result.now c.args.tag h more.1 c.index.ensures in
    repeat_long _ _ moves m _ _ _ _ _ h n (c.in_err-item.ensures.long
    (subst g.B.Builder.is_long is long) first.builder.now first.book.now.statements))

pub returns-clause-ran : goal.returns-clause-ran
returns-clause-ran g c first prefix may ran =
    built_more g.B.Builder.holds first c.args.self.now _ prefix _ ran refl refl refl refl (λ moves m here h.
    let stack = c.args.self.now.stack.now.items in
    let n = next_repeat _ _ moves m _ _ _ c.index.result.now c.args.tag h here c.index.ensures in
    let all = take_all c.len-end.result stack (let l = c.len-end.ensures in omega arith) in
    rw (c.in_ok-put_last.ensures.put, all) (at_repeat _ _ _ moves m _ _ _ _ _ h n
    (c.in_ok-item.ensures.made first.builder.now first.book.now.statements)))
