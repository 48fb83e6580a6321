use Rattle.std.proofs.Common.{rules, ◌≡◌, length, refl, arith, vec_len}
use Rattle.std.proofs.lemmas.List.{take_all}
use Rattle.std.proofs.lemmas.Option.{slice_get_read}
use Rattle.mm_forms.proofs.TreeBuilding.Building.{next_keep, at_keep, built_more, keep_within}
use Rattle.mm_forms.proofs.builder.ForestItemMachine.mark.Goals as goal

pub overflow_sub-len : goal.overflow_sub-len
overflow_sub-len g c =
    let stack = c.args.self.now.stack.now in
    let long : vec_len stack ≡ length stack.items = search rules in
    omega (
      arith,
      long,
      c.len.ensures,
      keep_within g.B.Builder.holds c.args.self.now c.requires,
    )

pub index-item-requires : goal.index-item-requires
index-item-requires g c =
    let stack = c.args.self.now.stack.now in
    let long : vec_len stack ≡ length stack.items = search rules in
    omega (
      arith,
      long,
      c.len.ensures,
      keep_within g.B.Builder.holds c.args.self.now c.requires,
    )

pub returns-clause-ran : goal.returns-clause-ran
returns-clause-ran g c first prefix may ran =
    built_more g.B.Builder.holds first c.args.self.now _ prefix _ ran refl refl refl refl (λ moves m here h.
    let stack = c.args.self.now.stack.now in
    let shelf = c.args.self.now.shelf.now.items in
    let n = next_keep _ _ moves m _ _ _ h here in
    let long : vec_len stack ≡ length stack.items = search rules in
    let item = c.index-item.result.now in
    let there = slice_get_read stack.items _ _ item refl
    (let some = n.some in let l = c.len.ensures in omega arith) c.index-item.ensures in
    let all = take_all c.len-end.result shelf (let l = c.len-end.ensures in omega arith) in
    rw (c.in_ok-put_last.ensures.put, all) (at_keep _ _ moves m _ _ _ item h n
    (rw (← long, ← c.len.ensures) there) (ran.keeps c.args.self.now.builder.now)))
