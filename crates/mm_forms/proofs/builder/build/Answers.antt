-- One tree is a row, and has one item.
use Rattle.std.proofs.Common.{arith, refl, subst, length, vec_len, rules, ◌≡◌}
use Rattle.mm_step.specs.Tree.{none, tree}
use Rattle.mm_proof.proofs.ProofVerdicts.FirstFault.{handed}
use Rattle.mm_proof.proofs.ProofVerdicts.JudgedMoves.{seen_moves, held_moves}
use Rattle.mm_forms.proofs.TreeBuilding.Building.{make_row_at, only_item, tree_row}
use Rattle.mm_forms.proofs.builder.build.Goals as goal

pub build_moves-requires-clause-made : goal.build_moves-requires-clause-made
build_moves-requires-clause-made g c =
    let a = c.requires.steps in
    let t = c.requires.makes a.index a.s a.moves a.proof a.numbered in
    let held = held_moves _ _ _ _ _ c.deref.ensures.value c.deref-2.ensures.value
    (seen_moves c.steps.view_is) in
    make_row_at c.args.book.now.statements c.args.id.0 _ _ a.index a.s a.moves (tree t.0 t.1 none)
    c.frame-own.ensures.sound.0 a held a.proof a.numbered (tree_row _ a.moves t.0 t.1 t.2)

pub returns-in_err-items-clause-long : goal.returns-in_err-items-clause-long
returns-in_err-items-clause-long g c =
    handed _ c.from_residual.result c.from_residual.ensures.1
    (λ fault is long index s moves proof numbered label below makes.
    let held = held_moves _ _ _ _ _ c.deref.ensures.value c.deref-2.ensures.value
    (seen_moves c.steps.view_is) in
    c.in_err-items.ensures.long (subst g.B.Builder.is_long is long)
    (make_row_at c.args.book.now.statements c.args.id.0 _ _ index s moves (tree label below none)
    c.frame-own.ensures.sound.0 c.requires.steps held proof numbered
    (tree_row _ moves label below makes)))

pub index-requires : goal.index-requires
index-requires g c =
    let a = c.requires.steps in
    let t = c.requires.makes a.index a.s a.moves a.proof a.numbered in
    let items = c.in_ok-items.items in
    let held = held_moves _ _ _ _ _ c.deref.ensures.value c.deref-2.ensures.value
    (seen_moves c.steps.view_is) in
    let built = c.in_ok-items.ensures.built
    (make_row_at c.args.book.now.statements c.args.id.0 _ _ a.index a.s a.moves
    (tree t.0 t.1 none) c.frame-own.ensures.sound.0 a held a.proof a.numbered
    (tree_row _ a.moves t.0 t.1 t.2)) in
    let long : vec_len items ≡ length items.items = search rules in
    omega (arith, long, built.deep)

pub returns-clause-built : goal.returns-clause-built
returns-clause-built g c = λ index s moves proof numbered label below makes.
    let held = held_moves _ _ _ _ _ c.deref.ensures.value c.deref-2.ensures.value
    (seen_moves c.steps.view_is) in
    let built = c.in_ok-items.ensures.built
    (make_row_at c.args.book.now.statements c.args.id.0 _ _ index s moves (tree label below none)
    c.frame-own.ensures.sound.0 c.requires.steps held proof numbered
    (tree_row _ moves label below makes)) in
    (only_item _ c.in_ok-items.items.items (tree label below none) refl moves built).1
    c.index.result.now c.index.ensures
