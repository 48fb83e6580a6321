-- The first moves are those of the first codes.
use Rattle.std.proofs.Common.{ap, take, ◌∙◌}
use Rattle.std.proofs.lemmas.List.{take-map}
use Rattle.std.proofs.lemmas.Result.{IfOk-weaker, IfErr-weaker}
use Rattle.mm_step.specs.Plain.{ids_in}
use Rattle.mm_proof.specs.Mirror.CodeSteps.{code_move}
use Rattle.mm_proof.proofs.ProofVerdicts.JudgedMoves.{seen_moves, held_moves}
use Rattle.mm_forms.proofs.TreeBuilding.Building.{make_front_at}
use Rattle.mm_forms.proofs.builder.build_row.Goals as goal

pub build_moves-requires-clause-made : goal.build_moves-requires-clause-made
build_moves-requires-clause-made g c =
    let a = c.requires.steps in
    let t = c.requires.makes a.index a.s a.moves a.proof a.numbered in
    let held = held_moves _ _ _ _ _ c.deref.ensures.value c.deref-2.ensures.value
    (seen_moves c.steps.view_is) in
    let front = ap (take c.args.count) held
    ∙ take-map (code_move (ids_in c.deref.result.now)) c.args.count c.deref-2.result.now in
    make_front_at c.args.book.now.statements c.args.id.0 _ _ c.args.count a.index a.s a.moves t.0
    c.frame-own.ensures.sound.0 a front a.proof a.numbered t.1

pub returns-clause-built : goal.returns-clause-built
returns-clause-built g c =
    let held = held_moves _ _ _ _ _ c.deref.ensures.value c.deref-2.ensures.value
    (seen_moves c.steps.view_is) in
    let front = ap (take c.args.count) held
    ∙ take-map (code_move (ids_in c.deref.result.now)) c.args.count c.deref-2.result.now in
    IfOk-weaker c.build_moves.result _ _ (λ items built index s moves proof numbered row makes.
    built (make_front_at c.args.book.now.statements c.args.id.0 _ _ c.args.count index s moves row
    c.frame-own.ensures.sound.0 c.requires.steps front proof numbered makes))
    c.build_moves.ensures.built

pub returns-clause-long : goal.returns-clause-long
returns-clause-long g c =
    let held = held_moves _ _ _ _ _ c.deref.ensures.value c.deref-2.ensures.value
    (seen_moves c.steps.view_is) in
    let front = ap (take c.args.count) held
    ∙ take-map (code_move (ids_in c.deref.result.now)) c.args.count c.deref-2.result.now in
    IfErr-weaker c.build_moves.result _ _
    (λ fault told long index s moves proof numbered row makes. told long
    (make_front_at c.args.book.now.statements c.args.id.0 _ _ c.args.count index s moves row
    c.frame-own.ensures.sound.0 c.requires.steps front proof numbered makes))
    c.build_moves.ensures.long
