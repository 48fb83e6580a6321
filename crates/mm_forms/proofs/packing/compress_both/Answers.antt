use Rattle.std.proofs.lemmas.Result.{IfOk-weaker}
use Rattle.mm_step.specs.Tree.{tree, none}
use Rattle.mm_forms.specs.BigSubtrees.{IsBig}
use Rattle.mm_forms.specs.ChosenSharing.{IsWorthATag}
use Rattle.mm_step.specs.Plain.{label_ids}
use Rattle.mm_forms.proofs.PackedProofs.PackedTrees.{packed_made}
use Rattle.mm_forms.proofs.packing.compress_both.Goals as goal

pub pack_both-both-requires-clause-shared : goal.pack_both-both-requires-clause-shared
pack_both-both-requires-clause-shared c =
    let a = c.requires.steps in
    let t = c.requires.makes a.index a.s a.moves a.proof a.numbered in
    let its = c.in_ok-shared.ensures in
    record {
      statements = c.args.book.now.statements;
      trees = tree t.0 t.1 none;
      meant = c.frame-own.ensures.sound.0;
      once = its.once;
      steps = its.shared a.index a.s a.moves a.proof a.numbered t.0 t.1 t.2;
    }

pub returns-clause-full : goal.returns-clause-full
returns-clause-full c =
    IfOk-weaker c.pack_both-both.result _ _ (λ both h index s moves proof numbered label below makes.
    let st = c.args.book.now.statements in
    let its = c.frame-own.ensures.index in
    let shared = c.in_ok-shared.ensures in
    packed_made IsBig st c.args.id.0 index s its.0 c.frame-own.result _ label below moves _
    (label_ids c.hypotheses.result.now) both.full.labels.items both.full.codes.items
    c.frame-own.ensures.sound shared.once proof.numbered c.frame-own.ensures.book its.1
    c.hypotheses.ensures.ids makes (shared.shared index s moves proof numbered label below makes) h)
    c.pack_both-both.ensures.full

pub returns-clause-chosen : goal.returns-clause-chosen
returns-clause-chosen c =
    IfOk-weaker c.pack_both-both.result _ _ (λ both h index s moves proof numbered label below makes.
    let st = c.args.book.now.statements in
    let its = c.frame-own.ensures.index in
    let shared = c.in_ok-shared.ensures in
    let (fewer, chosen, packed) = h st (tree label below none)
    (shared.shared index s moves proof numbered label below makes) in
    packed_made IsWorthATag st c.args.id.0 index s its.0 c.frame-own.result _ label below moves
    fewer (label_ids c.hypotheses.result.now) both.chosen.labels.items both.chosen.codes.items
    c.frame-own.ensures.sound shared.once proof.numbered c.frame-own.ensures.book its.1
    c.hypotheses.ensures.ids makes chosen packed) c.pack_both-both.ensures.chosen
