use Rattle.std.proofs.Common.{sym, ◌∙◌, arith}
use Rattle.std.proofs.lemmas.Option.{slice_get-get_or}
use Rattle.std.proofs.lemmas.List.{length-map}
use Rattle.std.proofs.lemmas.Result.{IfOk-weaker}
use Rattle.mm_step.specs.Stores.{numbers_in}
use Rattle.mm_step.proofs.ByNumbers.NumberedSymbols.{no_hypothesis}
use Rattle.mm_proof.proofs.ProofNumbers.NamedAssertions.{assertion_number, as_many_named, asked_named}
use Rattle.mm_proof.proofs.ProofNumbers.NamedAssertions.{hypotheses_at}
use Rattle.mm_distinct.proofs.asked.asked_by.Goals as goal

pub frame-requires : goal.frame-requires
frame-requires c =
    let p = c.requires.proof in
    let step = c.requires.step p.0 p.1 p.2 in
    assertion_number c.args.book.now.statements p.0 _ step.2 step.0 step.3 step.4
    c.frame-own.ensures.sound.0 step.1 step.5

pub asked_in-requires-clause-entries : goal.asked_in-requires-clause-entries
asked_in-requires-clause-entries c =
    let st = c.args.book.now.statements in
    let at = c.frame.result.index in
    let xs = c.signature-signature.result.hypotheses.now in
    let are = hypotheses_at c.frame.result st _ c.frame.ensures.book c.signature-signature.ensures.ids in
    let p = c.requires.proof in
    let step = c.requires.step p.0 p.1 p.2 in
    sym (as_many_named st p.0 c.frame-own.ensures.sound.0 _ at c.frame.ensures.index.0
    c.frame.ensures.index.1 c.frame.ensures.index.2 xs are step.0 step.1 step.2 step.3 step.4
    step.5) ∙ step.6

pub returns : goal.returns
returns c =
    let st = c.args.book.now.statements in
    let at = c.frame.result.index in
    let xs = c.signature-signature.result.hypotheses.now in
    let are = hypotheses_at c.frame.result st _ c.frame.ensures.book c.signature-signature.ensures.ids in
    let typed = rw c.frame.ensures.book at c.signature-signature.ensures.typed in
    let patterned = rw c.frame.ensures.book at c.signature-signature.ensures.patterns in
    let p = c.requires.proof in
    let step = c.requires.step p.0 p.1 p.2 in
    let many = as_many_named st p.0 c.frame-own.ensures.sound.0 _ at c.frame.ensures.index.0
    c.frame.ensures.index.1 c.frame.ensures.index.2 xs are step.0 step.1 step.2 step.3 step.4
    step.5 in
    let there = slice_get-get_or xs c.args.number no_hypothesis
    (omega (arith, many, step.6, c.requires.number)) in
    record {
      asked = IfOk-weaker c.asked_in.result _ _
          (λ asked is index s proof label move stack given zip m entries.
          let told = asked_named st index c.frame-own.ensures.sound.0 _ at c.frame.ensures.index.0
          c.frame.ensures.index.1 c.frame.ensures.index.2 xs are label move
          c.one_number.ensures typed _ patterned _ stack given zip m entries c.args.number _ there
          (omega (
            arith,
            c.requires.number,
            length-map c.args.entries.now (λ e. numbers_in e.now),
          )) in
          (told.0, rw is told.1, told.2))
          (c.asked_in.ensures _ there);
    }
