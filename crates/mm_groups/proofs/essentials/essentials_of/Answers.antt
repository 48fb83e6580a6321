-- The hypotheses are those of the frame.
use Rattle.std.proofs.Common.{length, map, inr}
use Rattle.std.proofs.lemmas.Result.{IfOk-weaker}
use Rattle.mm_groups.proofs.EssentialLabels.{framed}
use Rattle.mm_groups.proofs.essentials.essentials_of.Goals as goal

pub frame-requires : goal.frame-requires
frame-requires c =
    let (before, s, whole, number) = c.requires in
    (length before, s, number.numbered, inr number.provable)

pub essential_labels-requires-clause-stated : goal.essential_labels-requires-clause-stated
essential_labels-requires-clause-stated c =
    let (before, s, whole, number) = c.requires in
    let f = framed c.args.book.now.statements before s c.args.id.0 c.frame.result
    (map (λ h. h.id.0) c.hypotheses.result.now) whole number c.frame.ensures.book
    c.frame.ensures.index c.hypotheses.ensures.ids in
    (f.hypotheses, f.numbered)

pub essential_labels-requires-clause-typed : goal.essential_labels-requires-clause-typed
essential_labels-requires-clause-typed c = rw c.frame.ensures.book at c.hypotheses.ensures.typed

pub returns : goal.returns
returns c =
    IfOk-weaker c.essential_labels.result _ _
    (λ labels listed before s whole number.
    let f = framed c.args.book.now.statements before s c.args.id.0 c.frame.result
    (map (λ h. h.id.0) c.hypotheses.result.now) whole number c.frame.ensures.book
    c.frame.ensures.index c.hypotheses.ensures.ids in
    record {
      hypotheses = f.hypotheses;
      mandatory = f.mandatory;
      listed = listed f.hypotheses f.numbered;
    })
    c.essential_labels.ensures
