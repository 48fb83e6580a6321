-- One more change.
use Rattle.std.proofs.lemmas.Bool.Decides.{Decides-eqb}
use Rattle.std.proofs.lemmas.Slice.Eq.{slice_eq-Decides}
use Rattle.mm_with_lemmas.proofs.EditedBytes.{edited_at, edited_end}
use Rattle.mm_with_lemmas.proofs.edited.are_edited.Goals as goal

pub loop-change-preserved : goal.loop-change-preserved
loop-change-preserved c =
    edited_at c.args.source.now c.args.changes.now c.loop-change.change-index _ c.loop-change.taken
    c.args.bytes.now c.loop-change.rest.now c.in-Some.others.now c.span-span.result
    c.text.result.now c.loop-change-test.true c.loop-change.invariant c.span-span.ensures
    c.text.ensures c.if-start-taken.false c.if-stop-start.false c.if-source-stop.false
    c.in-Some.ensures

pub returns-clause-whole : goal.returns-clause-whole
returns-clause-whole c = λ t.
    edited_end c.args.source.now c.args.changes.now c.loop-change.change-index c.loop-change.taken
    c.args.bytes.now c.loop-change.rest.now c.loop-change-test.false c.loop-change.invariant
    ((slice_eq-Decides Decides-eqb _ _ _ c.eq.ensures).0 t)
