-- One more number is marked.
use Rattle.std.proofs.Common.{◌<◌, List, map, length, get_or, sym, subst}
use Rattle.std.proofs.lemmas.Option.{slice_get-get_or}
use Rattle.mm_frame.specs.declared.number.LabelId.{LabelId}
use Rattle.mm_frame.proofs.Names.NameNumbers.{get_mapped}
use Rattle.mm_base.proofs.Lists.{contains_from_at}
use Rattle.mm_axioms.proofs.Resting.RestsOn.{marked_next}
use Rattle.mm_axioms.proofs.report.mark.Goals as goal

pub bounds-marks-number : goal.bounds-marks-number
bounds-marks-number c =
    let numbers : List LabelId = c.args.numbers.now in
    let x : LabelId = get_or numbers c.loop-number.number-index (record { 0 = 0 }) in
    let there = get_mapped (λ (l : LabelId). l.0) numbers c.loop-number.number-index x (slice_get-get_or numbers c.loop-number.number-index (record { 0 = 0 }) c.loop-number-test.true) in
    subst (λ n. x.0 < n) (sym c.loop-number.invariant.same)
    (c.requires x.0 (contains_from_at (map (λ (l : LabelId). l.0) numbers) x.0 (c.loop-number.number-index, there)))

pub loop-number-preserved : goal.loop-number-preserved
loop-number-preserved c =
    let numbers : List LabelId = c.args.numbers.now in
    let x : LabelId = get_or numbers c.loop-number.number-index (record { 0 = 0 }) in
    let at = slice_get-get_or numbers c.loop-number.number-index (record { 0 = 0 }) c.loop-number-test.true in
    let there = get_mapped (λ (l : LabelId). l.0) numbers c.loop-number.number-index x at in
    let less : x.0 < length c.loop-number.marks = subst (λ n. x.0 < n) (sym c.loop-number.invariant.same)
    (c.requires x.0 (contains_from_at (map (λ (l : LabelId). l.0) numbers) x.0 (c.loop-number.number-index, there))) in
    marked_next c.args.marks.now c.loop-number.marks numbers c.loop-number.number-index x c.loop-number.invariant at less
