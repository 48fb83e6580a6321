-- One more line is that of the next theorem.
use Rattle.std.proofs.Common.{◌<◌, ◌≤◌, ℕ, List, None, map, length, get_or, subst}
use Rattle.std.proofs.lemmas.List.{take_all}
use Rattle.std.proofs.lemmas.Option.{slice_get-get_or}
use Rattle.mm_frame.specs.declared.number.LabelId.{LabelId}
use Rattle.mm_axioms.specs.Mirror.Tables.{AreLinesOf, line_of_report}
use Rattle.mm_rules.proofs.Numbers.{all_at}
use Rattle.mm_axioms.proofs.Resting.AllReports.{lines_more, line_told}
use Rattle.mm_axioms.proofs.all_axioms.lines_of.Goals as goal

pub name-requires : goal.name-requires
name-requires c =
    all_at (λ (id : LabelId). id.0) (λ (n : ℕ). n < length c.args.checked.now.labels) c.args.theorems.now c.loop-theorem.theorem-index _ c.requires.in_range c.loop-theorem-test.true

pub told_at-requires-clause-label : goal.told_at-requires-clause-label
told_at-requires-clause-label c =
    all_at (λ (id : LabelId). id.0) (λ (n : ℕ). n < length c.args.checked.now.labels)
    c.args.theorems.now c.loop-theorem.theorem-index _ c.requires.in_range c.loop-theorem-test.true

pub loop-theorem-preserved : goal.loop-theorem-preserved
loop-theorem-preserved c = λ statements reads.
    let theorems : List LabelId = c.args.theorems.now in
    let k : ℕ = c.loop-theorem.theorem-index in
    let x : LabelId = get_or theorems k (record { 0 = 0 }) in
    let at = slice_get-get_or theorems k (record { 0 = 0 }) c.loop-theorem-test.true in
    lines_more c.args.essential statements theorems k x (line_of_report c.args.checked.now.labels c.name.result.now c.in_ok-told.told) c.loop-theorem.out.items _ at
    (c.loop-theorem.invariant statements reads)
    (line_told c.args.essential statements c.args.checked.now.labels c.name.result.now x.0 c.in_ok-told.told (c.requires.labels statements None reads)
    (c.in_ok-told.ensures.report statements reads c.name.result.now c.name.ensures))
    c.in_ok-push_report.ensures

pub returns : goal.returns
returns c = λ statements reads.
    let theorems : List LabelId = c.args.theorems.now in
    let all : length theorems ≤ c.loop-theorem.theorem-index = c.loop-theorem-test.false in
    subst (λ (xs : List LabelId). AreLinesOf c.args.essential statements (map (λ (l : LabelId). l.0) xs) c.loop-theorem.out.items)
    (take_all c.loop-theorem.theorem-index theorems all) (c.loop-theorem.invariant statements reads)
