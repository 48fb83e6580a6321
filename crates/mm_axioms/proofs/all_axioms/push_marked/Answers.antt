-- Each number is that of a label, and one more label was put.
use Rattle.std.proofs.Common.{◌<◌, ◌≤◌, ◌++◌, ℕ, List, map, length, codes, ap, ◌∙◌, append_assoc}
use Rattle.std.specs.List.{flat_map}
use Rattle.std.proofs.lemmas.List.{take_all}
use Rattle.mm_frame.specs.declared.number.LabelId.{LabelId}
use Rattle.mm_rules.specs.Answer.{labels_at}
use Rattle.mm_rules.proofs.Numbers.{all_at}
use Rattle.mm_axioms.proofs.Resting.AllReports.{one_more_marked}
use Rattle.mm_axioms.proofs.all_axioms.push_marked.Goals as goal

pub name-requires : goal.name-requires
name-requires c =
    all_at (λ (id : LabelId). id.0) (λ (n : ℕ). n < length c.args.checked.now.labels) c.args.numbers.now c.loop-number.number-index _ c.requires c.loop-number-test.true

pub loop-number-preserved : goal.loop-number-preserved
loop-number-preserved c =
    let more = one_more_marked c.args.mark.now c.args.checked.now.labels c.args.numbers.now c.loop-number.number-index (record { 0 = 0 }) c.name.result.now c.loop-number-test.true c.name.ensures in
    rw (c.in_ok-extend_from_slice.ensures.items, c.in_ok-push_word.ensures, c.loop-number.invariant, more) (simp append_assoc)

pub returns : goal.returns
returns c =
    let numbers : List LabelId = c.args.numbers.now in
    let all : length numbers ≤ c.loop-number.number-index = c.loop-number-test.false in
    c.loop-number.invariant
    ∙ ap (λ (ls : List LabelId). c.args.out.now.items ++ flat_map (λ (l : List ℕ). codes " " ++ (c.args.mark.now ++ l)) (labels_at c.args.checked.now.labels (map (λ (id : LabelId). id.0) ls)))
    (take_all c.loop-number.number-index numbers all)
