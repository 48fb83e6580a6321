-- Each number is that of a label, and one more line is that of the next.
use Rattle.std.proofs.Common.{◌<◌, ◌≤◌, ◌++◌, ℕ, List, [], ◌∷◌, map, take, length, get_or, codes, ap, ◌∙◌, append_assoc}
use Rattle.std.proofs.lemmas.List.{take_all}
use Rattle.mm_frame.specs.declared.number.LabelId.{LabelId}
use Rattle.mm_verdict.specs.Reply.{lines_of}
use Rattle.mm_rules.specs.Answer.{labels_at}
use Rattle.mm_rules.proofs.Numbers.{all_at}
use Rattle.mm_verdict.proofs.ReplyTexts.{one_more_question}
use Rattle.mm_check.proofs.question.push_unproved.Goals as goal

pub push_label-requires : goal.push_label-requires
push_label-requires c =
    all_at (λ (id : LabelId). id.0) (λ (n : ℕ). n < length c.args.checked.now.labels) c.args.numbers.now c.loop-number.number-index _ c.requires c.loop-number-test.true

pub loop-number-preserved : goal.loop-number-preserved
loop-number-preserved c =
    let labels : List (List ℕ) = c.args.checked.now.labels in
    let numbers : List LabelId = c.args.numbers.now in
    let k : ℕ = c.loop-number.number-index in
    let d : LabelId = record { 0 = 0 } in
    let within = all_at (λ (id : LabelId). id.0) (λ (n : ℕ). n < length labels) numbers k d c.requires c.loop-number-test.true in
    let before : List ℕ = lines_of (map (λ (label : List ℕ). codes "? " ++ label) (labels_at labels (map (λ (id : LabelId). id.0) (take k numbers)))) in
    let last : List ℕ = lines_of (labels_at labels ((get_or numbers k d).0 ∷ [])) in
    let more = one_more_question labels numbers k d c.loop-number-test.true within in
    rw (c.in_ok-push_label.ensures, c.in_ok-extend_from_slice.ensures.items, c.loop-number.invariant, more) (simp append_assoc)

pub returns : goal.returns
returns c =
    let numbers : List LabelId = c.args.numbers.now in
    let all : length numbers ≤ c.loop-number.number-index = c.loop-number-test.false in
    c.loop-number.invariant
    ∙ ap (λ (ls : List LabelId). c.args.out.now.items ++ lines_of (map (λ (label : List ℕ). codes "? " ++ label) (labels_at c.args.checked.now.labels (map (λ (id : LabelId). id.0) ls))))
    (take_all c.loop-number.number-index numbers all)
