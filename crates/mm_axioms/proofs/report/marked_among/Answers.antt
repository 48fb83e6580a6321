-- One more number, which is taken or passed over.
use Rattle.std.proofs.Common.{◌≤◌, List, map, length, get_or, Contains, sym, subst, ◌∙◌}
use Rattle.std.proofs.lemmas.List.{take_all}
use Rattle.std.proofs.lemmas.Option.{slice_get-get_or}
use Rattle.mm_frame.specs.declared.number.LabelId.{LabelId}
use Rattle.mm_rules.specs.Rests.{AreInOrder}
use Rattle.mm_rules.specs.Mirror.Marks.{IsMarked}
use Rattle.mm_rules.proofs.OrderedNumbers.{among_taken, among_passed}
use Rattle.mm_axioms.proofs.report.marked_among.Goals as goal
use Rattle.mm_axioms.proofs.report.marked_among.Goals.{then-is_marked+in_ok-push, else-is_marked}

pub loop-number-preserved : goal.loop-number-preserved
loop-number-preserved c =
    let numbers : List LabelId = c.args.numbers.now in
    let x : LabelId = get_or numbers c.loop-number.number-index (record { 0 = 0 }) in
    let at = slice_get-get_or numbers c.loop-number.number-index (record { 0 = 0 }) c.loop-number-test.true in
    elim c.if-is_marked.branch [
      | then-is_marked+in_ok-push w ↦
          among_taken (IsMarked c.args.marks.now) numbers c.loop-number.marked.items c.if-is_marked.marked.items c.loop-number.number-index x c.requires at c.loop-number.invariant
          (sym c.is_marked.ensures ∙ w.if-is_marked.true) (rw w.marked-is w.in_ok-push.ensures.items)
      | else-is_marked w ↦
          rw w.marked-is (among_passed (IsMarked c.args.marks.now) numbers c.loop-number.marked.items c.loop-number.number-index x at c.loop-number.invariant
          (λ m. absurd (let t = c.is_marked.ensures in let f = w.if-is_marked.false in cc)))
    ]

pub returns : goal.returns
returns c =
    let numbers : List LabelId = c.args.numbers.now in
    let all : length numbers ≤ c.loop-number.number-index = c.loop-number-test.false in
    subst (λ (xs : List LabelId). AreInOrder (λ n. Contains (map (λ (l : LabelId). l.0) xs) n × IsMarked c.args.marks.now n) (map (λ (l : LabelId). l.0) c.loop-number.marked.items))
    (take_all c.loop-number.number-index numbers all) c.loop-number.invariant
