-- One more number, which is taken or passed over.
use Rattle.std.proofs.Common.{◌≤◌, List, map, length, get_or, Contains, subst}
use Rattle.std.proofs.lemmas.List.{take_all}
use Rattle.std.proofs.lemmas.Option.{slice_get-get_or}
use Rattle.mm_frame.specs.declared.number.LabelId.{LabelId}
use Rattle.mm_frame.proofs.Names.NameNumbers.{get_mapped}
use Rattle.mm_base.proofs.Lists.{contains_from_at}
use Rattle.mm_rules.specs.Rests.{AreInOrder}
use Rattle.mm_axioms.specs.Essential.{HaveOneType}
use Rattle.mm_rules.proofs.OrderedNumbers.{among_taken, among_passed}
use Rattle.mm_axioms.proofs.essential.of_type.Goals as goal
use Rattle.mm_axioms.proofs.essential.of_type.Goals.{then-have_one_type+in_ok-push}
use Rattle.mm_axioms.proofs.essential.of_type.Goals.{else-have_one_type}

pub have_one_type-requires-clause-other : goal.have_one_type-requires-clause-other
have_one_type-requires-clause-other c =
    let numbers : List LabelId = c.args.numbers.now in
    let x : LabelId = get_or numbers c.loop-number.number-index (record { 0 = 0 }) in
    let there = get_mapped (λ (l : LabelId). l.0) numbers c.loop-number.number-index x
    (slice_get-get_or numbers c.loop-number.number-index
    (record { 0 = 0 }) c.loop-number-test.true) in
    c.requires.numbers.within x.0
    (contains_from_at (map (λ (l : LabelId). l.0) numbers) x.0
    (c.loop-number.number-index, there))

pub loop-number-preserved : goal.loop-number-preserved
loop-number-preserved c =
    let numbers : List LabelId = c.args.numbers.now in
    let x : LabelId = get_or numbers c.loop-number.number-index (record { 0 = 0 }) in
    let at = slice_get-get_or numbers c.loop-number.number-index
    (record { 0 = 0 }) c.loop-number-test.true in
    elim c.if-have_one_type.branch [
      | then-have_one_type+in_ok-push w ↦
          among_taken (HaveOneType c.args.book.now.statements c.args.theorem.0) numbers
          c.loop-number.chosen.items c.if-have_one_type.chosen.items c.loop-number.number-index
          x c.requires.numbers.rising at c.loop-number.invariant
          (c.have_one_type.ensures.0 w.if-have_one_type.true)
          (rw w.chosen-is w.in_ok-push.ensures.items)
      | else-have_one_type w ↦
          rw w.chosen-is (among_passed
          (HaveOneType c.args.book.now.statements c.args.theorem.0) numbers
          c.loop-number.chosen.items c.loop-number.number-index x at c.loop-number.invariant
          (λ h. absurd (let t = c.have_one_type.ensures.1 h in let f = w.if-have_one_type.false in
          cc)))
    ]

pub returns : goal.returns
returns c =
    let numbers : List LabelId = c.args.numbers.now in
    let all : length numbers ≤ c.loop-number.number-index = c.loop-number-test.false in
    subst (λ (xs : List LabelId). AreInOrder
    (λ n. Contains (map (λ (l : LabelId). l.0) xs) n × HaveOneType c.args.book.now.statements
    c.args.theorem.0 n) (map (λ (l : LabelId). l.0) c.loop-number.chosen.items))
    (take_all c.loop-number.number-index numbers all) c.loop-number.invariant
