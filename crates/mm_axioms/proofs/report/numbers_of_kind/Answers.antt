-- One more number, which is taken or passed over.
use Rattle.std.proofs.Common.{ℕ, refl, arith}
use Rattle.mm_frame.specs.Taken.{kind_behind}
use Rattle.mm_frame.specs.Numbers.{IsLabelNumber}
use Rattle.mm_axioms.specs.Mirror.Tables.{IsOfKind}
use Rattle.mm_rules.proofs.OrderedNumbers.{up_to_taken, up_to_passed, up_to_ended}
use Rattle.mm_axioms.proofs.Resting.AllReports.{kind_at, no_kind_at, no_more_of_kind, below_most}
use Rattle.mm_axioms.proofs.report.numbers_of_kind.Goals as goal
use Rattle.mm_axioms.proofs.report.numbers_of_kind.Goals.{then-is_same+in_ok-push, else-is_same}
use Rattle.mm_axioms.proofs.report.numbers_of_kind.Goals.{else-loop-number-test, then-loop-number-test+then-not-is_label}

pub loop-number-preserved : goal.loop-number-preserved
loop-number-preserved c =
    let P : ℕ → Type 0 = IsOfKind c.args.book.now.statements (kind_behind c.args.kind) in
    let label : IsLabelNumber c.args.book.now.statements c.loop-number.number = c.is_label.ensures.0 c.if-not-is_label.false in
    elim c.if-is_same.branch [
      | then-is_same+in_ok-push w ↦
          up_to_taken P c.loop-number.numbers.items c.if-is_same.numbers.items (record { 0 = c.loop-number.number }) c.loop-number.number c.loop-number.invariant refl
          (kind_at c.args.book.now.statements c.loop-number.number c.kind.result c.args.kind label c.kind.ensures (c.is_same.ensures.0 w.if-is_same.true)) (rw w.numbers-is w.in_ok-push.ensures.items)
      | else-is_same w ↦
          rw w.numbers-is (up_to_passed P c.loop-number.numbers.items c.loop-number.number c.loop-number.invariant
          (no_kind_at c.args.book.now.statements c.loop-number.number c.kind.result c.args.kind c.kind.ensures (λ h. absurd (let t = c.is_same.ensures.1 h in let f = w.if-is_same.false in cc))))
    ]

pub returns : goal.returns
returns c =
    let P : ℕ → Type 0 = IsOfKind c.args.book.now.statements (kind_behind c.args.kind) in
    up_to_ended P c.loop-number.numbers.items c.loop-number.number c.loop-number.invariant
    (elim c.loop-number-test.branch [
      | else-loop-number-test w ↦ λ n p. below_most c.args.book.now.statements _ c.loop-number.number n (omega arith) p
      | then-loop-number-test+then-not-is_label w ↦
          λ n p. no_more_of_kind c.args.book.now.statements _ c.loop-number.number n (λ h. absurd (let t = w.is_label.ensures.1 h in let f = w.if-not-is_label.true in cc)) p
    ])
