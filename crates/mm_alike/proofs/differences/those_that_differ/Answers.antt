-- One more number, which is taken or passed over.
use Rattle.std.proofs.Common.{ℕ, refl, sym, ◌∙◌, arith}
use Rattle.std.proofs.lemmas.Bool.{false≢true}
use Rattle.mm_rules.proofs.OrderedNumbers.{up_to_taken, up_to_passed, up_to_ended}
use Rattle.mm_alike.specs.Mirror.Differences.{Differs}
use Rattle.mm_alike.proofs.DifferingNumbers.{none_past, none_beyond}
use Rattle.mm_alike.proofs.differences.those_that_differ.Goals as goal
use Rattle.mm_alike.proofs.differences.those_that_differ.Goals.{then-differs+in_ok-push}
use Rattle.mm_alike.proofs.differences.those_that_differ.Goals.{else-differs}
use Rattle.mm_alike.proofs.differences.those_that_differ.Goals.{else-loop-number-test}
use Rattle.mm_alike.proofs.differences.those_that_differ.Goals.{then-loop-number-test+then-not-is_label}

pub loop-number-preserved : goal.loop-number-preserved
loop-number-preserved c =
    let P : ℕ → Type 0 =
    Differs c.args.difference c.args.book.now.statements c.args.other.now.statements in
    elim c.if-differs.branch [
      | then-differs+in_ok-push w ↦
          up_to_taken P c.loop-number.those.items c.if-differs.those.items
          (record { 0 = c.loop-number.number }) c.loop-number.number c.loop-number.invariant refl
          (c.differs.ensures.0 w.if-differs.true) (rw w.those-is w.in_ok-push.ensures.items)
      | else-differs w ↦
          rw w.those-is (up_to_passed P c.loop-number.those.items c.loop-number.number
          c.loop-number.invariant
          (λ h. false≢true (sym w.if-differs.false ∙ c.differs.ensures.1 h)))
    ]

pub returns : goal.returns
returns c =
    let P : ℕ → Type 0 =
    Differs c.args.difference c.args.book.now.statements c.args.other.now.statements in
    up_to_ended P c.loop-number.those.items c.loop-number.number c.loop-number.invariant
    (elim c.loop-number-test.branch [
      | else-loop-number-test w ↦
          λ n p. none_beyond c.args.difference c.args.book.now.statements
          c.args.other.now.statements c.loop-number.number n (omega arith) p
      | then-loop-number-test+then-not-is_label w ↦
          λ n p. none_past c.args.difference c.args.book.now.statements
          c.args.other.now.statements c.loop-number.number n
          (λ h. false≢true (sym w.if-not-is_label.true ∙ w.is_label.ensures.1 h)) p
    ])
