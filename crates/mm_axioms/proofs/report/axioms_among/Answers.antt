-- One more number, which is taken or passed over.
use Rattle.std.proofs.Common.{ℕ, ◌<◌, length, refl, arith}
use Rattle.mm_rules.specs.Mirror.Marks.{IsMarked, IsAxiomNumber}
use Rattle.mm_axioms.proofs.Resting.RestsOn.{marked_within}
use Rattle.mm_rules.proofs.OrderedNumbers.{up_to_taken, up_to_passed, up_to_ended}
use Rattle.mm_axioms.proofs.report.axioms_among.Goals as goal
use Rattle.mm_axioms.proofs.report.axioms_among.Goals.{then-is_marked_axiom+in_ok-push, else-is_marked_axiom}

pub loop-number-preserved : goal.loop-number-preserved
loop-number-preserved c =
    let P : ℕ → Type 0 = λ n. IsAxiomNumber c.args.book.now.statements n × IsMarked c.args.marks.now n in
    elim c.if-is_marked_axiom.branch [
      | then-is_marked_axiom+in_ok-push w ↦
          up_to_taken P c.loop-number.axioms.items c.if-is_marked_axiom.axioms.items (record { 0 = c.loop-number.number }) c.loop-number.number c.loop-number.invariant refl
          (c.is_marked_axiom.ensures.0 w.if-is_marked_axiom.true) (rw w.axioms-is w.in_ok-push.ensures.items)
      | else-is_marked_axiom w ↦
          rw w.axioms-is (up_to_passed P c.loop-number.axioms.items c.loop-number.number c.loop-number.invariant
          (λ p. absurd (let t = c.is_marked_axiom.ensures.1 p in let f = w.if-is_marked_axiom.false in cc)))
    ]

pub returns : goal.returns
returns c =
    up_to_ended (λ n. IsAxiomNumber c.args.book.now.statements n × IsMarked c.args.marks.now n) c.loop-number.axioms.items c.loop-number.number c.loop-number.invariant
    (λ n p. let less : n < length c.args.marks.now = marked_within c.args.marks.now n p.1 in omega arith)
