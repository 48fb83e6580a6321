-- The marks are those of what the theorem rests on.
use Rattle.std.proofs.Common.{◌≡◌, ℕ, ◌<◌, List, length, Contains, ap, subst}
use Rattle.mm_rules.specs.Conclusion.{Conclusion, labels_in}
use Rattle.mm_rules.specs.Answer.{IsKeptOf}
use Rattle.mm_step.specs.Plain.{ids_in}
use Rattle.mm_base.proofs.Lists.{error_keeps}
use Rattle.mm_base.proofs.Lists.{all_within}
use Rattle.mm_verdict.proofs.Verdicts.AcceptedStatements.{read_statements, KeptWell}
use Rattle.mm_verdict.proofs.Questions.AskedTheorems.{report_of, all_among, axiom_within}
use Rattle.mm_axioms.proofs.asked_axioms.axioms.Goals as goal

pub returns-in_err-theorem-clause-fault : goal.returns-in_err-theorem-clause-fault
returns-in_err-theorem-clause-fault c =
    let well = subst KeptWell c.checked.view_is c.checked.invariant in
    error_keeps c.from_residual.result c.in_err-theorem.field-0.0 _ c.from_residual.ensures.1
    (λ statements reads. c.in_err-theorem.ensures.fault statements
    (read_statements c.args.checked.now statements well.origin reads).kept)

pub returns-clause-report : goal.returns-clause-report
returns-clause-report c = λ statements reads.
    let now : Conclusion = c.args.checked.now in
    let well = subst KeptWell c.checked.view_is c.checked.invariant in
    let kept : IsKeptOf statements now = (read_statements now statements well.origin reads).kept in
    let sentences : c.checked.inside.book.statements ≡ now.sentences = ap (λ (v : Conclusion). v.sentences) c.checked.view_is in
    let uses : c.checked.inside.kept ≡ now.uses = ap (λ (v : Conclusion). v.uses) c.checked.view_is in
    let incomplete : ids_in c.checked.inside.incomplete.items ≡ now.incomplete = ap (λ (v : Conclusion). v.incomplete) c.checked.view_is in
    report_of statements now c.args.label.now _ _ _ _ kept c.theorem.ensures.sound.0
    (c.in_ok-theorem.ensures.found statements kept) (rw uses at c.in_ok-marks.ensures.marks)
    (rw (c.deref.ensures.value, sentences) at c.in_ok-axioms.ensures)
    (rw (c.deref-3.ensures.value, c.deref-2.ensures.value, incomplete) at c.in_ok-unproved.ensures)

pub returns-clause-in_range : goal.returns-clause-in_range
returns-clause-in_range c =
    let now : Conclusion = c.args.checked.now in
    let labels : labels_in c.checked.inside.book.statements ≡ now.labels = ap (λ (v : Conclusion). v.labels) c.checked.view_is in (
      all_within (λ n. n < length now.labels) (ids_in c.in_ok-axioms.axioms.items) (λ n h.
          subst (λ (ls : List (List ℕ)). n < length ls) labels
          (axiom_within c.checked.inside.book.statements n ((c.in_ok-axioms.ensures.each n).0 h).0)),
      all_within (λ n. n < length now.labels) (ids_in c.in_ok-unproved.unproved.items) (λ n h.
          subst (λ (ls : List (List ℕ)). n < length ls) labels
          (all_among (λ m. m < length (labels_in c.checked.inside.book.statements)) (ids_in c.checked.inside.incomplete.items) n c.checked.invariant.in_range
          (subst (λ (ns : List ℕ). Contains ns n) (ap ids_in c.deref-2.ensures.value) ((c.in_ok-unproved.ensures.each n).0 h).0))),
    )
