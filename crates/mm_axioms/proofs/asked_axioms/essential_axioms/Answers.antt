-- What of the report is of the type is told of the statements of the files.
use Rattle.std.proofs.Common.{◌≡◌, ◌<◌, List, length, sym, ap, subst, ◌∙◌}
use Rattle.mm_base.proofs.Lists.{error_keeps, all_within}
use Rattle.mm_frame.specs.Numbers.{labelled_sentences}
use Rattle.mm_frame.specs.Rules.{AllMeant}
use Rattle.mm_frame.specs.Sentence.{Sentence}
use Rattle.mm_step.specs.Plain.{ids_in}
use Rattle.mm_rules.specs.Conclusion.{Conclusion}
use Rattle.mm_rules.specs.Answer.{IsKeptOf}
use Rattle.mm_verdict.proofs.Verdicts.AcceptedStatements.{read_statements, KeptWell}
use Rattle.mm_verdict.proofs.Questions.AskedTheorems.{all_among}
use Rattle.mm_axioms.specs.Essential.{AreOfType}
use Rattle.mm_axioms.specs.Mirror.Codes.{AreNumbersWithin}
use Rattle.mm_axioms.proofs.TypeCodes.{essential_told, axioms_within}
use Rattle.mm_axioms.proofs.asked_axioms.essential_axioms.Goals as goal

pub returns-in_err-theorem-clause-fault : goal.returns-in_err-theorem-clause-fault
returns-in_err-theorem-clause-fault c =
    let well = subst KeptWell c.checked.view_is c.checked.invariant in
    error_keeps c.from_residual.result c.in_err-theorem.field-0.0 _ c.from_residual.ensures.1
    (λ statements reads. c.in_err-theorem.ensures.fault statements
    (read_statements c.args.checked.now statements well.origin reads).kept)

pub of_type-requires-clause-numbers : goal.of_type-requires-clause-numbers
of_type-requires-clause-numbers c =
    let now : Conclusion = c.args.checked.now in
    let well = subst KeptWell c.checked.view_is c.checked.invariant in
    let told : c.checked.inside.book.statements ≡ now.sentences =
    ap (λ (v : Conclusion). v.sentences) c.checked.view_is in
    rw c.deref.ensures.value
    (subst (λ (ss : List Sentence). AreNumbersWithin (length (labelled_sentences ss))
    (ids_in c.in_ok-report.report.axioms.items)) (sym (told ∙ well.origin.sentences))
    (axioms_within well.origin.statements c.args.label.now _ _
    (c.in_ok-report.ensures.report well.origin.statements well.origin.accepted.reads)))

pub returns-clause-report : goal.returns-clause-report
returns-clause-report c = λ statements reads.
    let now : Conclusion = c.args.checked.now in
    let well = subst KeptWell c.checked.view_is c.checked.invariant in
    let kept : IsKeptOf statements now = (read_statements now statements well.origin reads).kept in
    let told : c.checked.inside.book.statements ≡ now.sentences =
    ap (λ (v : Conclusion). v.sentences) c.checked.view_is in
    essential_told statements c.args.label.now c.checked.inside.book.statements
    c.in_ok-theorem.theorem.0 _ _ _ (told ∙ kept.sentences)
    (subst AllMeant kept.sentences c.theorem.ensures.sound.0)
    (c.in_ok-theorem.ensures.found statements kept)
    (c.in_ok-report.ensures.report statements reads)
    (rw c.deref.ensures.value at c.in_ok-axioms.ensures)

pub returns-clause-in_range : goal.returns-clause-in_range
returns-clause-in_range c =
    let now : Conclusion = c.args.checked.now in
    let chosen : AreOfType c.checked.inside.book.statements c.in_ok-theorem.theorem.0
    (ids_in c.in_ok-report.report.axioms.items) (ids_in c.in_ok-axioms.axioms.items) =
    rw c.deref.ensures.value at c.in_ok-axioms.ensures in (
      all_within (λ n. n < length now.labels) (ids_in c.in_ok-axioms.axioms.items)
          (λ n h. all_among (λ m. m < length now.labels)
          (ids_in c.in_ok-report.report.axioms.items) n c.in_ok-report.ensures.in_range.0
          ((chosen.each n).0 h).0),
      c.in_ok-report.ensures.in_range.1,
    )
