-- The report is that of the tables, or the proof is incomplete.
use Rattle.std.proofs.Common.{◌≡◌, ℕ, refl, ◌<◌, List, length, Contains, slice_get, Some, sym, ap, subst, ◌∙◌}
use Rattle.mm_step.specs.Plain.{ids_in}
use Rattle.mm_rules.specs.Conclusion.{Conclusion, labels_in}
use Rattle.mm_rules.specs.Answer.{IsKeptOf}
use Rattle.mm_verdict.proofs.Verdicts.AcceptedStatements.{read_statements, KeptWell}
use Rattle.mm_verdict.proofs.Verdicts.StatementByStatement.{all_meant}
use Rattle.mm_verdict.proofs.Questions.AskedTheorems.{all_among, axiom_within}
use Rattle.mm_axioms.proofs.Resting.AllReports.{unproved_at, report_told, reached_within}
use Rattle.mm_base.proofs.Lists.{contains_from_at}
use Rattle.mm_frame.specs.Rules.{AllMeant}
use Rattle.mm_axioms.proofs.asked_axioms.report_at.Goals as goal

pub returns-in-Some-clause-report : goal.returns-in-Some-clause-report
returns-in-Some-clause-report c = λ statements reads label there.
    let now : Conclusion = c.args.checked.now in
    let id : ℕ = c.args.theorem.0 in
    let well = subst KeptWell c.checked.view_is c.checked.invariant in
    let kept : IsKeptOf statements now = (read_statements now statements well.origin reads).kept in
    let incomplete : ids_in c.checked.inside.incomplete.items ≡ now.incomplete = ap (λ (v : Conclusion). v.incomplete) c.checked.view_is in
    let labels : labels_in c.checked.inside.book.statements ≡ now.labels = ap (λ (v : Conclusion). v.labels) c.checked.view_is in
    let told : c.checked.inside.book.statements ≡ now.sentences = ap (λ (v : Conclusion). v.sentences) c.checked.view_is in
    unproved_at statements now label id kept
    (subst (λ (ns : List ℕ). Contains ns id) (ap ids_in c.deref.ensures.value ∙ incomplete)
    (contains_from_at (ids_in c.deref.result.now) id (c.in-Some.field-0, c.in-Some.ensures.found)))
    (subst (λ (ls : List (List ℕ)). slice_get ls id ≡ Some label) (sym labels ∙ ap labels_in (told ∙ kept.sentences)) there)

pub returns-in_ok-report-in-None-clause-report : goal.returns-in_ok-report-in-None-clause-report
returns-in_ok-report-in-None-clause-report c = λ statements reads label there.
    let now : Conclusion = c.args.checked.now in
    let id : ℕ = c.args.theorem.0 in
    let well = subst KeptWell c.checked.view_is c.checked.invariant in
    let kept : IsKeptOf statements now = (read_statements now statements well.origin reads).kept in
    let incomplete : ids_in c.checked.inside.incomplete.items ≡ now.incomplete = ap (λ (v : Conclusion). v.incomplete) c.checked.view_is in
    let labels : labels_in c.checked.inside.book.statements ≡ now.labels = ap (λ (v : Conclusion). v.labels) c.checked.view_is in
    let told : c.checked.inside.book.statements ≡ now.sentences = ap (λ (v : Conclusion). v.sentences) c.checked.view_is in
    report_told statements now label id c.args.tables.now _ kept
    (subst AllMeant (sym well.origin.sentences) (all_meant now.profile well.origin.statements well.origin.accepted.obeyed))
    c.requires.theorem
    (λ h. c.in-None.ensures.none refl (subst (λ (ns : List ℕ). Contains ns id) (sym (ap ids_in c.deref.ensures.value ∙ incomplete)) h))
    (subst (λ (ls : List (List ℕ)). slice_get ls id ≡ Some label) (sym labels ∙ ap labels_in (told ∙ kept.sentences)) there)
    c.requires.tables
    (rw (c.deref-in-None.ensures.value, incomplete) at c.in_ok-report-in-None.ensures)

pub returns-in_ok-report-in-None-clause-in_range : goal.returns-in_ok-report-in-None-clause-in_range
returns-in_ok-report-in-None-clause-in_range c =
    let now : Conclusion = c.args.checked.now in
    let id : ℕ = c.args.theorem.0 in
    let well = subst KeptWell c.checked.view_is c.checked.invariant in
    let incomplete : ids_in c.checked.inside.incomplete.items ≡ now.incomplete = ap (λ (v : Conclusion). v.incomplete) c.checked.view_is in
    let labels : labels_in c.checked.inside.book.statements ≡ now.labels = ap (λ (v : Conclusion). v.labels) c.checked.view_is in
    let told : c.checked.inside.book.statements ≡ now.sentences = ap (λ (v : Conclusion). v.sentences) c.checked.view_is in
    let same : labels_in now.sentences ≡ now.labels = ap labels_in (sym told) ∙ labels in
    let found = rw (c.deref-in-None.ensures.value, incomplete) at c.in_ok-report-in-None.ensures in (
      reached_within (ids_in c.args.tables.now.axioms.items) c.args.tables.now.axiom_rows id _ (length now.labels) found.axioms
          (λ n h. subst (λ (ls : List (List ℕ)). n < length ls) same (axiom_within now.sentences n ((c.requires.tables.axioms.each n).0 h))),
      reached_within now.incomplete c.args.tables.now.unproved_rows id _ (length now.labels) found.unproved
          (λ n h. subst (λ (ls : List (List ℕ)). n < length ls) same (all_among (λ m. m < length (labels_in now.sentences)) now.incomplete n well.in_range h)),
    )
