-- What is told is of the report that the tables tell.
use Rattle.std.proofs.Common.{◌≡◌, ◌<◌, ℕ, List, Option, length, sym, ap, subst, ◌∙◌}
use Rattle.std.specs.Prelude.{IfSome}
use Rattle.std.specs.List.{AllByRecursion}
use Rattle.mm_base.proofs.Lists.{get_within}
use Rattle.mm_frame.specs.declared.number.LabelId.{LabelId}
use Rattle.mm_frame.specs.Numbers.{labelled_sentences}
use Rattle.mm_frame.proofs.Names.LabelNumbers.{numbered_within}
use Rattle.mm_frame.specs.Sentence.{Sentence}
use Rattle.mm_step.specs.Plain.{ids_in}
use Rattle.mm_rules.specs.Answer.{IsKeptOf}
use Rattle.mm_rules.specs.Conclusion.{Conclusion}
use Rattle.mm_rules.specs.Rests.{IsReport}
use Rattle.mm_verdict.proofs.Verdicts.AcceptedStatements.{read_statements, KeptWell}
use Rattle.mm_axioms.specs.declared.report.Report.{Report}
use Rattle.mm_axioms.specs.Essential.{AreTold}
use Rattle.mm_axioms.specs.Mirror.Codes.{AreNumbersWithin}
use Rattle.mm_axioms.specs.Mirror.Tables.{IsReportAt}
use Rattle.mm_axioms.proofs.TypeCodes.{axioms_within, told_within}
use Rattle.mm_axioms.proofs.all_axioms.told_at.Goals as goal

pub returns-in_default-clause-report : goal.returns-in_default-clause-report
returns-in_default-clause-report c = λ statements reads label there.
    subst (λ (told : Option Report). IsReportAt statements label c.args.theorem.0 told)
    c.in_default.is (c.in_ok-report.ensures.report statements reads label there)

pub chosen_report-requires-clause-theorem : goal.chosen_report-requires-clause-theorem
chosen_report-requires-clause-theorem c =
    let now : Conclusion = c.args.checked.now in
    let told : c.checked.inside.book.statements ≡ now.sentences =
    ap (λ (v : Conclusion). v.sentences) c.checked.view_is in
    let theorem = c.requires.theorem in
    subst (λ (ss : List Sentence). c.args.theorem.0 < length (labelled_sentences ss)) (sym told)
    (numbered_within now.sentences c.args.theorem.0 theorem.0 theorem.1 theorem.2)

pub chosen_report-requires-clause-axioms : goal.chosen_report-requires-clause-axioms
chosen_report-requires-clause-axioms c =
    let now : Conclusion = c.args.checked.now in
    let well = subst KeptWell c.checked.view_is c.checked.invariant in
    let told : c.checked.inside.book.statements ≡ now.sentences =
    ap (λ (v : Conclusion). v.sentences) c.checked.view_is in
    let (label, there) = get_within now.labels c.args.theorem.0 c.requires.label in
    let it = subst
    (λ (found : Option Report).
    IsReportAt well.origin.statements label c.args.theorem.0 found) c.in-Some.is
    (c.in_ok-report.ensures.report well.origin.statements well.origin.accepted.reads label
    there) in
    subst (λ (ss : List Sentence). AreNumbersWithin (length (labelled_sentences ss))
    (ids_in c.in-Some.report.axioms.items)) (sym (told ∙ well.origin.sentences))
    (axioms_within well.origin.statements label _ _ it.0)

pub returns-clause-report : goal.returns-clause-report
returns-clause-report c = λ statements reads label there.
    let now : Conclusion = c.args.checked.now in
    let id : ℕ = c.args.theorem.0 in
    let well = subst KeptWell c.checked.view_is c.checked.invariant in
    let kept : IsKeptOf statements now =
    (read_statements now statements well.origin reads).kept in
    let told : c.checked.inside.book.statements ≡ now.sentences =
    ap (λ (v : Conclusion). v.sentences) c.checked.view_is in
    let axioms : List ℕ = ids_in c.in-Some.report.axioms.items in
    let chosen : List ℕ = ids_in c.in_ok-chosen.chosen.axioms.items in
    let it = subst (λ (found : Option Report). IsReportAt statements label id found) c.in-Some.is
    (c.in_ok-report.ensures.report statements reads label there) in
    let report = subst (λ (ids : List LabelId).
    (r : IsReport statements label axioms (ids_in ids)) × (r.id ≡ id))
    (sym c.in_ok-chosen.ensures.unproved) (it.0, it.1) in (
      axioms,
      report.0,
      report.1,
      subst (λ (ss : List Sentence). AreTold c.args.essential ss id axioms chosen)
          (told ∙ kept.sentences) c.in_ok-chosen.ensures.axioms,
    )

pub returns-clause-in_range : goal.returns-clause-in_range
returns-clause-in_range c =
    let within : ℕ = length c.args.checked.now.labels in
    let inside = subst (λ (found : Option Report). IfSome found (λ r.
    AllByRecursion (λ n. n < within) (ids_in r.axioms.items)
    × AllByRecursion (λ n. n < within) (ids_in r.unproved.items)))
    c.in-Some.is c.in_ok-report.ensures.in_range in (
      told_within c.args.essential c.checked.inside.book.statements c.args.theorem.0 _ _ within
          c.in_ok-chosen.ensures.axioms inside.0,
      subst (λ (ids : List LabelId). AllByRecursion (λ n. n < within) (ids_in ids))
          (sym c.in_ok-chosen.ensures.unproved) inside.1,
    )
