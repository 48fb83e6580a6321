-- Labels are few, and the `$p` are those of the statements.
use Rattle.std.proofs.Common.{◌≡◌, ℕ, ◌<◌, List, length, sym, ap, subst, ◌∙◌}
use Rattle.mm_base.proofs.Lists.{all_within}
use Rattle.mm_frame.specs.Numbers.{labelled_sentences}
use Rattle.mm_frame.specs.Sentence.{Sentence}
use Rattle.mm_base.specs.declared.statement.Kind.TheVariants.{Provable}
use Rattle.mm_step.specs.Plain.{ids_in}
use Rattle.mm_rules.specs.Conclusion.{Conclusion, labels_in}
use Rattle.mm_rules.specs.Answer.{IsKeptOf}
use Rattle.mm_verdict.proofs.Verdicts.AcceptedStatements.{read_statements, KeptWell}
use Rattle.mm_verdict.proofs.Questions.FewLabels.{few_labels}
use Rattle.mm_axioms.proofs.Resting.AllReports.{theorems_told, of_kind_within}
use Rattle.mm_rules.specs.Rests.{AreInOrder}
use Rattle.mm_axioms.specs.Mirror.Tables.{IsOfKind}
use Rattle.mm_axioms.proofs.asked_axioms.theorems_in.Goals as goal
use Rattle.std.proofs.lemmas.Result.{IfOk-weaker}

pub theorems_of-requires : goal.theorems_of-requires
theorems_of-requires c =
    let well = subst KeptWell c.checked.view_is c.checked.invariant in
    let told : c.checked.inside.book.statements ≡ c.args.checked.now.sentences = ap (λ (v : Conclusion). v.sentences) c.checked.view_is in
    subst (λ (ss : List Sentence). length (labelled_sentences ss) < 4294967295) (sym (told ∙ well.origin.sentences))
    (few_labels c.args.checked.now.profile c.args.checked.now.files well.origin.statements well.origin.accepted)

pub returns-clause-told : goal.returns-clause-told
returns-clause-told c =
    let now : Conclusion = c.args.checked.now in
    let well = subst KeptWell c.checked.view_is c.checked.invariant in
    let told : c.checked.inside.book.statements ≡ now.sentences = ap (λ (v : Conclusion). v.sentences) c.checked.view_is in
    IfOk-weaker c.theorems_of.result _ _
    (λ ids order statements reads.
    let kept : IsKeptOf statements now = (read_statements now statements well.origin reads).kept in
    theorems_told statements (ids_in ids.items)
    (subst (λ (ss : List Sentence). AreInOrder (IsOfKind ss Provable) (ids_in ids.items)) (told ∙ kept.sentences) order))
    c.theorems_of.ensures

pub returns-clause-in_range : goal.returns-clause-in_range
returns-clause-in_range c =
    let labels : labels_in c.checked.inside.book.statements ≡ c.args.checked.now.labels = ap (λ (v : Conclusion). v.labels) c.checked.view_is in
    IfOk-weaker c.theorems_of.result _ _
    (λ ids order. all_within (λ n. n < length c.args.checked.now.labels) (ids_in ids.items) (λ n h.
    subst (λ (ls : List (List ℕ)). n < length ls) labels (of_kind_within c.checked.inside.book.statements Provable n ((order.each n).0 h))))
    c.theorems_of.ensures
