-- Labels are few.
use Rattle.std.proofs.Common.{◌≡◌, ◌<◌, List, length, sym, ap, subst, ◌∙◌}
use Rattle.mm_frame.specs.Numbers.{labelled_sentences}
use Rattle.mm_frame.specs.Sentence.{Sentence}
use Rattle.mm_rules.specs.Conclusion.{Conclusion}
use Rattle.mm_verdict.proofs.Verdicts.AcceptedStatements.{KeptWell}
use Rattle.mm_verdict.proofs.Questions.FewLabels.{few_labels}
use Rattle.mm_axioms.proofs.asked_axioms.tables.Goals as goal

pub tables_of-requires-clause-few : goal.tables_of-requires-clause-few
tables_of-requires-clause-few c =
    let well = subst KeptWell c.checked.view_is c.checked.invariant in
    let told : c.checked.inside.book.statements ≡ c.args.checked.now.sentences = ap (λ (v : Conclusion). v.sentences) c.checked.view_is in
    subst (λ (ss : List Sentence). length (labelled_sentences ss) < 4294967295) (sym (told ∙ well.origin.sentences))
    (few_labels c.args.checked.now.profile c.args.checked.now.files well.origin.statements well.origin.accepted)
