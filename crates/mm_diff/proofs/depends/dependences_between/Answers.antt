-- The tables of both, and the theorems that aren't known to depend on the same.
use Rattle.std.proofs.Common.{◌<◌, ℕ, List, ap, length, map, subst, sym, ◌∙◌}
use Rattle.mm_frame.specs.declared.number.LabelId.{LabelId}
use Rattle.mm_frame.specs.Numbers.{labelled_sentences}
use Rattle.mm_frame.specs.Rules.{AllMeant}
use Rattle.mm_frame.specs.Sentence.{Sentence}
use Rattle.mm_step.specs.Plain.{ids_in}
use Rattle.mm_rules.specs.Conclusion.{Conclusion}
use Rattle.mm_verdict.proofs.Verdicts.AcceptedStatements.{KeptWell}
use Rattle.mm_diff.specs.Diff.{AreRenamed}
use Rattle.mm_diff.specs.Mirror.Changes.{plain_renaming}
use Rattle.mm_diff.specs.Mirror.Depends.{AreOthersSettled}
use Rattle.mm_diff.specs.Mirror.Twins.{TellRenamed}
use Rattle.mm_alike.proofs.CheckedTheorems.{few_kept, kept_meant}
use Rattle.mm_diff.proofs.FurtherAxioms.{paired_unsettled}
use Rattle.mm_diff.proofs.OneAssertions.{renamed_tells, turned_tells}
use Rattle.mm_diff.proofs.StayingTheorems.{others_settled}
use Rattle.mm_diff.proofs.depends.dependences_between.Goals as goal

pub twins_of-requires-clause-few : goal.twins_of-requires-clause-few
twins_of-requires-clause-few c =
    subst (λ (ss : List Sentence). length (labelled_sentences ss) < 4294967295)
    (sym (ap (λ (v : Conclusion). v.sentences) c.new.view_is))
    (few_kept c.args.new.now (subst KeptWell c.new.view_is c.new.invariant))

pub twins_of-requires-clause-meant : goal.twins_of-requires-clause-meant
twins_of-requires-clause-meant c =
    subst AllMeant (sym (ap (λ (v : Conclusion). v.sentences) c.old.view_is))
    (kept_meant c.args.old.now (subst KeptWell c.old.view_is c.old.invariant))

pub twins_of-requires-clause-renamed : goal.twins_of-requires-clause-renamed
twins_of-requires-clause-renamed c =
    let here = ap (λ (v : Conclusion). v.sentences) c.old.view_is in
    let there = ap (λ (v : Conclusion). v.sentences) c.new.view_is in
    renamed_tells c.old.inside.book.statements c.new.inside.book.statements
    (map plain_renaming c.args.renamed.now)
    (subst (λ (ss : List Sentence). AreRenamed ss c.new.inside.book.statements
    (map plain_renaming c.args.renamed.now)) (sym here)
    (subst (λ (ss : List Sentence). AreRenamed c.args.old.now.sentences ss
    (map plain_renaming c.args.renamed.now)) (sym there) c.requires))

pub twins_of-requires-2-clause-few : goal.twins_of-requires-2-clause-few
twins_of-requires-2-clause-few c =
    subst (λ (ss : List Sentence). length (labelled_sentences ss) < 4294967295)
    (sym (ap (λ (v : Conclusion). v.sentences) c.old.view_is))
    (few_kept c.args.old.now (subst KeptWell c.old.view_is c.old.invariant))

pub twins_of-requires-2-clause-meant : goal.twins_of-requires-2-clause-meant
twins_of-requires-2-clause-meant c =
    subst AllMeant (sym (ap (λ (v : Conclusion). v.sentences) c.new.view_is))
    (kept_meant c.args.new.now (subst KeptWell c.new.view_is c.new.invariant))

pub twins_of-requires-2-clause-renamed : goal.twins_of-requires-2-clause-renamed
twins_of-requires-2-clause-renamed c =
    let here = ap (λ (v : Conclusion). v.sentences) c.old.view_is in
    let there = ap (λ (v : Conclusion). v.sentences) c.new.view_is in
    let old : List Sentence = c.old.inside.book.statements in
    let new : List Sentence = c.new.inside.book.statements in
    let pairs : List (ℕ × ℕ) = map plain_renaming c.args.renamed.now in
    let own : AreRenamed old new pairs =
    subst (λ (ss : List Sentence). AreRenamed ss new pairs) (sym here)
    (subst (λ (ss : List Sentence). AreRenamed c.args.old.now.sentences ss pairs) (sym there)
    c.requires) in
    subst (λ (ps : List (ℕ × ℕ)). TellRenamed new old ps)
    (sym (ap (map plain_renaming) c.deref.ensures.value ∙ c.in_ok-turned.ensures))
    (turned_tells old new pairs (renamed_tells old new pairs own))

pub those_that_stay-requires : goal.those_that_stay-requires
those_that_stay-requires c = record {
  twins =
      rw (
        ap (λ (v : Conclusion). v.sentences) c.new.view_is,
        ap (λ (v : Conclusion). v.sentences) c.old.view_is,
        ← c.deref-2.ensures.value,
      ) at c.in_ok-twins.ensures;
}

pub those_unsettled-requires-clause-few : goal.those_unsettled-requires-clause-few
those_unsettled-requires-clause-few c =
    subst (λ (ss : List Sentence). length (labelled_sentences ss) < 4294967295)
    (sym (ap (λ (v : Conclusion). v.sentences) c.new.view_is))
    (few_kept c.args.new.now (subst KeptWell c.new.view_is c.new.invariant))

pub those_unsettled-requires-clause-twins : goal.those_unsettled-requires-clause-twins
those_unsettled-requires-clause-twins c =
    rw (← c.deref-3.ensures.value) at c.in_ok-twins.ensures

pub compare_sides-requires-clause-twins : goal.compare_sides-requires-clause-twins
compare_sides-requires-clause-twins c =
    rw (
      ap (λ (v : Conclusion). v.sentences) c.new.view_is,
      ap (λ (v : Conclusion). v.sentences) c.old.view_is,
    ) at c.in_ok-twins.ensures

pub compare_sides-requires-clause-old_twins : goal.compare_sides-requires-clause-old_twins
compare_sides-requires-clause-old_twins c =
    rw (
      ap (λ (v : Conclusion). v.sentences) c.old.view_is,
      ap (λ (v : Conclusion). v.sentences) c.new.view_is,
    ) at c.in_ok-old_twins.ensures

pub compare_sides-requires-clause-theorems : goal.compare_sides-requires-clause-theorems
compare_sides-requires-clause-theorems c =
    let here = ap (λ (v : Conclusion). v.sentences) c.new.view_is in
    let there = ap (λ (v : Conclusion). v.sentences) c.old.view_is in
    rw (here, there, ← c.deref-5.ensures.value) at
    (paired_unsettled c.new.inside.book.statements c.old.inside.book.statements
    c.in_ok-twins.twins.items c.in_ok-marks.marks.items (ids_in c.in_ok-ids.ids.items)
    c.in_ok-twins.ensures
    (rw (c.deref-3.ensures.value, c.deref-4.ensures.value) at c.in_ok-ids.ensures))

pub compare_sides-requires-clause-others : goal.compare_sides-requires-clause-others
compare_sides-requires-clause-others c =
    let here = ap (λ (v : Conclusion). v.sentences) c.new.view_is in
    let there = ap (λ (v : Conclusion). v.sentences) c.old.view_is in
    subst (λ (xs : List LabelId). AreOthersSettled c.args.old.now c.args.new.now (ids_in xs))
    (sym c.deref-5.ensures.value)
    (others_settled c.args.new.now c.args.old.now c.in_ok-twins.twins.items
    c.in_ok-old_twins.old_twins.items c.in_ok-marks.marks.items
    (rw (here, there) at c.in_ok-twins.ensures)
    (rw (there, here) at c.in_ok-old_twins.ensures)
    (rw c.deref-2.ensures.value at c.in_ok-marks.ensures) (ids_in c.in_ok-ids.ids.items)
    (rw (here, there, c.deref-3.ensures.value, c.deref-4.ensures.value) at c.in_ok-ids.ensures))

pub compare_sides-requires-clause-meant : goal.compare_sides-requires-clause-meant
compare_sides-requires-clause-meant c =
    kept_meant c.args.old.now (subst KeptWell c.old.view_is c.old.invariant)
