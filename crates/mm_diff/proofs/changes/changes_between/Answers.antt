-- The labels are few, and what is told of each is told of all.
use Rattle.std.proofs.Common.{◌<◌, List, length, sym, ap, subst}
use Rattle.mm_frame.specs.Numbers.{labelled_sentences}
use Rattle.mm_frame.specs.Rules.{AllMeant}
use Rattle.mm_frame.specs.Sentence.{Sentence}
use Rattle.mm_rules.specs.Conclusion.{Conclusion}
use Rattle.mm_verdict.proofs.Verdicts.AcceptedStatements.{KeptWell}
use Rattle.mm_alike.proofs.CheckedTheorems.{few_kept, kept_meant}
use Rattle.mm_diff.proofs.DiffReplies.{changes_told, changes_within}
use Rattle.mm_diff.proofs.changes.changes_between.Goals as goal

pub labels_between-requires-clause-old : goal.labels_between-requires-clause-old
labels_between-requires-clause-old c =
    subst (λ (ss : List Sentence). length (labelled_sentences ss) < 4294967295)
    (sym (ap (λ (v : Conclusion). v.sentences) c.old.view_is))
    (few_kept c.args.old.now (subst KeptWell c.old.view_is c.old.invariant))

pub labels_between-requires-clause-new : goal.labels_between-requires-clause-new
labels_between-requires-clause-new c =
    subst (λ (ss : List Sentence). length (labelled_sentences ss) < 4294967295)
    (sym (ap (λ (v : Conclusion). v.sentences) c.new.view_is))
    (few_kept c.args.new.now (subst KeptWell c.new.view_is c.new.invariant))

pub those_that_differ-requires : goal.those_that_differ-requires
those_that_differ-requires c =
    subst (λ (ss : List Sentence). length (labelled_sentences ss) < 4294967295)
    (sym (ap (λ (v : Conclusion). v.sentences) c.new.view_is))
    (few_kept c.args.new.now (subst KeptWell c.new.view_is c.new.invariant))

pub those_moved-requires-clause-old : goal.those_moved-requires-clause-old
those_moved-requires-clause-old c =
    subst (λ (ss : List Sentence). length (labelled_sentences ss) < 4294967295)
    (sym (ap (λ (v : Conclusion). v.sentences) c.old.view_is))
    (few_kept c.args.old.now (subst KeptWell c.old.view_is c.old.invariant))

pub those_moved-requires-clause-new : goal.those_moved-requires-clause-new
those_moved-requires-clause-new c =
    subst (λ (ss : List Sentence). length (labelled_sentences ss) < 4294967295)
    (sym (ap (λ (v : Conclusion). v.sentences) c.new.view_is))
    (few_kept c.args.new.now (subst KeptWell c.new.view_is c.new.invariant))

pub those_moved-requires-clause-old_meant : goal.those_moved-requires-clause-old_meant
those_moved-requires-clause-old_meant c =
    subst AllMeant (sym (ap (λ (v : Conclusion). v.sentences) c.old.view_is))
    (kept_meant c.args.old.now (subst KeptWell c.old.view_is c.old.invariant))

pub those_moved-requires-clause-new_meant : goal.those_moved-requires-clause-new_meant
those_moved-requires-clause-new_meant c =
    subst AllMeant (sym (ap (λ (v : Conclusion). v.sentences) c.new.view_is))
    (kept_meant c.args.new.now (subst KeptWell c.new.view_is c.new.invariant))

pub dependences_between-requires : goal.dependences_between-requires
dependences_between-requires c =
    rw (
      ap (λ (v : Conclusion). v.sentences) c.old.view_is,
      ap (λ (v : Conclusion). v.sentences) c.new.view_is,
      ← c.deref.ensures.value,
    ) at c.in_ok-labels.ensures.renamed

pub returns-clause-changes : goal.returns-clause-changes
returns-clause-changes c =
    let here = ap (λ (v : Conclusion). v.sentences) c.old.view_is in
    let there = ap (λ (v : Conclusion). v.sentences) c.new.view_is in
    changes_told c.args.old.now c.args.new.now _ (subst KeptWell c.old.view_is c.old.invariant)
    (subst KeptWell c.new.view_is c.new.invariant) (record {
      are_gone = rw (here, there) at c.in_ok-labels.ensures.gone;
      are_added = rw (here, there) at c.in_ok-labels.ensures.added;
      are_changed = rw (here, there) at c.in_ok-changed.ensures;
      are_reproved = c.in_ok-reproved.ensures;
      are_renamed = rw (here, there) at c.in_ok-labels.ensures.renamed;
      are_moved = rw (here, there) at c.in_ok-moved.ensures;
      are_further = c.in_ok-dependences.ensures.further;
      are_less = c.in_ok-dependences.ensures.less;
    })

pub returns-clause-within : goal.returns-clause-within
returns-clause-within c =
    let here = ap (λ (v : Conclusion). v.sentences) c.old.view_is in
    let there = ap (λ (v : Conclusion). v.sentences) c.new.view_is in
    changes_within c.args.old.now c.args.new.now _ (subst KeptWell c.old.view_is c.old.invariant)
    (subst KeptWell c.new.view_is c.new.invariant) (record {
      are_gone = rw (here, there) at c.in_ok-labels.ensures.gone;
      are_added = rw (here, there) at c.in_ok-labels.ensures.added;
      are_changed = rw (here, there) at c.in_ok-changed.ensures;
      are_reproved = c.in_ok-reproved.ensures;
      are_renamed = rw (here, there) at c.in_ok-labels.ensures.renamed;
      are_moved = rw (here, there) at c.in_ok-moved.ensures;
      are_further = c.in_ok-dependences.ensures.further;
      are_less = c.in_ok-dependences.ensures.less;
    })
