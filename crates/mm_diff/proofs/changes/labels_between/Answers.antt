-- The lists are those of the labels that stand alone.
use Rattle.mm_diff.proofs.changes.labels_between.Goals as goal

pub those_missing-requires-clause-alone : goal.those_missing-requires-clause-alone
those_missing-requires-clause-alone c = rw c.deref.ensures.value c.in_ok-without.ensures

pub those_missing-requires-clause-others : goal.those_missing-requires-clause-others
those_missing-requires-clause-others c = rw c.deref-2.ensures.value c.in_ok-fresh.ensures

pub those_missing-requires-2-clause-alone : goal.those_missing-requires-2-clause-alone
those_missing-requires-2-clause-alone c = rw c.deref-3.ensures.value c.in_ok-fresh.ensures

pub those_missing-requires-2-clause-others : goal.those_missing-requires-2-clause-others
those_missing-requires-2-clause-others c = rw c.deref-4.ensures.value c.in_ok-without.ensures

pub those_renamed-requires-clause-alone : goal.those_renamed-requires-clause-alone
those_renamed-requires-clause-alone c = rw c.deref-5.ensures.value c.in_ok-fresh.ensures

pub those_renamed-requires-clause-others : goal.those_renamed-requires-clause-others
those_renamed-requires-clause-others c = rw c.deref-6.ensures.value c.in_ok-without.ensures
