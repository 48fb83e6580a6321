use Rattle.mm_frame.proofs.BookLists.ReadLabels.{frame_hypotheses, frame_typings, few_hypotheses}
use Rattle.mm_frame.proofs.BookLists.ReadLabels.{no_info, frame_patterns}
use Rattle.mm_frame.proofs.reads.label_hypotheses.Goals as goal

pub returns-clause-ids : goal.returns-clause-ids
returns-clause-ids c index s numbered asserts =
    frame_hypotheses _ _ _ _ _ c.requires.tables numbered asserts
    (rw c.in-Some.is at c.label_info.ensures) _ (rw c.deref.ensures.value at c.part_of.ensures)

pub returns-clause-typed : goal.returns-clause-typed
returns-clause-typed c index s numbered asserts =
    frame_typings _ _ _ _ _ c.requires.tables numbered asserts
    (rw c.in-Some.is at c.label_info.ensures) _ (rw c.deref.ensures.value at c.part_of.ensures)

pub returns-clause-few : goal.returns-clause-few
returns-clause-few c index s numbered asserts =
    few_hypotheses _ index _ c.requires.tables
    (frame_hypotheses _ _ _ _ _ c.requires.tables numbered asserts
    (rw c.in-Some.is at c.label_info.ensures) _ (rw c.deref.ensures.value at c.part_of.ensures))

pub returns-clause-patterns : goal.returns-clause-patterns
returns-clause-patterns c index s numbered asserts =
    frame_patterns _ _ _ _ _ c.requires.tables numbered asserts
    (rw c.in-Some.is at c.label_info.ensures) _ (rw c.deref.ensures.value at c.part_of.ensures)

pub unreachable-requires : goal.unreachable-requires
unreachable-requires c = no_info _ _ _ _ c.requires.tables c.requires.assertion.2
    (rw c.in-None.is at c.label_info.ensures)
