use Rattle.mm_frame.proofs.BookLists.ReadLabels.{frame_pairs, mandatory_indices, no_info}
use Rattle.mm_frame.proofs.reads.label_pairs.Goals as goal

pub returns-clause-variables : goal.returns-clause-variables
returns-clause-variables c index s numbered asserts =
    frame_pairs _ _ _ _ _ c.requires.tables numbered asserts
    (rw c.in-Some.is at c.label_info.ensures) _ (rw c.deref.ensures.value at c.part_of.ensures)

pub returns-clause-indices : goal.returns-clause-indices
returns-clause-indices c index s numbered asserts =
    mandatory_indices _ _ _ _ _ c.requires.tables numbered asserts
    (rw c.in-Some.is at c.label_info.ensures) _ (rw c.deref.ensures.value at c.part_of.ensures)

pub unreachable-requires : goal.unreachable-requires
unreachable-requires c = no_info _ _ _ _ c.requires.tables c.requires.assertion.2
    (rw c.in-None.is at c.label_info.ensures)
