use Rattle.mm_frame.proofs.BookLists.ReadLabels.{same_index, no_info}
use Rattle.mm_frame.proofs.reads.label_index.Goals as goal

pub returns : goal.returns
returns c index s numbered =
    same_index _ _ _ _ c.requires.tables numbered _ (rw c.in-Some.is at c.label_info.ensures)

pub unreachable-requires : goal.unreachable-requires
unreachable-requires c =
    no_info _ _ _ _ c.requires.tables c.requires.known.2 (rw c.in-None.is at c.label_info.ensures)
