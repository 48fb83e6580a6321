use Rattle.mm_frame.proofs.BookLists.ReadLabels.{label_at}
use Rattle.mm_frame.proofs.reads.label_text.Goals as goal

pub returns : goal.returns
returns c index s numbered =
    let (l, at, named) = label_at _ _ _ _ c.requires.tables numbered in
    let read = rw c.in-Some.is at c.name.ensures in
    cc

pub unreachable-requires : goal.unreachable-requires
unreachable-requires c =
    let (l, at, named) = label_at _ _ _ _ c.requires.tables c.requires.known.2 in
    let read = rw c.in-None.is at c.name.ensures in
    cc
