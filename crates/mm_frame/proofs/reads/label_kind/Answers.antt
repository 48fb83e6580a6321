use Rattle.std.proofs.Common.{◌∙◌}
use Rattle.mm_frame.proofs.BookLists.ReadLabels.{info_kind, no_info}
use Rattle.mm_frame.proofs.reads.label_kind.Goals as goal

pub kind_of-requires : goal.kind_of-requires
kind_of-requires c =
    let (l, same, has) = info_kind _ _ _ _ c.requires.tables c.requires.known.2 _
    (rw c.in-Some.is at c.label_info.ensures) in
    (l, has)

pub returns : goal.returns
returns c index s numbered =
    let (l, same, has) = info_kind _ _ _ _ c.requires.tables numbered _
    (rw c.in-Some.is at c.label_info.ensures) in
    same ∙ c.kind_of.ensures

pub unreachable-requires : goal.unreachable-requires
unreachable-requires c =
    no_info _ _ _ _ c.requires.tables c.requires.known.2 (rw c.in-None.is at c.label_info.ensures)
