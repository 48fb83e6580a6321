use Rattle.mm_frame.proofs.Rules.SymbolLookups.{numbers_at}
use Rattle.mm_frame.proofs.BookLists.ReadLabels.{info_entry, no_info}
use Rattle.mm_frame.proofs.reads.label_symbols.Goals as goal

pub returns : goal.returns
returns c index s numbered =
    let t = c.args.tables.now in
    let (e, at_entry, kind, symbols) = info_entry _ _ _ _ c.requires.tables numbered _
    (rw c.in-Some.is at c.label_info.ensures) in
    numbers_at t.symbols.names t.labels.names t.flat.items t.log.items index e s c.part_of.result.now c.requires.tables.infos.all c.requires.tables.entries at_entry
    (rw symbols (rw c.deref.ensures.value at c.part_of.ensures)) numbered.there

pub unreachable-requires : goal.unreachable-requires
unreachable-requires c =
    no_info _ _ _ _ c.requires.tables c.requires.known.2 (rw c.in-None.is at c.label_info.ensures)
