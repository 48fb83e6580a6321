use Rattle.mm_frame.proofs.Rules.SymbolLookups.{label_number, found_says, both_ways, turned}
use Rattle.mm_frame.proofs.lookups.is_label.Goals as goal

pub returns : goal.returns
returns c =
    let found = found_says _ _ c.find.result c.find.ensures in
    both_ways (rw c.is_some.ensures found) (turned (label_number _ _ _ c.requires.labels.all))
