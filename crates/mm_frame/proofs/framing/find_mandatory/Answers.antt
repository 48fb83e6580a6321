use Rattle.std.proofs.Common.{eqb}
use Rattle.std.proofs.lemmas.List.Filters.{dedup_is}
use Rattle.mm_frame.proofs.Frames.MandatoryHypotheses.{gathered_sorted, indices_gathered}
use Rattle.mm_frame.proofs.framing.find_mandatory.Goals as goal

pub returns : goal.returns
returns c s meant stated numbers =
    let sorted = c.sort_unstable.new.self.items in
    let once = c.dedup.new.self.items in
    let (rising, gathered) = gathered_sorted _ _ _ _ sorted once (c.in_ok-find_unsorted.ensures s numbers) c.sort_unstable.ensures.permutation c.sort_unstable.ensures.sorted
    (dedup_is eqb sorted once c.dedup.ensures.filtered) in
    indices_gathered _ _ _ _ c.requires.sound.0 meant stated c.requires.essentials rising gathered
