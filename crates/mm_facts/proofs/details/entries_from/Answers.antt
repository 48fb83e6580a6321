-- One entry more.
use Rattle.mm_facts.proofs.AskedDetails.{entry_pushed}
use Rattle.mm_facts.proofs.details.entries_from.Goals as goal

pub loop-index-preserved : goal.loop-index-preserved
loop-index-preserved c =
    entry_pushed c.args.halt.now c.args.base c.loop-index.index c.loop-index.entries.items c.push.new.self.items c.entry.result
    c.in_ok-push.ensures.items c.loop-index.invariant.0 c.loop-index.invariant.1 c.entry.ensures.entry
