use Rattle.std.proofs.Common.{slice_index_or, ap, ◌∙◌, ◌++◌}
use Rattle.mm_frame.specs.Mirror.Gathered.{floatings}
use Rattle.mm_frame.proofs.Frames.MandatoryHypotheses.{gathered_first, gathered_step}
use Rattle.std.proofs.lemmas.Option.{slice_get-get_or}
use Rattle.mm_frame.proofs.Rules.SymbolLookups.{entry_within}
use Rattle.mm_frame.proofs.framing.find_unsorted.Goals as goal

pub loop-index-init : goal.loop-index-init
loop-index-init c s numbers =
    let t = c.args.tables.now in
    let indices = c.in_ok-add_floating.ensures ∙ ap (λ xs. xs ++ floatings t.infos.items c.args.expression.now) c.clear.ensures.items in
    rw indices (gathered_first _ _ _ c.args.expression.now s c.requires.infos numbers)

pub symbols_at-requires-clause-within : goal.symbols_at-requires-clause-within
symbols_at-requires-clause-within c =
    let items = c.deref-index-items.result.now in
    let i = c.loop-index.index-index in
    let read = slice_get-get_or items i 0 c.loop-index-test.true in
    let (e, said, kind, active) = c.requires.essentials.only i (slice_index_or items i 0)
    (rw (← c.deref-index-items.ensures.value) read) in
    entry_within c.args.tables.now _ e said

pub loop-index-preserved : goal.loop-index-preserved
loop-index-preserved c s numbers =
    gathered_step _ c.symbols_at.result.now _ c.requires.infos _ _ c.loop-index.index-index
    c.push.new.self.items c.add_floating-in-loop-index.new.indices.items c.requires.essentials
    c.deref-index-items.ensures.value c.loop-index-test.true c.symbols_at.ensures
    c.in_ok-push.ensures.items c.in_ok-add_floating-2.ensures (c.loop-index.invariant s numbers)
