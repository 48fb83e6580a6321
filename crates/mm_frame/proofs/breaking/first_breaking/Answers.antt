use Rattle.std.proofs.Common.{arith, ap, length}
use Rattle.mm_frame.specs.Sentence.{sentence_in}
use Rattle.mm_frame.specs.Breaking.{SymbolBreaks}
use Rattle.mm_frame.specs.Mirror.Layout.{statements_of}
use Rattle.mm_frame.proofs.Rules.BreakingSymbols.{symbol_at, symbol_within, one_more_seen}
use Rattle.mm_frame.proofs.Rules.BreakingSymbols.{added_few, earlier_says, none_of_next}
use Rattle.mm_frame.proofs.breaking.first_breaking.Goals as goal

pub returns-then-symbol_breaks : goal.returns-then-symbol_breaks
returns-then-symbol_breaks c =
    let s = sentence_in c.args.statement.now in
    record {
      symbol = _;
      there = symbol_at c.args.statement.now _ c.loop-index.index _ c.deref-token-items.ensures.value c.loop-index-test.true;
      breaks = (c.symbol_breaks.ensures s (earlier_says s _ _ _ _ _ c.loop-index.invariant.seen c.is_some-repeats.ensures c.find.ensures)).0 c.if-symbol_breaks.true;
      first = c.loop-index.invariant.none;
    }

pub loop-index-preserved : goal.loop-index-preserved
loop-index-preserved c =
    let s = sentence_in c.args.statement.now in
    let there = symbol_at c.args.statement.now _ c.loop-index.index _ c.deref-token-items.ensures.value c.loop-index-test.true in
    let says = c.symbol_breaks.ensures s (earlier_says s _ _ _ _ _ c.loop-index.invariant.seen c.is_some-repeats.ensures c.find.ensures) in
    record {
      seen = rw c.add.ensures.names (one_more_seen s.symbols _ _ _ there c.loop-index.invariant.seen);
      few = rw c.add.ensures.names (added_few _ _ _ c.loop-index.invariant.few);
      room = omega arith;
      none = none_of_next (SymbolBreaks c.args.rule (statements_of c.args.tables.now) s) s.symbols _ _ there c.loop-index.invariant.none
          (λ breaks. absurd (let t = says.1 breaks in let f = c.if-symbol_breaks.false in cc));
    }

pub returns : goal.returns
returns c index x there =
    c.loop-index.invariant.none index x
    (let lt = symbol_within c.args.statement.now index x there in
    let e = ap length c.deref-token-items.ensures.value in let f = c.loop-index-test.false in omega arith) there
