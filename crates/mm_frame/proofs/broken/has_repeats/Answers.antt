use Rattle.std.proofs.Common.{rules, arith}
use Rattle.mm_frame.proofs.Names.NameNumbers.{once_with_name}
use Rattle.mm_frame.proofs.Rules.RepeatedSymbols.{found_again, new_name}
use Rattle.mm_frame.proofs.broken.has_repeats.Goals as goal

pub returns-then-is_some : goal.returns-then-is_some
returns-then-is_some c = (
  (λ t. found_again c.args.symbols.now c.loop-token.token-index _ c.loop-token.seen.names c.find.result c.is_some.result (search rules) c.loop-token.invariant.names
      (search rules) (search rules) c.find.ensures),
  (λ twice. search rules),
)

pub loop-token-preserved : goal.loop-token-preserved
loop-token-preserved c = record {
  names = rw c.add.ensures.names (new_name c.args.symbols.now c.loop-token.token-index _ c.loop-token.seen.names c.find.result c.is_some.result (search rules)
      c.loop-token.invariant.names (search rules) (search rules) c.find.ensures);
  once = rw c.add.ensures.names (once_with_name _ _ c.loop-token.invariant.once);
  room = omega arith;
}
