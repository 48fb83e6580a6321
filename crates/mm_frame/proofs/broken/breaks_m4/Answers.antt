use Rattle.std.proofs.Common.{rules, tests}
use Rattle.std.proofs.lemmas.Iterator.{YieldsList-from_slice}
use Rattle.mm_frame.proofs.Rules.RepeatedSymbols.{symbol_says, with_test}
use Rattle.mm_frame.proofs.broken.breaks_m4.Goals as goal

pub returns-then-eq-2 : goal.returns-then-eq-2
returns-then-eq-2 c =
    with_test _ (search (rules, tests)) (symbol_says _ _ _ _ c.any.ensures.ran
    (YieldsList-from_slice c.args.statement.now.symbols.items cc) (λ x b q k. search (rules, tests)))
