use Rattle.std.proofs.Common.{rules, tests}
use Rattle.std.proofs.lemmas.Iterator.{YieldsList-from_slice}
use Rattle.mm_frame.specs.Mirror.Layout.{statements_of}
use Rattle.mm_frame.specs.Sentence.{sentence_in}
use Rattle.mm_frame.proofs.Rules.RepeatedSymbols.{with_test}
use Rattle.mm_frame.proofs.Rules.SymbolLookups.{number_says, active_by_number, neither}
use Rattle.mm_frame.proofs.broken.breaks_m7.Goals as goal

pub returns-then-is_use : goal.returns-then-is_use
returns-then-is_use c =
    let before = statements_of c.args.tables.now in
    let used = c.is_use.ensures.0 c.if-is_use.true in
    with_test _ used (number_says before (sentence_in c.args.statement.now).symbols _ _ _ _ _ c.any.ensures.ran (YieldsList-from_slice c.args.numbers.now cc) (c.requires.numbers.sought used)
    (λ x n sought. neither (active_by_number before x n sought)) (λ n b q k. search (rules, tests)))
