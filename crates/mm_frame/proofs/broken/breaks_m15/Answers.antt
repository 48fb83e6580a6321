use Rattle.std.proofs.Common.{rules, inr, tests}
use Rattle.std.proofs.lemmas.Iterator.{YieldsList-from_slice}
use Rattle.mm_frame.specs.Mirror.Layout.{statements_of}
use Rattle.mm_frame.specs.Sentence.{sentence_in}
use Rattle.mm_frame.proofs.Rules.RepeatedSymbols.{with_test}
use Rattle.mm_frame.proofs.Rules.SymbolLookups.{number_says, variable_by_number, typed_by_number}
use Rattle.mm_frame.proofs.Rules.SymbolLookups.{neither, both}
use Rattle.mm_frame.proofs.broken.breaks_m15.Goals as goal

pub returns-then-is_stated : goal.returns-then-is_stated
returns-then-is_stated c =
    let before = statements_of c.args.tables.now in
    let stated = c.is_stated.ensures.0 c.if-is_stated.true in
    with_test _ stated (number_says before (sentence_in c.args.statement.now).symbols _ _ _ _ _ c.any.ensures.ran (YieldsList-from_slice c.args.numbers.now cc)
    (c.requires.numbers.sought (inr (inr stated)))
    (λ x n sought. both (variable_by_number before x n sought) (neither (typed_by_number before x n c.requires.tables.sound.0 sought))) (λ n b q k. search (rules, tests)))
