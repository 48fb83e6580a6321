use Rattle.std.proofs.Common.{rules, inl, inr, tests}
use Rattle.std.proofs.lemmas.Iterator.{YieldsList-from_slice}
use Rattle.mm_frame.specs.Sentence.{sentence_in, StandsTwice}
use Rattle.mm_frame.proofs.Rules.RepeatedSymbols.{symbol_says, with_test, none_twice, not_so}
use Rattle.mm_frame.proofs.broken.breaks_m3.Goals as goal

pub returns-else-repeats : goal.returns-else-repeats
returns-else-repeats c =
    let symbols = (sentence_in c.args.statement.now).symbols in
    let told = c.requires.told.told (inr (inl (search (rules, tests)))) in
    with_test _ (search (rules, tests)) (none_twice symbols _ _ (StandsTwice symbols) _
    (not_so c.args.repeats (search rules) told) (symbol_says _ _ _ _ c.any.ensures.ran
    (YieldsList-from_slice c.args.statement.now.symbols.items cc)
    (λ x b q k. search (rules, tests))))
