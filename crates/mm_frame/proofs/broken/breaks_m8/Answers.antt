use Rattle.std.proofs.Common.{rules, ◌≡◌, inl, tests}
use Rattle.std.proofs.lemmas.Iterator.{YieldsList-from_slice}
use Rattle.mm_base.specs.declared.statement.Kind.TheVariants.{Distinct}
use Rattle.mm_frame.specs.Mirror.Layout.{statements_of}
use Rattle.mm_frame.specs.Sentence.{sentence_in}
use Rattle.mm_frame.proofs.Rules.RepeatedSymbols.{with_test}
use Rattle.mm_frame.proofs.Rules.SymbolLookups.{number_says, constant_by_number}
use Rattle.mm_frame.proofs.broken.breaks_m8.Goals as goal

pub returns-then-eq : goal.returns-then-eq
returns-then-eq c =
    let before = statements_of c.args.tables.now in
    let kind : c.args.statement.now.kind ≡ Distinct = search (rules, tests) in
    with_test _ kind (number_says before (sentence_in c.args.statement.now).symbols _ _ _ _ _ c.any.ensures.ran (YieldsList-from_slice c.args.numbers.now cc) (c.requires.numbers.sought (inl kind))
    (λ x n sought. constant_by_number before x n sought) (λ n b q k. search (rules, tests)))
