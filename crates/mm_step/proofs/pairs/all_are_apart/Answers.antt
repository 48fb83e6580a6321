use Rattle.std.proofs.Common.{drop}
use Rattle.mm_frame.specs.Pieces.{variables_of}
use Rattle.mm_step.specs.Mirror.CodeVerify.{pairs_in}
use Rattle.mm_step.proofs.ByNumbers.EntryVariables.{rows_symbols, apart_of_variables, each_told}
use Rattle.mm_step.proofs.pairs.all_are_apart.Goals as goal

pub each_pair_is_disjoint-requires-clause-symbols : goal.each_pair_is_disjoint-requires-clause-symbols
each_pair_is_disjoint-requires-clause-symbols g c =
    rows_symbols _ _ (drop c.args.base (g.S.Store.stack c.args.store.now)) _ c.in-Some.ensures
    c.requires.symbols

pub returns-in-Some : goal.returns-in-Some
returns-in-Some g c =
    let st = c.args.book.now.statements in
    let index = c.args.own.now.index in
    each_told st index _ (apart_of_variables st index)
    (variables_of c.args.signature.now.hypotheses.now)
    (drop c.args.base (g.S.Store.stack c.args.store.now)) _ (pairs_in c.args.signature.now.pairs.now)
    c.in-Some.ensures c.requires.symbols _ c.each_pair_is_disjoint.ensures
