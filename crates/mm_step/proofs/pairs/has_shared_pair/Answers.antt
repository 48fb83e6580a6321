use Rattle.std.proofs.Common.{drop}
use Rattle.mm_frame.specs.Pieces.{variables_of}
use Rattle.mm_step.specs.Mirror.CodeVerify.{pairs_in}
use Rattle.mm_step.proofs.ByNumbers.EntryVariables.{rows_symbols, share_of_variables, some_told}
use Rattle.mm_step.proofs.pairs.has_shared_pair.Goals as goal

pub some_pair_shares-requires-clause-symbols : goal.some_pair_shares-requires-clause-symbols
some_pair_shares-requires-clause-symbols g c =
    rows_symbols _ _ (drop c.args.base (g.S.Store.stack c.args.store.now)) _ c.in-Some.ensures
    c.requires.symbols

pub returns-in-Some : goal.returns-in-Some
returns-in-Some g c =
    let st = c.args.book.now.statements in
    let index = c.args.own.now.index in
    some_told st index _ (share_of_variables st index)
    (variables_of c.args.signature.now.hypotheses.now)
    (drop c.args.base (g.S.Store.stack c.args.store.now)) _ (pairs_in c.args.signature.now.pairs.now)
    c.in-Some.ensures c.requires.symbols _ c.some_pair_shares.ensures
