use Rattle.std.proofs.Common.{drop}
use Rattle.std.proofs.lemmas.Result.{on_ok_weaker}
use Rattle.mm_frame.specs.Pieces.{variables_of}
use Rattle.mm_step.specs.Mirror.CodeVerify.{pairs_in}
use Rattle.mm_distinct.proofs.LackingPairs.FoundPairs.{found_of_rows}
use Rattle.mm_distinct.proofs.lacking.add_of_pairs.Goals as goal

pub returns : goal.returns
returns g c = on_ok_weaker c.add_of_each.result
    (found_of_rows c.args.book.now.statements c.args.own.now.index
    (variables_of c.args.signature.now.hypotheses.now)
    (drop c.args.base (g.S.Store.stack c.args.store.now)) _ (pairs_in c.args.signature.now.pairs.now)
    _ _ c.in_ok-entries.ensures) c.add_of_each.ensures
