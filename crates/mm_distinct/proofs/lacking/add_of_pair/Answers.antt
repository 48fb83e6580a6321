use Rattle.std.proofs.Common.{◌<◌, length, drop, arith}
use Rattle.std.proofs.lemmas.List.{length-drop}
use Rattle.std.proofs.lemmas.Result.{on_ok_weaker}
use Rattle.mm_step.specs.Mirror.CodeVerify.{value_of}
use Rattle.mm_step.proofs.ByNumbers.NumberedSymbols.{value_placed}
use Rattle.mm_distinct.proofs.LackingPairs.FoundPairs.{found_of_pair}
use Rattle.mm_distinct.proofs.lacking.add_of_pair.Goals as goal

pub returns : goal.returns
returns g c = on_ok_weaker c.add_between.result (λ adds variables indexed.
    let stack = g.S.Store.stack c.args.store.now in
    let es = drop c.args.base stack in
    let first : c.args.pair.indices.0 < length es =
    omega (arith, length-drop c.args.base stack, c.requires.first) in
    let second : c.args.pair.indices.1 < length es =
    omega (arith, length-drop c.args.base stack, c.requires.second) in
    found_of_pair _ _ (value_of variables es) _ _ _ _ _ _
    (value_placed _ variables es _ _ indexed.0 first c.value_at-e.ensures)
    (value_placed _ variables es _ _ indexed.1 second c.value_at-f.ensures)
    adds) c.add_between.ensures
