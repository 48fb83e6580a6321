use Rattle.std.proofs.Common.{drop, arith}
use Rattle.std.proofs.lemmas.Option.{slice_get-get_or}
use Rattle.mm_frame.specs.Pieces.{variables_of}
use Rattle.mm_frame.proofs.Frames.VariableIndices.{variables_counted}
use Rattle.mm_step.specs.Mirror.CodeVerify.{value_of}
use Rattle.mm_step.proofs.ByNumbers.SharedVariables.{pair_at, no_pair}
use Rattle.mm_distinct.proofs.LackingPairs.FoundPairs.{found_more}
use Rattle.mm_distinct.proofs.lacking.add_of_each.Goals as goal

pub add_of_pair-requires-clause-first : goal.add_of_pair-requires-clause-first
add_of_pair-requires-clause-first g c =
    let indexed = c.requires.indices _ _ (slice_get-get_or _ _ no_pair c.loop-pair-test.true) in
    omega (arith, variables_counted c.args.signature.now.hypotheses.now)

pub add_of_pair-requires-clause-second : goal.add_of_pair-requires-clause-second
add_of_pair-requires-clause-second g c =
    let indexed = c.requires.indices _ _ (slice_get-get_or _ _ no_pair c.loop-pair-test.true) in
    omega (arith, variables_counted c.args.signature.now.hypotheses.now)

pub loop-pair-preserved : goal.loop-pair-preserved
loop-pair-preserved g c =
    let indexed = c.requires.indices _ _ (slice_get-get_or _ _ no_pair c.loop-pair-test.true) in
    found_more _ _ (value_of (variables_of c.args.signature.now.hypotheses.now)
    (drop c.args.base (g.S.Store.stack c.args.store.now))) _ c.loop-pair.pair-index _ _ _ _
    (pair_at _ _ no_pair c.loop-pair-test.true)
    (c.in_ok-add_of_pair.ensures _ indexed) c.loop-pair.invariant
