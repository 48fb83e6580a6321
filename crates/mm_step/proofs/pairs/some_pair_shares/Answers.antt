use Rattle.std.proofs.Common.{drop, arith}
use Rattle.std.proofs.lemmas.Option.{slice_get_within, slice_get-get_or}
use Rattle.mm_frame.specs.Pieces.{variables_of}
use Rattle.mm_frame.proofs.Frames.VariableIndices.{variables_counted}
use Rattle.mm_step.specs.Mirror.CodeVerify.{value_of}
use Rattle.mm_step.proofs.ByNumbers.SharedVariables.{pair_at, pairs_more, pairs_length, no_pair}
use Rattle.mm_step.proofs.pairs.some_pair_shares.Goals as goal

pub is_shared_pair-requires-clause-first : goal.is_shared_pair-requires-clause-first
is_shared_pair-requires-clause-first g c =
    let indexed = c.requires.indices _ _ (slice_get-get_or _ _ no_pair c.loop-pair-test.true) in
    omega (arith, variables_counted c.args.signature.now.hypotheses.now)

pub is_shared_pair-requires-clause-second : goal.is_shared_pair-requires-clause-second
is_shared_pair-requires-clause-second g c =
    let indexed = c.requires.indices _ _ (slice_get-get_or _ _ no_pair c.loop-pair-test.true) in
    omega (arith, variables_counted c.args.signature.now.hypotheses.now)

pub returns-then-is_shared_pair : goal.returns-then-is_shared_pair
returns-then-is_shared_pair g c =
    let indexed = c.requires.indices _ _ (slice_get-get_or _ _ no_pair c.loop-pair-test.true) in
    (_, _, pair_at _ _ no_pair c.loop-pair-test.true, c.if-is_shared_pair.ensures _ indexed)

pub loop-pair-preserved : goal.loop-pair-preserved
loop-pair-preserved g c =
    let indexed = c.requires.indices _ _ (slice_get-get_or _ _ no_pair c.loop-pair-test.true) in
    let values = value_of (variables_of c.args.signature.now.hypotheses.now)
    (drop c.args.base (g.S.Store.stack c.args.store.now)) in
    pairs_more values _ _ _ no_pair c.loop-pair-test.true c.loop-pair.invariant
    (c.if-is_shared_pair.ensures _ indexed)

pub returns : goal.returns
returns g c k p at =
    let within = slice_get_within _ k p at in
    c.loop-pair.invariant k p (omega (arith, pairs_length c.args.signature.now.pairs.now)) at
