use Rattle.std.proofs.Common.{arith}
use Rattle.std.proofs.lemmas.Option.{slice_get-get_or}
use Rattle.mm_frame.proofs.Frames.VariableIndices.{variables_counted}
use Rattle.mm_step.proofs.ByNumbers.SharedVariables.{no_pair}
use Rattle.mm_step.proofs.pairs.takes_many.Goals as goal

pub value_at-e-requires-clause-entry : goal.value_at-e-requires-clause-entry
value_at-e-requires-clause-entry g c =
    let indexed = c.requires.indices _ _ (slice_get-get_or _ _ no_pair c.loop-pair-test.true) in
    omega (arith, variables_counted c.args.signature.now.hypotheses.now)

pub value_at-f-requires-clause-entry : goal.value_at-f-requires-clause-entry
value_at-f-requires-clause-entry g c =
    let indexed = c.requires.indices _ _ (slice_get-get_or _ _ no_pair c.loop-pair-test.true) in
    omega (arith, variables_counted c.args.signature.now.hypotheses.now)
