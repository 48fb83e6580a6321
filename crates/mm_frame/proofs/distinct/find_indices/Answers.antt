use Rattle.std.proofs.Common.{refl, ◌∙◌, take_all}
use Rattle.std.proofs.lemmas.Option.{slice_get-get_or}
use Rattle.mm_frame.proofs.Frames.MandatoryPairs.{indexed_variables_more}
use Rattle.mm_frame.specs.Pieces.{variables_of, HasIndices}
use Rattle.mm_frame.proofs.Names.NameNumbers.{each_pushed}
use Rattle.mm_frame.proofs.distinct.find_indices.Goals as goal

pub loop-pair-preserved : goal.loop-pair-preserved
loop-pair-preserved c = record {
  variables = rw c.in_ok-push.ensures.items (indexed_variables_more c.args.pairs.now c.loop-pair.pair-index _ c.loop-pair.indexed.items _ c.loop-pair-test.true c.loop-pair.invariant.variables refl);
  indices = rw c.in_ok-push.ensures.items
      (each_pushed (HasIndices (variables_of c.args.hypotheses.now)) c.loop-pair.indexed.items _ c.loop-pair.invariant.indices (c.index_among.ensures, c.index_among-in-loop-pair.ensures));
}

pub returns-clause-variables : goal.returns-clause-variables
returns-clause-variables c = c.loop-pair.invariant.variables ∙ take_all c.loop-pair.pair-index c.args.pairs.now c.loop-pair-test.false

pub index_among-requires-clause-there : goal.index_among-requires-clause-there
index_among-requires-clause-there c =
    (c.requires.among c.loop-pair.pair-index _ (slice_get-get_or c.args.pairs.now c.loop-pair.pair-index _ c.loop-pair-test.true)).0

pub index_among-requires-in-loop-pair-clause-there : goal.index_among-requires-in-loop-pair-clause-there
index_among-requires-in-loop-pair-clause-there c =
    (c.requires.among c.loop-pair.pair-index _ (slice_get-get_or c.args.pairs.now c.loop-pair.pair-index _ c.loop-pair-test.true)).1
