-- One more pair is among the others.
use Rattle.std.proofs.Common.{ℕ, refl, sym, ◌∙◌}
use Rattle.std.proofs.lemmas.Bool.{false≢true}
use Rattle.mm_frame.specs.declared.distinct.DistinctPair.{DistinctPair}
use Rattle.mm_alike.specs.Mirror.Names.{IsPairAmong, numbers_of_pairs}
use Rattle.mm_alike.proofs.AlikeLists.{each_next, each_whole, mapped_there}
use Rattle.mm_alike.proofs.ComparedPairs.{pair_at}
use Rattle.mm_alike.proofs.pairs.are_pairs_among.Goals as goal

pub is_pair_among-requires-clause-pair : goal.is_pair_among-requires-clause-pair
is_pair_among-requires-clause-pair c =
    pair_at c.args.old.now.statements c.args.pairs.now c.loop-pair.pair-index _ c.requires.pairs
    c.loop-pair-test.true

pub loop-pair-preserved : goal.loop-pair-preserved
loop-pair-preserved c =
    each_next (λ (p : DistinctPair). (p.variables.0.0, p.variables.1.0))
    (λ (p : ℕ × ℕ). IsPairAmong c.args.old.now.statements c.args.new.now.statements p
    (numbers_of_pairs c.args.others.now)) c.args.pairs.now c.loop-pair.pair-index _
    c.loop-pair-test.true c.loop-pair.invariant
    (c.is_pair_among.ensures.0 c.if-not-is_pair_among.false)

pub returns-then-not-is_pair_among : goal.returns-then-not-is_pair_among
returns-then-not-is_pair_among c = (
  (λ t. absurd (false≢true t)),
  (λ all. absurd (false≢true (sym c.if-not-is_pair_among.true
      ∙ c.is_pair_among.ensures.1 (all _ (mapped_there
      (λ (p : DistinctPair). (p.variables.0.0, p.variables.1.0)) c.args.pairs.now
      c.loop-pair.pair-index _ c.loop-pair-test.true))))),
)

pub returns : goal.returns
returns c = (
  (λ t. each_whole (λ (p : DistinctPair). (p.variables.0.0, p.variables.1.0))
      (λ (p : ℕ × ℕ). IsPairAmong c.args.old.now.statements c.args.new.now.statements p
      (numbers_of_pairs c.args.others.now)) c.args.pairs.now c.loop-pair.pair-index
      c.loop-pair-test.false c.loop-pair.invariant),
  (λ h. refl),
)
