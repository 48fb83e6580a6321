-- One more pair hasn't the names.
use Rattle.std.proofs.Common.{ℕ, refl, sym, ◌∙◌}
use Rattle.std.proofs.lemmas.Bool.{false≢true}
use Rattle.mm_frame.specs.declared.distinct.DistinctPair.{DistinctPair}
use Rattle.mm_alike.specs.Mirror.Names.{IsPairOfNames}
use Rattle.mm_alike.proofs.AlikeLists.{each_next, each_whole, mapped_there}
use Rattle.mm_alike.proofs.ComparedPairs.{pair_at}
use Rattle.mm_alike.proofs.pairs.is_pair_among.Goals as goal

pub is_same_pair-requires-clause-other : goal.is_same_pair-requires-clause-other
is_same_pair-requires-clause-other c =
    pair_at c.args.new.now.statements c.args.pairs.now c.loop-other.other-index _ c.requires.pairs
    c.loop-other-test.true

pub loop-other-preserved : goal.loop-other-preserved
loop-other-preserved c =
    each_next (λ (p : DistinctPair). (p.variables.0.0, p.variables.1.0))
    (λ (q : ℕ × ℕ). ¬ (IsPairOfNames c.args.old.now.statements c.args.new.now.statements
    (c.args.pair.0.0, c.args.pair.1.0) q)) c.args.pairs.now c.loop-other.other-index _
    c.loop-other-test.true c.loop-other.invariant
    (λ names. false≢true (sym c.if-is_same_pair.false ∙ c.is_same_pair.ensures.1 names))

pub returns-then-is_same_pair : goal.returns-then-is_same_pair
returns-then-is_same_pair c = (
  (λ t. (
    _,
    mapped_there (λ (p : DistinctPair). (p.variables.0.0, p.variables.1.0)) c.args.pairs.now
        c.loop-other.other-index _ c.loop-other-test.true,
    c.is_same_pair.ensures.0 c.if-is_same_pair.true,
  )),
  (λ h. refl),
)

pub returns : goal.returns
returns c = (
  (λ t. absurd (false≢true t)),
  (λ h. absurd (each_whole (λ (p : DistinctPair). (p.variables.0.0, p.variables.1.0))
      (λ (q : ℕ × ℕ). ¬ (IsPairOfNames c.args.old.now.statements c.args.new.now.statements
      (c.args.pair.0.0, c.args.pair.1.0) q)) c.args.pairs.now c.loop-other.other-index
      c.loop-other-test.false c.loop-other.invariant h.0 h.1 h.2)),
)
