-- Each pair of the one is among those of the other, and the other way round.
use Rattle.std.proofs.Common.{sym, ◌∙◌}
use Rattle.std.proofs.lemmas.Bool.{false≢true}
use Rattle.mm_alike.specs.Mirror.Names.{numbers_of_pairs}
use Rattle.mm_alike.proofs.ComparedPairs.{pairs_of_frame, pairs_within, same_pairs, other_pairs}
use Rattle.mm_alike.proofs.alike.have_same_pairs.Goals as goal

pub are_pairs_among-requires-clause-pairs : goal.are_pairs_among-requires-clause-pairs
are_pairs_among-requires-clause-pairs c =
    pairs_within c.args.old.now.statements c.args.one.0 _
    (pairs_of_frame c.frame-frame.result c.args.old.now.statements c.args.one.0
    (numbers_of_pairs c.pairs-pairs.result.now) c.frame-frame.ensures.book
    c.frame-frame.ensures.index c.pairs-pairs.ensures.variables)

pub are_pairs_among-requires-clause-others : goal.are_pairs_among-requires-clause-others
are_pairs_among-requires-clause-others c =
    pairs_within c.args.new.now.statements c.args.other.0 _
    (pairs_of_frame c.frame-other_frame.result c.args.new.now.statements c.args.other.0
    (numbers_of_pairs c.pairs-others.result.now) c.frame-other_frame.ensures.book
    c.frame-other_frame.ensures.index c.pairs-others.ensures.variables)

pub are_pairs_among-requires-2-clause-pairs : goal.are_pairs_among-requires-2-clause-pairs
are_pairs_among-requires-2-clause-pairs c =
    pairs_within c.args.new.now.statements c.args.other.0 _
    (pairs_of_frame c.frame-other_frame.result c.args.new.now.statements c.args.other.0
    (numbers_of_pairs c.pairs-others.result.now) c.frame-other_frame.ensures.book
    c.frame-other_frame.ensures.index c.pairs-others.ensures.variables)

pub are_pairs_among-requires-2-clause-others : goal.are_pairs_among-requires-2-clause-others
are_pairs_among-requires-2-clause-others c =
    pairs_within c.args.old.now.statements c.args.one.0 _
    (pairs_of_frame c.frame-frame.result c.args.old.now.statements c.args.one.0
    (numbers_of_pairs c.pairs-pairs.result.now) c.frame-frame.ensures.book
    c.frame-frame.ensures.index c.pairs-pairs.ensures.variables)

pub returns-then-not-are_pairs_among : goal.returns-then-not-are_pairs_among
returns-then-not-are_pairs_among c = (
  (λ t. absurd (false≢true t)),
  (λ h. absurd (other_pairs c.args.old.now.statements c.args.new.now.statements c.args.one.0
      c.args.other.0 (numbers_of_pairs c.pairs-pairs.result.now)
      (numbers_of_pairs c.pairs-others.result.now)
      (pairs_of_frame c.frame-frame.result c.args.old.now.statements c.args.one.0
      (numbers_of_pairs c.pairs-pairs.result.now) c.frame-frame.ensures.book
      c.frame-frame.ensures.index c.pairs-pairs.ensures.variables)
      (pairs_of_frame c.frame-other_frame.result c.args.new.now.statements c.args.other.0
      (numbers_of_pairs c.pairs-others.result.now) c.frame-other_frame.ensures.book
      c.frame-other_frame.ensures.index c.pairs-others.ensures.variables)
      (λ all. false≢true (sym c.if-not-are_pairs_among.true ∙ c.are_pairs_among.ensures.1 all)) h)),
)

pub returns : goal.returns
returns c =
    same_pairs c.args.old.now.statements c.args.new.now.statements c.args.one.0 c.args.other.0
    (numbers_of_pairs c.pairs-pairs.result.now) (numbers_of_pairs c.pairs-others.result.now)
    (pairs_of_frame c.frame-frame.result c.args.old.now.statements c.args.one.0
    (numbers_of_pairs c.pairs-pairs.result.now) c.frame-frame.ensures.book
    c.frame-frame.ensures.index c.pairs-pairs.ensures.variables)
    (pairs_of_frame c.frame-other_frame.result c.args.new.now.statements c.args.other.0
    (numbers_of_pairs c.pairs-others.result.now) c.frame-other_frame.ensures.book
    c.frame-other_frame.ensures.index c.pairs-others.ensures.variables)
    (c.are_pairs_among.ensures.0 c.if-not-are_pairs_among.false) c.are_pairs_among-2.result
    c.are_pairs_among-2.ensures
