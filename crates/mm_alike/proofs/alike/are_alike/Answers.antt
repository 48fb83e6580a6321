-- What they say, their hypotheses and their pairs.
use Rattle.std.proofs.Common.{sym, ◌∙◌}
use Rattle.std.proofs.lemmas.Bool.{false≢true}
use Rattle.mm_frame.proofs.Names.LabelNumbers.{numbered_within}
use Rattle.mm_alike.proofs.ComparedFrames.{parts_alike, alike_said, alike_hypotheses, alike_pairs}
use Rattle.mm_alike.proofs.alike.are_alike.Goals as goal

pub say_one_thing-requires-clause-one : goal.say_one_thing-requires-clause-one
say_one_thing-requires-clause-one c =
    let (index, s, numbered, asserts) = c.requires.one in
    numbered_within c.args.old.now.statements c.args.one.0 index s numbered

pub say_one_thing-requires-clause-other : goal.say_one_thing-requires-clause-other
say_one_thing-requires-clause-other c =
    let (index, s, numbered, asserts) = c.requires.other in
    numbered_within c.args.new.now.statements c.args.other.0 index s numbered

pub returns-then-not-say_one_thing : goal.returns-then-not-say_one_thing
returns-then-not-say_one_thing c = (
  (λ t. absurd (false≢true t)),
  (λ h. absurd (false≢true (sym c.if-not-say_one_thing.true
      ∙ c.say_one_thing.ensures.1 (alike_said c.args.old.now.statements c.args.new.now.statements
      c.args.one.0 c.args.other.0 h)))),
)

pub returns-then-not-have_same_hypotheses : goal.returns-then-not-have_same_hypotheses
returns-then-not-have_same_hypotheses c = (
  (λ t. absurd (false≢true t)),
  (λ h. absurd (false≢true (sym c.if-not-have_same_hypotheses.true
      ∙ c.have_same_hypotheses.ensures.1 (alike_hypotheses c.args.old.now.statements
      c.args.new.now.statements c.args.one.0 c.args.other.0 h)))),
)

pub returns : goal.returns
returns c = (
  (λ t. parts_alike c.args.old.now.statements c.args.new.now.statements c.args.one.0
      c.args.other.0 (c.say_one_thing.ensures.0 c.if-not-say_one_thing.false)
      (c.have_same_hypotheses.ensures.0 c.if-not-have_same_hypotheses.false)
      (c.have_same_pairs.ensures.0 t)),
  (λ h. c.have_same_pairs.ensures.1 (alike_pairs c.args.old.now.statements
      c.args.new.now.statements c.args.one.0 c.args.other.0 h)),
)
