-- Two hypotheses that don't say the same tell the lists apart.
use Rattle.std.proofs.Common.{◌<◌, length, sym, ◌∙◌, arith}
use Rattle.std.proofs.lemmas.Bool.{false≢true}
use Rattle.mm_frame.specs.declared.hypothesis.Hypothesis.{Hypothesis}
use Rattle.mm_alike.specs.Mirror.Names.{said_at}
use Rattle.mm_alike.proofs.AlikeLists.{unalike_at}
use Rattle.mm_alike.proofs.names.say_the_same.Goals as goal

pub returns-then-not-say_one_thing : goal.returns-then-not-say_one_thing
returns-then-not-say_one_thing c =
    let within : c.loop-at.at < length c.args.other.now = omega arith in (
      (λ t. absurd (false≢true t)),
      (λ same. absurd (unalike_at (λ (h : Hypothesis). said_at c.args.old.now.statements h.id.0)
          (λ (h : Hypothesis). said_at c.args.new.now.statements h.id.0) c.args.one.now
          c.args.other.now c.loop-at.at _ _ c.loop-at-test.true within
          (λ one. false≢true (sym c.if-not-say_one_thing.true ∙ c.say_one_thing.ensures.1 one))
          same)),
    )
