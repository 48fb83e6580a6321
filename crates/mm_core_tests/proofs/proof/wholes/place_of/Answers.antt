-- The rule that reading tells is broken over all of the tokens, or over those of the known prefix.
use Rattle.std.proofs.Common.{Err, ap, ◌∙◌}
use Rattle.mm_step.specs.declared.profile.Profile.TheVariants.{Strict}
use Rattle.mm_core_tests.proofs.proof.wholes.place_of.Goals as goal

pub whole_place-requires-clause-fault : goal.whole_place-requires-clause-fault
whole_place-requires-clause-fault c complete index s proof = (
  Strict,
  (c.parse.ensures.fault complete c.in-Err-Rule.rule c.in-Err-Rule.field-0-1
      (c.in-Err-Rule.is ∙ ap Err c.in-Err-Rule.field-0-is) index s proof).1,
)

pub whole_place-requires-clause-known_fault : goal.whole_place-requires-clause-known_fault
whole_place-requires-clause-known_fault c incomplete index s proof = (
  Strict,
  (c.parse.ensures.known_fault incomplete c.in-Err-Rule.rule c.in-Err-Rule.field-0-1
      (c.in-Err-Rule.is ∙ ap Err c.in-Err-Rule.field-0-is) index s proof).1,
)
