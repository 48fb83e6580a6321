-- The steps of a complete proof are those of no prefix.
use Rattle.std.proofs.Common.{Ok, ap}
use Rattle.mm_core_tests.proofs.proof.listing_of.Goals as goal

pub listing-requires-clause-whole : goal.listing-requires-clause-whole
listing-requires-clause-whole c =
    (c.in_ok-steps.ensures.complete c.in-Steps.steps (ap Ok c.in-Steps.is)).1
