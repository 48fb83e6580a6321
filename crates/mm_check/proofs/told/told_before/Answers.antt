-- The text lists the steps, or tells what they use.
use Rattle.mm_check.proofs.told.told_before.Goals as goal

pub returns-in-Steps : goal.returns-in-Steps
returns-in-Steps c = rw c.in-Steps.is c.listed_before.ensures

pub returns-in-Letters : goal.returns-in-Letters
returns-in-Letters c = rw c.in-Letters.is c.listed_before-in-Letters.ensures

pub returns-in-Uses : goal.returns-in-Uses
returns-in-Uses c = rw c.in-Uses.is c.uses_text.ensures
