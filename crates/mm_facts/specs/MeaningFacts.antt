-- What explains a fault of a rule of meaning: the token at fault, and the earlier one with which it
-- collides, which are this project's own.
use Rattle.std.specs.Prelude.{ℕ, List}
use Rattle.mm_frame.specs.declared.rule.MeaningRule.{MeaningRule}
use Rattle.mm_frame.specs.declared.rule.MeaningRule.TheVariants.{M4, M5, M9, M12, M13}
use Rattle.mm_facts.specs.Explained.{Detail, declared_at, repeated_at}
use Rattle.mm_facts.specs.Explained.{labelled_at, typed_at}

-- ---- facts

-- the fact that tells where the name was met before, by what it was met as
abbrev pub met_as : MeaningRule → (place : List ℕ) → Detail
met_as M4 place = labelled_at place
met_as M5 place = labelled_at place
met_as M9 place = repeated_at place
met_as M12 place = typed_at place
met_as M13 place = typed_at place
met_as rule place = declared_at place
