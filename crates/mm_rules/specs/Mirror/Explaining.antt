-- What the code of an explanation knows on its way. This file mirrors the code, and is cited by
-- private contracts alone.
use Rattle.std.specs.Prelude.{List}
use Rattle.std.specs.Prelude.{map}
use Rattle.mm_frame.specs.Sentence.{Sentence}
use Rattle.mm_step.specs.Substitution.{Symbol}
use Rattle.mm_step.specs.Mirror.CodeVerify.{name_at}
use Rattle.mm_frame.specs.declared.distinct.DistinctPair.{DistinctPair}

-- the names of pairs
abbrev pub named_pairs : List Sentence → List DistinctPair → List (Symbol × Symbol)
named_pairs statements pairs =
    map (λ p. (name_at statements p.variables.0.0, name_at statements p.variables.1.0)) pairs
