-- What is told of an assertion beside another database, for each kind of line. This file mirrors
-- the code, and is cited by private contracts alone.
use Rattle.std.specs.Prelude.{ℕ, List}
use Rattle.mm_frame.specs.Sentence.{Sentence}
use Rattle.mm_alike.specs.declared.differences.Difference.{Difference}
use Rattle.mm_alike.specs.declared.differences.Difference.TheVariants.{Alone, Changed, Shared}
use Rattle.mm_alike.specs.Alike.{IsAlone, IsChanged, IsShared}

-- the assertion with a number stands so to those of the other database
abbrev pub Differs : Difference → (statements others : List Sentence) → ℕ → Type 0
Differs Alone statements others id = IsAlone statements others id
Differs Changed statements others id = IsChanged statements others id
Differs Shared statements others id = IsShared statements others id
