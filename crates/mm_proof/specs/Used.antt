-- The assertions that a tree uses. Trees are those of proofs (the Metamath book, sections 4.1.4 and
-- 4.3); the list is this project's own.
use Rattle.std.specs.Prelude.{◌≡◌, ℕ, ◌<◌, List, slice_get, Contains, Some, ◌↔◌}
use Rattle.mm_frame.specs.Sentence.{Sentence, IsAssertion, IsLabelled}
use Rattle.mm_frame.specs.Numbers.{IsNumbered}
use Rattle.mm_step.specs.Tree.{Trees, spelling}

-- the number is that of an assertion whose label stands in the trees
abbrev pub IsUsedNumber : List Sentence → Trees → ℕ → Type 0
IsUsedNumber statements trees id =
    (index : ℕ) × (a : Sentence) × (label : List ℕ) × IsNumbered statements id index a
    × IsAssertion a.kind
    × IsLabelled label a × Contains (spelling trees) label

-- these are the numbers of the assertions in the trees, in any order, each once or more
abbrev pub AreUsedNumbers : List Sentence → Trees → List ℕ → Type 0
AreUsedNumbers statements trees ids =
    (id : ℕ) → Contains ids id ↔ IsUsedNumber statements trees id

-- the same numbers, each once, in database order
pub record AreUsed (statements : List Sentence) (trees : Trees) (ids : List ℕ) : Type 0 where
  pub rising : (i j a b : ℕ) → i < j → slice_get ids i ≡ Some a → slice_get ids j ≡ Some b → a < b
  pub each : AreUsedNumbers statements trees ids
