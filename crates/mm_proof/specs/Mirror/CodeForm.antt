-- What the code of the strict form knows on its way: it mirrors the code.
use Rattle.std.specs.Prelude.{◌≡◌, ℕ, ◌+◌, ◌<◌, List, take, slice_get, Contains, Some, ◌⊎◌}
use Rattle.mm_frame.specs.Sentence.{Sentence}
use Rattle.mm_frame.specs.Numbers.{IsAssertionNumber}
use Rattle.mm_step.specs.Moves.{Move, name, mark}
use Rattle.mm_proof.specs.Tokens.{IsCompressed, SaysCompressed}
use Rattle.mm_proof.specs.WholePlaces.{IsSpareLabel, IsLooseMark}
use Rattle.mm_proof.specs.declared.form.Loose.{Loose}
use Rattle.mm_proof.specs.declared.form.Loose.TheVariants as loose

-- the number at an index isn't new: it is one of these, or one of those before it
abbrev pub IsOld : (seen ids : List ℕ) → (index : ℕ) → Type 0
IsOld seen ids index =
    (id : ℕ) × (slice_get ids index ≡ Some id)
    × (Contains seen id ⊎ Contains (take index ids) id)

-- each of the numbers is new
abbrev pub AllNew : (seen ids : List ℕ) → Type 0
AllNew seen ids = (index : ℕ) → ¬ (IsOld seen ids index)

-- the first that isn't has the index
abbrev pub IsFirstOld : (seen ids : List ℕ) → (index : ℕ) → Type 0
IsFirstOld seen ids index =
    IsOld seen ids index × ((earlier : ℕ) → earlier < index → ¬ (IsOld seen ids earlier))

-- the move before an index is a step by an assertion
abbrev pub IsAfterAssertion : List Sentence → List (Move ℕ) → ℕ → Type 0
IsAfterAssertion statements moves index =
    (before : ℕ) × (id : ℕ) × (index ≡ before + 1) × (slice_get moves before ≡ Some (name id))
    × IsAssertionNumber statements id

-- each mark stands behind such a step
abbrev pub AreMarksStrict : List Sentence → List (Move ℕ) → Type 0
AreMarksStrict statements moves =
    (k : ℕ) → slice_get moves k ≡ Some mark → IsAfterAssertion statements moves k

-- the first one that doesn't has the index
abbrev pub IsFirstLoose : List Sentence → List (Move ℕ) → (index : ℕ) → Type 0
IsFirstLoose statements moves index =
    (slice_get moves index ≡ Some mark) × ¬ (IsAfterAssertion statements moves index)
    × ((k : ℕ) → k < index → slice_get moves k ≡ Some mark → IsAfterAssertion statements moves k)

-- That keeps the proof of the statement from the strict form first: a spare label; or a mark, where
-- no label is spare.
abbrev pub IsLooseBy : List Sentence → Sentence → (tokens : List (List ℕ)) → Loose → Type 0
IsLooseBy before s tokens (loose.Label index) =
    (labels : List (List ℕ)) × (letters : List (List ℕ)) × IsCompressed tokens labels letters
    × IsSpareLabel before s labels index
    × ((earlier : ℕ) → earlier < index → ¬ (IsSpareLabel before s labels earlier))
IsLooseBy before s tokens (loose.Mark number) =
    (labels : List (List ℕ)) × (letters : List (List ℕ)) × IsCompressed tokens labels letters
    × ((any : ℕ) → ¬ (IsSpareLabel before s labels any))
    × (moves : List (Move (List ℕ))) × SaysCompressed before s tokens moves
    × IsLooseMark before moves number
