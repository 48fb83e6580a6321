-- Where the proofs of checked files stand, and the words in their bytes. This file mirrors the
-- code, and is cited by private contracts alone.
use Rattle.std.specs.Prelude.{◌≡◌, ◌≤◌, ℕ, List, [], ◌∷◌, map, filter, length, slice_get, Some}
use Rattle.std.specs.Prelude.{None, Bool, true, false, if◌then◌else◌, is_some, codes}
use Rattle.mm_base.specs.Spelling.{spells}
use Rattle.mm_base.specs.Statement.{PlainStatement}
use Rattle.mm_text.specs.Files.{PlainFile}
use Rattle.mm_text.specs.Reading.{Reads}
use Rattle.mm_alike.specs.declared.homes.Home.{Home}

-- where the proof of a statement stands
abbrev pub home_of : PlainStatement → Home
home_of s = record { file = s.first.file; span = s.span }

-- where those of the labelled statements stand, in their order
abbrev pub homes_in : List PlainStatement → List Home
homes_in statements = map home_of (filter (λ s. is_some s.label) statements)

-- these are the homes of the statements that the files hold
abbrev pub HaveHomes : List PlainFile → List Home → Type 0
HaveHomes files homes =
    (statements : List PlainStatement) → Reads files statements None → homes ≡ homes_in statements

-- these bytes are among those of a file
pub record IsWithinFiles (files : List PlainFile) (home : Home) : Type 0 where
  pub file : PlainFile
  pub there : slice_get files home.file ≡ Some file
  pub order : home.span.0 ≤ home.span.1
  pub end : home.span.1 ≤ length file.bytes

-- the words outside comments, where a comment is open or none is
abbrev pub words_outside : (open_comment : Bool) → List (List ℕ) → List (List ℕ)
words_outside open_comment [] = []
words_outside true (word ∷ words) =
    if spells word (codes "$)") then words_outside false words else words_outside true words
words_outside false (word ∷ words) =
    if spells word (codes "$(") then words_outside true words
    else word ∷ words_outside false words
