-- A mirror of the code that lays out tokens. Private contracts cite it, and lemmas join it to
-- `LaidOut`.
use Rattle.std.specs.Prelude.{◌≡◌, ℕ, ◌-◌, List, [], ◌∷◌, ◌++◌, length, nat_lt, if◌then◌else◌}
use Rattle.mm_code.specs.Layout.{indent, space, line_feed, line_letters, LettersLaidOut}

-- the room that is left on a line that a token of this length begins
abbrev pub room_after : ℕ → ℕ
room_after len = line_letters - len

-- what follows a line with this room, once these tokens are laid out and the last line is ended
unfoldable pub rest_of : ℕ → List (List ℕ) → List ℕ
rest_of room [] = line_feed ∷ []
rest_of room (token ∷ tokens) =
    if nat_lt (length token) room then (space ∷ token) ++ rest_of (room - length token - 1) tokens
    else ((line_feed ∷ indent) ++ token) ++ rest_of (room_after (length token)) tokens

-- new is old with the lines of these letters at its end
pub record AppendsLetters (old new letters : List ℕ) : Type 0 where
  pub block : List ℕ
  pub laid_out : LettersLaidOut letters block
  pub text : new ≡ old ++ block
