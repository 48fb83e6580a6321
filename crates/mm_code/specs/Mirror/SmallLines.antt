-- A mirror of the code that lays out the pieces of a proof. Private contracts cite it, and lemmas
-- join it to `SmallLaidOut`.
use Rattle.std.specs.Prelude.{ℕ, ◌-◌, List, [], ◌∷◌, ◌++◌, length, replicate, nat_lt, if◌then◌else◌}
use Rattle.mm_code.specs.Layout.{space, line_feed, line_width}
use Rattle.mm_code.specs.SmallLayout.{LinePiece, bytes_of, behind}

-- what begins a line: a line feed, and so many spaces
abbrev pub line_start : ℕ → List ℕ
line_start indent = line_feed ∷ replicate indent space

-- the room that is left on a line that these bytes begin
abbrev pub small_room : ℕ → ℕ → ℕ
small_room indent len = line_width - indent - len

-- what stands before `$.` on a line with this room
abbrev pub before_end : ℕ → ℕ → List ℕ
before_end indent room = if nat_lt 2 room then space ∷ [] else line_start indent

-- what follows a line with this room, once these pieces are laid out, up to `$.`
unfoldable pub small_rest : ℕ → ℕ → List LinePiece → List ℕ
small_rest indent room [] = before_end indent room
small_rest indent room (piece ∷ pieces) =
    if nat_lt room (length (behind piece)) then (line_start indent ++ bytes_of piece)
    ++ small_rest indent (small_room indent (length (bytes_of piece))) pieces
    else behind piece ++ small_rest indent (room - length (behind piece)) pieces
