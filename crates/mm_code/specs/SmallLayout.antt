-- The lines of compressed proofs in the files of real libraries: those in which the program
-- metamath saves a proof. The text of a proof is what stands between its `$=` and its `$.`, and a
-- token and a text are lists of bytes.
use Rattle.std.specs.Prelude.{◌≡◌, ℕ, ◌+◌, ◌-◌, ◌*◌, ◌/◌, ◌<◌, ◌≤◌, ◌⊎◌, List, [], ◌∷◌, ◌++◌}
use Rattle.std.specs.Prelude.{length, map, replicate}
use Rattle.std.specs.List.{flat_map, AllByRecursion}
use Rattle.mm_code.specs.Layout.{space, line_feed, line_width, in_parentheses}

-- the most spaces that a line begins with
abbrev pub most_indent : ℕ
most_indent = 39

-- `$.`, which ends the proof
abbrev pub proof_end : List ℕ
proof_end = 36 ∷ 46 ∷ []

-- What is put on lines, one after the other: tokens and letters. The first letter stands as a token
-- does, so a letter here is a further one.
pub data LinePiece : Type 0 where
  token : List ℕ → LinePiece
  letter : ℕ → LinePiece

-- a piece that begins a line
abbrev pub bytes_of : LinePiece → List ℕ
bytes_of (token bytes) = bytes
bytes_of (letter byte) = byte ∷ []

-- a piece behind another on a line: a token behind a space, a letter right behind the one before it
abbrev pub behind : LinePiece → List ℕ
behind (token bytes) = space ∷ bytes
behind (letter byte) = byte ∷ []

-- letters as pieces, so that a line may end behind each
abbrev pub letter_pieces : List ℕ → List LinePiece
letter_pieces [] = []
letter_pieces (first ∷ others) = token (first ∷ []) ∷ map letter others

-- The labels as they stand between the parentheses: where there are none, one of no bytes stands
-- for them, so that the list is `(  )`, with two spaces.
abbrev pub shown : List (List ℕ) → List (List ℕ)
shown [] = [] ∷ []
shown (label ∷ labels) = label ∷ labels

-- a whole proof: `(`, the labels, `)`, the letters and `$.`
abbrev pub proof_pieces : List (List ℕ) → List ℕ → List LinePiece
proof_pieces labels letters =
    (map token (in_parentheses (shown labels)) ++ letter_pieces letters) ++ token proof_end ∷ []

-- pieces on one line
abbrev pub side_by_side : List LinePiece → List ℕ
side_by_side [] = []
side_by_side (first ∷ others) = bytes_of first ++ flat_map behind others

-- a line of these pieces, behind so many spaces
abbrev pub small_line : ℕ → List LinePiece → List ℕ
small_line indent pieces = replicate indent space ++ side_by_side pieces

-- These pieces may be a line: one whatever its length, or several that fit the width.
abbrev pub IsSmallLine : ℕ → List LinePiece → Type 0
IsSmallLine indent pieces =
    (length pieces ≡ 1)
    ⊎ ((1 < length pieces) × (length (small_line indent pieces) ≤ line_width))

-- A line is full before the pieces that follow it: with the first of them it would pass the width.
abbrev pub IsFullBefore : ℕ → List LinePiece → List LinePiece → Type 0
IsFullBefore indent line [] = Unit {0}
IsFullBefore indent line (piece ∷ pieces) =
    line_width < length (small_line indent (line ++ piece ∷ []))

-- Each line is full before the next.
abbrev pub AreFilled : ℕ → List (List LinePiece) → Type 0
AreFilled indent [] = Unit {0}
AreFilled indent (line ∷ lines) =
    IsFullBefore indent line (flat_map (λ pieces. pieces) lines) × AreFilled indent lines

-- The text, with `$.` behind it, is the pieces of this proof in lines: all of them in their order,
-- as many on each line as fit, each line behind a line feed.
pub record SmallLaidOut (indent : ℕ) (labels : List (List ℕ)) (letters : List ℕ)
    (text : List ℕ) : Type 0 where
  pub lines : List (List LinePiece)
  pub in_order : flat_map (λ line. line) lines ≡ proof_pieces labels letters
  pub each : AllByRecursion (IsSmallLine indent) lines
  pub filled : AreFilled indent lines
  pub printed : text ++ proof_end ≡ flat_map (λ line. line_feed ∷ small_line indent line) lines

-- At least the bytes of a proof's pieces, each with the space before it, where the labels have this
-- size, as `size_of` says it, and there are so many letters.
abbrev pub pieces_bound : ℕ → ℕ → ℕ
pieces_bound size letters = size + letters + 9

-- At least the bytes of the lines of pieces of this size: each line has its indent and its line
-- feed besides, and two lines in a row have at least 80 - indent bytes of pieces.
abbrev pub small_bound : ℕ → ℕ → ℕ
small_bound indent size = size + (size / ((80 - indent) / 2) + 1) * (indent + 1)
