-- The lines in which proofs are printed and saved, which are this project's own. A text is a list of
-- bytes, a token a list of bytes in it.
use Rattle.std.specs.Prelude.{◌≡◌, ℕ, ◌+◌, ◌*◌, ◌/◌, ◌%◌, min, ◌<◌, ◌≤◌, ◌⊎◌, List, [], ◌∷◌, ◌++◌}
use Rattle.std.specs.Prelude.{length, map}
use denote.Ref.{Bor}
use Rattle.std.specs.List.{flat_map, join_with_byte, AllByRecursion, sum_by}

-- a space, which stands between two tokens
abbrev pub space : ℕ
space = 32

-- a line feed, which ends each line
abbrev pub line_feed : ℕ
line_feed = 10

-- `(` and `)`, which stand around the list of a compressed proof
abbrev pub left_parenthesis : ℕ
left_parenthesis = 40

abbrev pub right_parenthesis : ℕ
right_parenthesis = 41

-- how many bytes a line of several tokens has at most, its line feed not counted
abbrev pub line_width : ℕ
line_width = 79

-- how many of them follow the indent: the letters of a whole line of letters
abbrev pub line_letters : ℕ
line_letters = 73

-- six spaces begin each line
abbrev pub indent : List ℕ
indent = space ∷ space ∷ space ∷ space ∷ space ∷ space ∷ []

-- a line of these tokens: six spaces, and the tokens with one space between each two
abbrev pub token_line : List (List ℕ) → List ℕ
token_line tokens = indent ++ join_with_byte space tokens

-- how many bytes that line has, its line feed not counted
abbrev pub width : List (List ℕ) → ℕ
width tokens = length (token_line tokens)

-- These tokens may be a line: one whatever its length, or several that fit the width.
abbrev pub IsLine : List (List ℕ) → Type 0
IsLine tokens = (length tokens ≡ 1) ⊎ ((1 < length tokens) × (width tokens ≤ line_width))

-- A line is full before the tokens that follow it: with the first of them it would pass the width.
abbrev pub IsFull : List (List ℕ) → List (List ℕ) → Type 0
IsFull line [] = Unit {0}
IsFull line (token ∷ tokens) = line_width < width (line ++ token ∷ [])

-- Each line is full before the next.
abbrev pub IsGreedy : List (List (List ℕ)) → Type 0
IsGreedy [] = Unit {0}
IsGreedy (line ∷ lines) = IsFull line (flat_map (λ tokens. tokens) lines) × IsGreedy lines

-- The text is these tokens in lines: all of them in their order, greedily, each line ended by a
-- line feed.
pub record LaidOut (tokens : List (List ℕ)) (text : List ℕ) : Type 0 where
  pub lines : List (List (List ℕ))
  pub in_order : flat_map (λ line. line) lines ≡ tokens
  pub each : AllByRecursion IsLine lines
  pub greedy : IsGreedy lines
  pub printed : text ≡ flat_map (λ line. token_line line ++ line_feed ∷ []) lines

-- Lines of letters: 73 on each but the last, which has 1 to 73.
abbrev pub AreLetterLines : List (List ℕ) → Type 0
AreLetterLines [] = Unit {0}
AreLetterLines (line ∷ []) = (1 ≤ length line) × (length line ≤ line_letters)
AreLetterLines (line ∷ next ∷ lines) = (length line ≡ line_letters) × AreLetterLines (next ∷ lines)

-- The text is these letters in lines, all of them in their order.
pub record LettersLaidOut (letters : List ℕ) (text : List ℕ) : Type 0 where
  pub lines : List (List ℕ)
  pub in_order : flat_map (λ line. line) lines ≡ letters
  pub each : AreLetterLines lines
  pub printed : text ≡ flat_map (λ line. (indent ++ line) ++ line_feed ∷ []) lines

-- the tokens of a list of labels: `(`, the labels and `)`
abbrev pub in_parentheses : List (List ℕ) → List (List ℕ)
in_parentheses labels = (left_parenthesis ∷ []) ∷ (labels ++ (right_parenthesis ∷ []) ∷ [])

-- The text is a compressed proof in lines: those of its list, and then those of its letters.
pub record CompressedLaidOut (labels : List (List ℕ)) (letters : List ℕ)
    (text : List ℕ) : Type 0 where
  pub list : List ℕ
  pub block : List ℕ
  pub list_laid_out : LaidOut (in_parentheses labels) list
  pub letters_laid_out : LettersLaidOut letters block
  pub whole : text ≡ list ++ block

-- the bytes of tokens that lie in memory
abbrev pub texts : List (Bor (List ℕ)) → List (List ℕ)
texts tokens = map (λ token. token.now) tokens

-- the bytes of tokens, and one more behind each
abbrev pub size_of : List (List ℕ) → ℕ
size_of tokens = sum_by (λ token. length token + 1) tokens

-- at least the bytes of the lines of tokens of this size
abbrev pub lines_bound : ℕ → ℕ
lines_bound size = size + size / 6 + 6

-- at least the bytes of the lines of this many letters: seven besides for each line, its indent and
-- its line feed
abbrev pub letters_bound : ℕ → ℕ
letters_bound count = count + (count / line_letters + min 1 (count % line_letters)) * 7
