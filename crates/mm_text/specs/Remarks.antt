-- What comments say of statements: marks in the comment right before a statement, and the mathbox in
-- which it stands. Comments are those of the Metamath book, sections 4.1.2 and 4.4.1; the sentences
-- that mark a statement and the headings of mathboxes are conventions of the field.
use Rattle.std.specs.Prelude.{◌≡◌, ℕ, zero, suc, ◌+◌, ◌<◌, ◌≤◌, ◌==◌, ◌||◌, ◌&&◌, nat_eq, List, []}
use Rattle.std.specs.Prelude.{◌∷◌, drop, Bool, true, false, if◌then◌else◌, codes, slice_index}
use Rattle.std.specs.Prelude.{slice_range}
use Rattle.std.specs.List.{starts_with}
use Rattle.mm_base.specs.Token.{is_space}

-- ---- what a text says

-- a text holds a word
unfoldable pub holds : (word text : List ℕ) → Bool
holds word [] = starts_with nat_eq [] word
holds word (b ∷ text) = starts_with nat_eq (b ∷ text) word || holds word text

-- a space in front of a text that doesn't begin with one
abbrev pub behind_space : List ℕ → List ℕ
behind_space [] = 32 ∷ []
behind_space (b ∷ text) = if b == 32 then b ∷ text else 32 ∷ b ∷ text

-- a text with one space in place of each run of white space
unfoldable pub spaced : List ℕ → List ℕ
spaced [] = []
spaced (b ∷ text) = if is_space b then behind_space (spaced text) else b ∷ spaced text

-- a text says a sentence: it holds it, where each run of white space counts as one space
abbrev pub says : (sentence text : List ℕ) → Bool
says sentence text = holds sentence (spaced text)

-- ---- the comment right before a position

-- two bytes that begin a comment or end one: `$(` or `$)`
abbrev pub is_mark : ℕ → ℕ → Bool
is_mark b c = b == 36 && (c == 40 || c == 41)

-- A comment stands right before a position: its `$(` stands at `start`, its `$)` at `stop`, neither
-- stands between them, and behind it there is only white space. As text that is read holds these
-- two sequences nowhere but where a comment begins or ends, no other comment can be meant.
pub record IsCommentBefore (bytes : List ℕ) (at start stop : ℕ) : Type 0 where
  pub begins : slice_index bytes start ≡ 36
  pub opens : slice_index bytes (start + 1) ≡ 40
  pub inside : start + 2 ≤ stop
  pub inner : (k : ℕ) → start + 2 ≤ k → k < stop
      → is_mark (slice_index bytes k) (slice_index bytes (k + 1)) ≡ false
  pub ends : slice_index bytes stop ≡ 36
  pub closes : slice_index bytes (stop + 1) ≡ 41
  pub before : stop + 2 ≤ at
  pub blank : (k : ℕ) → stop + 2 ≤ k → k < at → is_space (slice_index bytes k) ≡ true

-- the comment right before a position says a sentence
pub record IsSaidBefore (sentence bytes : List ℕ) (at : ℕ) : Type 0 where
  pub start : ℕ
  pub stop : ℕ
  pub comment : IsCommentBefore bytes at start stop
  pub said : says sentence (slice_range bytes (start + 2) stop) ≡ true

-- ---- mathboxes

-- a text up to the next `$(` or `$)`
unfoldable pub before_mark : List ℕ → List ℕ
before_mark [] = []
before_mark (b ∷ []) = b ∷ []
before_mark (b ∷ c ∷ text) = if is_mark b c then [] else b ∷ before_mark (c ∷ text)

-- The heading of a mathbox begins here: a comment with the line that stands over such headings, which
-- says whose mathbox begins. White space counts in it as in a mark.
abbrev pub is_heading : List ℕ → Bool
is_heading bytes =
    starts_with nat_eq bytes (codes "$(") && holds (codes "#*#*") (before_mark (drop 2 bytes))
    && says (codes "Mathbox for ") (before_mark (drop 2 bytes))

-- how many such headings begin among so many bytes at the beginning
unfoldable pub headings : ℕ → List ℕ → ℕ
headings zero bytes = 0
headings (suc count) [] = 0
headings (suc count) (b ∷ bytes) =
    (if is_heading (b ∷ bytes) then 1 else 0) + headings count bytes

-- The mathbox in which a position lies, by its number in the file: so many headings begin before it.
-- Before the first there is none, which has the number 0.
abbrev pub mathbox_at : List ℕ → ℕ → ℕ
mathbox_at bytes at = headings at bytes
