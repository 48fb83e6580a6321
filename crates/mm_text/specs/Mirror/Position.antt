-- How the code goes through a file: from a position on, knowing up to where the bytes may stand in
-- a file. This file mirrors the code, and is cited by private contracts alone.
use Rattle.std.specs.Prelude.{◌≡◌, ℕ, ◌+◌, ◌<◌, ◌≤◌, ◌||◌, ◌&&◌, ◌==◌, not}
use Rattle.std.specs.Prelude.{List, [], ◌∷◌, length, drop}
use Rattle.std.specs.Prelude.{Bool, true, false, codes, Option, Some, None, Result, Ok, Err}
use Rattle.std.specs.Prelude.{slice_index, slice_range}
use Rattle.mm_text.specs.declared.comments.Position.{Position}
use Rattle.mm_text.specs.declared.comments.Comment.{Comment}
use Rattle.mm_text.specs.declared.comments.Comment.TheVariants.{Open, Closed}
use Rattle.mm_text.specs.declared.comments.Found.{Found}
use Rattle.mm_text.specs.declared.comments.Found.TheVariants as found
use Rattle.mm_text.specs.declared.comments.Wrong.{Wrong}
use Rattle.mm_base.specs.declared.token.Token.{Token}
use Rattle.mm_base.specs.Token.{PlainToken, plain_token, tokens_from, is_space, is_printable}
use Rattle.mm_text.specs.Items.{Shown, Clear, Broken, without_comments, holds_dollar}
use Rattle.mm_base.specs.Spelling.{spells}
use Rattle.mm_base.specs.MostBytes.{most_bytes}

-- a byte may stand in a file
abbrev pub is_legal : ℕ → Bool
is_legal b = is_printable b || is_space b

-- a byte may stand in a file, and is no `$`
abbrev pub is_quiet : ℕ → Bool
is_quiet b = is_legal b && not (b == 36)

-- the bytes up to a position may stand in a file
pub record IsLegalPrefix (bytes : List ℕ) (stop : ℕ) : Type 0 where
  pub within : stop ≤ length bytes
  pub prefix : (k : ℕ) → k < stop → is_legal (slice_index bytes k) ≡ true

-- the bytes up to a position may stand in a file, and the next may not, where another position is
-- wanted that is further on
pub record IsLegalUpTo (bytes : List ℕ) (stop wanted : ℕ) : Type 0 where
  pub prefix : IsLegalPrefix bytes stop
  pub stops : stop < wanted → is_legal (slice_index bytes stop) ≡ false

-- a `$` and another byte stand at a position and white space after them
pub record IsMarkAt (bytes : List ℕ) (second at : ℕ) : Type 0 where
  pub within : at + 2 < length bytes
  pub dollar : slice_index bytes at ≡ 36
  pub other : slice_index bytes (at + 1) ≡ second
  pub right : is_space (slice_index bytes (at + 2)) ≡ true

-- such a `$)` stands at a position after white space
pub record IsClosedAt (bytes : List ℕ) (at : ℕ) : Type 0 where
  pub mark : IsMarkAt bytes 41 at
  pub left : (k : ℕ) → k + 1 ≡ at → is_space (slice_index bytes k) ≡ true

-- a word without `$` begins at one position, and the white space after it at another
pub record IsWordTo (bytes : List ℕ) (start stop : ℕ) : Type 0 where
  pub after : start < stop
  pub within : stop < length bytes
  pub token : (file : ℕ) → tokens_from file start (drop start bytes)
      ≡ record { text = slice_range bytes start stop; file = file; at = start }
      ∷ tokens_from file stop (drop stop bytes)
  pub ink : (k : ℕ) → start ≤ k → k < stop → is_space (slice_index bytes k) ≡ false
  pub dollar : holds_dollar (slice_range bytes start stop) ≡ false
  pub space : is_space (slice_index bytes stop) ≡ true

-- what holds of each position that is handed on
pub record IsPosition (p : Position) : Type 0 where
  pub within : p.at ≤ p.legal
  pub prefix : IsLegalPrefix p.bytes.now p.legal
  pub small : length p.bytes.now ≤ most_bytes

-- what is left of a file outside comments, from outside one on
abbrev pub shown_at : Position → List Shown
shown_at p = without_comments None (tokens_from p.file p.at (drop p.at p.bytes.now))

-- what is left of a file where a comment is open since a `$(`
abbrev pub comment_at : PlainToken → Position → List Shown
comment_at begin p = without_comments (Some begin) (tokens_from p.file p.at (drop p.at p.bytes.now))

-- the same file at another position, of which other bytes may be judged
abbrev pub IsSameFile : Position → Position → Type 0
IsSameFile old new = new ≡ record old { at = new.at; legal = new.legal }

-- a later position of the same file
pub record IsLater (old new : Position) : Type 0 where
  pub position : IsPosition new
  pub same : IsSameFile old new
  pub after : old.at < new.at

-- nothing is left but a fault
abbrev pub IsBroken : List Shown → Wrong → Type 0
IsBroken shown w = (shown ≡ Broken w.rule (plain_token w.token) ∷ []) × (w.token.at < most_bytes)

-- a token outside comments, and whether it holds a `$`
pub record IsClear (t : Token) (has_dollar : Bool) : Type 0 where
  pub at : t.at < most_bytes
  pub begins : spells t.text.now (codes "$(") ≡ false
  pub closes : spells t.text.now (codes "$)") ≡ false
  pub dollar : has_dollar ≡ holds_dollar t.text.now

-- what a part of a comment comes to
abbrev pub GoesOn : Position → PlainToken → Result Comment Wrong → Type 0
GoesOn p begin (Ok (Open after)) = IsLater p after × (comment_at begin p ≡ comment_at begin after)
GoesOn p begin (Ok (Closed after)) = IsLater p after × (comment_at begin p ≡ shown_at after)
GoesOn p begin (Err w) = IsBroken (comment_at begin p) w

-- what the whole comment comes to
abbrev pub EndsComment : Position → PlainToken → Result Position Wrong → Type 0
EndsComment p begin (Ok after) = IsLater p after × (comment_at begin p ≡ shown_at after)
EndsComment p begin (Err w) = IsBroken (comment_at begin p) w

-- a comment comes next: the position after its `$(`, and that token
abbrev pub BeginsNext : Position → Option (Position × Token) → Type 0
BeginsNext p (Some found) =
    IsLater p found.0 × (shown_at p ≡ comment_at (plain_token found.1) found.0)
    × (found.1.at < most_bytes)
BeginsNext p None = Unit {0}

-- one token or comment is taken
abbrev pub TakesOne : Position → Result Found Wrong → Position → Type 0
TakesOne old (Ok (found.Token t has_dollar)) new =
    (shown_at old ≡ Clear (plain_token t) ∷ shown_at new) × IsClear t has_dollar
TakesOne old (Ok found.Comment) new = (old.at < new.at) × (shown_at old ≡ shown_at new)
TakesOne old (Ok found.End) new = shown_at old ≡ []
TakesOne old (Err w) new = IsBroken (shown_at old) w

-- the next token is taken, a word that no comment comes before; or nothing is
abbrev pub TakesWordAt : Position → Option Token → Position → Type 0
TakesWordAt old (Some t) new =
    (shown_at old ≡ Clear (plain_token t) ∷ shown_at new) × IsClear t false
TakesWordAt old None new = new ≡ old

-- the first of what stands outside comments is taken, and the rest is left
abbrev pub TakesShown : List Shown → Result (Option (Token × Bool)) Wrong → List Shown → Type 0
TakesShown old (Ok (Some found)) new =
    (old ≡ Clear (plain_token found.0) ∷ new) × IsClear found.0 found.1
TakesShown old (Ok None) new = old ≡ []
TakesShown old (Err w) new = IsBroken old w
