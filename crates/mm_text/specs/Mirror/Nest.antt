-- How the code goes through the files: the one that is read, and those that wait for the end of one
-- that they include. This file mirrors the code, and is cited by private contracts, and by the
-- model and invariant of `Cursor`.
use Rattle.std.specs.Prelude.{◌≡◌, ℕ, ◌+◌, ◌<◌, ◌≤◌, ◌++◌, List, [], ◌∷◌, Bool, false, not, length}
use Rattle.std.specs.Prelude.{map, count_by, if◌then◌else◌, Option, Some, None, IfSome, Result, Ok}
use Rattle.std.specs.Prelude.{Err, vec_len, vec_capacity}
use Rattle.std.specs.List.{AllByRecursion}
use Rattle.mm_text.specs.declared.comments.Position.{Position}
use Rattle.mm_text.specs.declared.comments.Wrong.{Wrong}
use Rattle.mm_text.specs.declared.nest.Nest.{Nest}
use Rattle.mm_text.specs.declared.next.Next.{Next}
use Rattle.mm_text.specs.declared.next.Next.TheVariants as next
use Rattle.mm_base.specs.declared.token.Token.{Token}
use Rattle.mm_text.specs.declared.class.Class.{Class}
use Rattle.mm_text.specs.declared.class.Class.TheVariants as class
use Rattle.mm_base.specs.Token.{PlainToken, plain_token}
use Rattle.mm_base.specs.MostBytes.{most_bytes}
use Rattle.mm_text.specs.Files.{plain_file, total_bytes}
use Rattle.mm_text.specs.Items as items
use Rattle.mm_text.specs.Items.{Item, Plain, Inclusion, End, Piece, Met, Named, Spot, Outside}
use Rattle.mm_text.specs.Items.{Naming, Closing, Clear, pieces, put_in, file_number}
use Rattle.mm_text.specs.Mirror.Position.{IsPosition, IsClear, shown_at}
use Rattle.mm_text.specs.Mirror.Next.{IsOfClass}

-- ---- one file

-- a fault at which a text is wrong
abbrev pub wrong_item : Wrong → Item
wrong_item w = items.Wrong w.rule (plain_token w.token)

-- the pieces that begin with a token of a class
abbrev pub pieces_with : PlainToken → Class → List Piece → List Piece
pieces_with t (class.Wrong rule) rest = Met (items.Wrong rule t) ∷ []
pieces_with t (class.Keyword keyword) rest = Met (Plain t) ∷ rest
pieces_with t class.Word rest = Met (Plain t) ∷ rest

-- the first piece of a file is taken, outside inclusions
abbrev pub TakesPiece : Position → Next → Position → Type 0
TakesPiece old (next.Token t kind) new =
    (pieces old.file Outside (shown_at old)
    ≡ pieces_with (plain_token t) kind (pieces old.file Outside (shown_at new)))
    × IsOfClass (plain_token t) kind × (t.at < most_bytes)
TakesPiece old (next.Inclusion t) new =
    (pieces old.file Outside (shown_at old)
    ≡ Met (Inclusion (plain_token t)) ∷ pieces old.file (Naming (plain_token t)) (shown_at new))
    × (t.at < most_bytes)
TakesPiece old (next.End file) new = pieces old.file Outside (shown_at old) ≡ Met (End file) ∷ []
TakesPiece old next.Nothing new = ⊥

-- the first token in an inclusion is taken; where that can't be, it is a fault before the name and
-- after it
abbrev pub TakesInner : PlainToken → Position → Result (Token × Bool) Wrong → Position → Type 0
TakesInner begin old (Ok found) new =
    (shown_at old ≡ Clear (plain_token found.0) ∷ shown_at new) × IsClear found.0 found.1
TakesInner begin old (Err w) new =
    (pieces old.file (Naming begin) (shown_at old) ≡ Met (wrong_item w) ∷ [])
    × ((name : PlainToken)
    → pieces old.file (Closing begin name) (shown_at old) ≡ Met (wrong_item w) ∷ [])
    × (w.token.at < most_bytes)

-- the rest of an inclusion is taken, up to its `$]`
abbrev pub TakesName : PlainToken → Position → Result Token Wrong → Position → Type 0
TakesName begin old (Ok name) new =
    (pieces old.file (Naming begin) (shown_at old)
    ≡ Named (plain_token name) ∷ pieces old.file Outside (shown_at new)) × (name.at < most_bytes)
TakesName begin old (Err w) new =
    (pieces old.file (Naming begin) (shown_at old) ≡ Met (wrong_item w) ∷ [])
    × (w.token.at < most_bytes)

-- ---- all files

-- what is left of the files that wait, the last of which goes on first
abbrev pub waiting : List Position → List Piece
waiting [] = []
waiting (p ∷ positions) = waiting positions ++ pieces p.file Outside (shown_at p)

-- where the next token stands, by the `$[` whose name wasn't read yet
abbrev pub spot_of : Option Token → Spot
spot_of None = Outside
spot_of (Some begin) = Naming (plain_token begin)

-- what is left of all files, in pieces
abbrev pub pieces_left : Nest → List Piece
pieces_left n = pieces n.position.file (spot_of n.naming) (shown_at n.position) ++ waiting n.«open».items

-- the items of pieces, with the files that weren't named yet put in
abbrev pub put_into : Nest → List Piece → List Item
put_into n rest =
    put_in (map plain_file n.files.now) (count_by not n.named.items) n.named.items rest

-- the items after the end of the file that is read
abbrev pub items_after : Nest → List Item
items_after n = put_into n (waiting n.«open».items)

-- the items that are left
abbrev pub items_left : Nest → List Item
items_left n =
    if n.is_over then [] else put_into n (pieces_left n)

-- What holds of the fields. For each file that wasn't named yet there is room to keep the position
-- after its name.
pub record IsNest (n : Nest) : Type 0 where
  pub position : IsPosition n.position
  pub waits : AllByRecursion IsPosition n.«open».items
  pub room : vec_len n.«open» + count_by not n.named.items ≤ vec_capacity n.«open»
  pub names : n.names ≡ map (λ f. f.name) (map plain_file n.files.now)
  pub named : length n.named.items ≡ length n.files.now
  pub small : total_bytes (map plain_file n.files.now) ≤ most_bytes
  pub naming : IfSome n.naming (λ begin. begin.at < most_bytes)

-- the file with a number is gone into, where it is named before the rest of a file
pub record Enters (old : Nest) (position : Position) (number : ℕ) (new : Nest) : Type 0 where
  pub left : (name : PlainToken)
      → file_number (map plain_file old.files.now) name.text ≡ Some number
      → items_left new
      ≡ put_into old
      (Named name ∷ pieces position.file Outside (shown_at position) ++ waiting old.«open».items)
  pub naming : new.naming ≡ None
  pub over : new.is_over ≡ false

-- what finishing an inclusion comes to
abbrev pub Includes : Nest → Option Wrong → Nest → Type 0
Includes old None new =
    (items_left new ≡ items_left old) × (new.naming ≡ None) × (new.is_over ≡ false)
Includes old (Some w) new = (items_left old ≡ wrong_item w ∷ []) × (w.token.at < most_bytes)
