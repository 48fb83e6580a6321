-- The items of the handed files: what is met as they are read, token by token, with comments left
-- out and the files put in that are named (the Metamath book, sections 4.1.2, 4.4.1 and 4.4.2).
use Rattle.std.specs.Prelude.{ℕ, zero, suc, ◌==◌, ◌&&◌, ◌||◌, List, [], ◌∷◌, ◌++◌, length}
use Rattle.std.specs.Prelude.{replicate, Bool, true, false, not, if◌then◌else◌, codes, Option, Some}
use Rattle.std.specs.Prelude.{None, slice_get, slice_set, slice_index_or, position}
use Rattle.std.specs.List.{list_any, list_all}
use Rattle.mm_text.specs.declared.fault.TextRule.{TextRule}
use Rattle.mm_text.specs.declared.fault.TextRule.TheVariants.{X1, X2, X3, X4, X5, X7, X9}
use Rattle.mm_base.specs.Token.{PlainToken, tokens_from, is_printable}
use Rattle.mm_text.specs.Files.{PlainFile}
use Rattle.mm_base.specs.Statement.{keywords}
use Rattle.mm_base.specs.Spelling.{spells}

-- What is met: a token that breaks no rule by itself; a fault, after which nothing follows; a `$[`,
-- whose own faults come after it; the end of a file.
pub data Item : Type 0 where
  Plain : (token : PlainToken) → Item
  Wrong : (rule : TextRule) (token : PlainToken) → Item
  Inclusion : (token : PlainToken) → Item
  End : (file : ℕ) → Item

-- a text holds a `$`
abbrev pub holds_dollar : List ℕ → Bool
holds_dollar text = list_any (λ b. b == 36) text

-- a text holds the sequence `$(` or `$)`
abbrev pub holds_mark : List ℕ → Bool
holds_mark [] = false
holds_mark (b ∷ []) = false
holds_mark (b ∷ c ∷ text) = (b == 36 && (c == 40 || c == 41)) || holds_mark (c ∷ text)

-- ---- comments

-- what stands in a file outside comments: a token, or a fault, after which nothing follows
pub data Shown : Type 0 where
  Clear : (token : PlainToken) → Shown
  Broken : (rule : TextRule) (token : PlainToken) → Shown

-- The tokens outside comments, where a comment is open since its `$(` or none is: the first one of
-- X1, X2, X3 and of X4 for `$)` ends them.
unfoldable pub without_comments : Option PlainToken → List PlainToken → List Shown
without_comments None [] = []
without_comments (Some begin) [] = Broken X2 begin ∷ []
without_comments None (t ∷ tokens) =
    if not (list_all is_printable t.text) then Broken X1 t ∷ []
    else (if spells t.text (codes "$(") then without_comments (Some t) tokens
    else (if spells t.text (codes "$)") then Broken X4 t ∷ []
    else Clear t ∷ without_comments None tokens))
without_comments (Some begin) (t ∷ tokens) =
    if not (list_all is_printable t.text) then Broken X1 t ∷ []
    else (if spells t.text (codes "$)") then without_comments None tokens
    else (if holds_mark t.text then Broken X3 t ∷ []
    else without_comments (Some begin) tokens))

-- ---- inclusions in one file

-- a piece of a file: an item, or the name of a file that is to be put in here
pub data Piece : Type 0 where
  Met : (item : Item) → Piece
  Named : (name : PlainToken) → Piece

-- where the next token stands: outside inclusions, after a `$[`, or after the name that follows it
pub data Spot : Type 0 where
  Outside : Spot
  Naming : (begin : PlainToken) → Spot
  Closing : (begin : PlainToken) (name : PlainToken) → Spot

-- the rule that a token breaks outside comments and inclusions: X4 for `$]`, or X9
abbrev pub broken_outside : List ℕ → Option TextRule
broken_outside text =
    if spells text (codes "$]") then Some X4
    else (if holds_dollar text && not (list_any (spells text) keywords) then Some X9
    else None)

-- The pieces of the file with a number. X5 is met at a token, or at the `$[` where the file ends
-- before its `$]`.
unfoldable pub pieces : ℕ → Spot → List Shown → List Piece
pieces file Outside [] = Met (End file) ∷ []
pieces file (Naming begin) [] = Met (Wrong X5 begin) ∷ []
pieces file (Closing begin name) [] = Met (Wrong X5 begin) ∷ []
pieces file spot (Broken rule t ∷ rest) = Met (Wrong rule t) ∷ []
pieces file Outside (Clear t ∷ rest) =
    if spells t.text (codes "$[") then Met (Inclusion t) ∷ pieces file (Naming t) rest
    else elim (broken_outside t.text) [
      | Some rule ↦ Met (Wrong rule t) ∷ []
      | None ↦ Met (Plain t) ∷ pieces file Outside rest
    ]
pieces file (Naming begin) (Clear t ∷ rest) =
    if holds_dollar t.text then Met (Wrong X5 t) ∷ [] else pieces file (Closing begin t) rest
pieces file (Closing begin name) (Clear t ∷ rest) =
    if spells t.text (codes "$]") then Named name ∷ pieces file Outside rest
    else Met (Wrong X5 t) ∷ []

-- the pieces of a file from its beginning
abbrev pub pieces_of : ℕ → PlainFile → List Piece
pieces_of number file =
    pieces number Outside (without_comments None (tokens_from number 0 file.bytes))

-- ---- putting in

-- the number of the file that was handed in under a name
abbrev pub file_number : List PlainFile → List ℕ → Option ℕ
file_number files name = position (λ f. spells name f.name) files

-- The items of pieces, up to the first file that is named for the first time: there `next` goes on,
-- with the number of that file and the pieces after its name. For each file `named` tells whether
-- it was named before.
unfoldable pub with_inclusions : List PlainFile → List Bool → (ℕ → List Piece → List Item)
    → List Piece → List Item
with_inclusions files named next [] = []
with_inclusions files named next (Met (Wrong rule t) ∷ rest) = Wrong rule t ∷ []
with_inclusions files named next (Met item ∷ rest) = item ∷ with_inclusions files named next rest
with_inclusions files named next (Named name ∷ rest) = elim (file_number files name.text) [
  | None ↦ Wrong X7 name ∷ []
  | Some n ↦ if slice_index_or named n true then with_inclusions files named next rest
      else next n rest
]

-- the file with a number, in pieces, and the pieces after it
abbrev pub put_before : List PlainFile → ℕ → List Piece → List Piece
put_before files n rest =
    elim (slice_get files n) [ None ↦ rest | Some file ↦ pieces_of n file ++ rest ]

-- the items of pieces, with so many more files put in, each where it is named for the first time
unfoldable pub put_in : List PlainFile → ℕ → List Bool → List Piece → List Item
put_in files zero named rest = with_inclusions files named (λ n after. []) rest
put_in files (suc left) named rest =
    with_inclusions files named
    (λ n after. put_in files left (slice_set named n true) (put_before files n after)) rest

-- The items of the handed files: those of the first, the top file, with each of the others put in
-- where it is first named. At most as many files are put in as there are others; that a greater
-- bound would change nothing is a law.
abbrev pub items : List PlainFile → List Item
items [] = []
items (top ∷ others) =
    put_in (top ∷ others) (length others) (true ∷ replicate (length others) false) (pieces_of 0 top)

-- the tokens in items
abbrev pub plain_tokens : List Item → List PlainToken
plain_tokens [] = []
plain_tokens (Plain t ∷ rest) = t ∷ plain_tokens rest
plain_tokens (Wrong rule t ∷ rest) = plain_tokens rest
plain_tokens (Inclusion t ∷ rest) = plain_tokens rest
plain_tokens (End file ∷ rest) = plain_tokens rest

-- no item is a fault
abbrev pub HoldNoFault : List Item → Type 0
HoldNoFault [] = Unit {0}
HoldNoFault (Plain t ∷ rest) = HoldNoFault rest
HoldNoFault (Wrong rule t ∷ rest) = ⊥
HoldNoFault (Inclusion t ∷ rest) = HoldNoFault rest
HoldNoFault (End file ∷ rest) = HoldNoFault rest
