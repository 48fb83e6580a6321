-- What holds of all tokens among the items of files; so each is the slice of its file's bytes at its
-- position.
use Rattle.std.proofs.Common.{◌≡◌, ℕ, suc, ◌+◌, length, take, drop, List, ◌∷◌, refl, sym, ap, ◌∙◌}
use Rattle.std.proofs.Common.{zero, ◌-◌, ◌&&◌, ◌≤◌, [], replicate, Bool, true, false, cond, not}
use Rattle.std.proofs.Common.{codes, Option, Some, None, ◌⊎◌, inl, inr, arith, drop-drop, slice_get}
use Rattle.std.proofs.Common.{slice_set}
use Rattle.std.specs.List.{AllByRecursion, list_any, list_all}
use Rattle.std.proofs.lemmas.Bool.{cond_both}
use Rattle.mm_base.specs.Token.{PlainToken, tokens_from, HoldsNoDollar, is_printable}
use Rattle.mm_text.specs.declared.fault.TextRule.{TextRule}
use Rattle.mm_text.specs.declared.fault.TextRule.TheVariants.{X4, X9}
use Rattle.mm_base.specs.Statement.{IsKeyword, keywords}
use Rattle.mm_text.specs.Files.{PlainFile}
use Rattle.mm_text.specs.Items.{Item, Plain, Wrong, Inclusion, End, Shown, Clear, Broken}
use Rattle.mm_text.specs.Items.{without_comments, holds_dollar, holds_mark, Spot, Outside}
use Rattle.mm_base.specs.Spelling.{spells}
use Rattle.mm_text.specs.Items.{Naming, Closing, Piece, Met, Named, broken_outside, pieces}
use Rattle.mm_text.specs.Items.{pieces_of, file_number, with_inclusions, put_before, put_in}
use Rattle.mm_text.specs.Items.{plain_tokens, items}
use Rattle.mm_text.specs.Reading.{IsSliceOf}
use Rattle.mm_base.proofs.TokensByByte.{tokens_by}
use Rattle.mm_text.proofs.Tokens.StepByStep.{put_before_by}
use Rattle.mm_text.proofs.Reader.OneToken.{IsSigned, is_keyword-true}
use Rattle.mm_base.proofs.Lists.{all_append, all_weaker}
use Rattle.mm_text.proofs.Inclusions.FilePieces.{named_related}

-- ==== each token of a file is the slice of its bytes at its position

-- ---- tokens of a file

-- a token stands in the bytes of its file
pub record StandsIn (file : ℕ) (bytes : List ℕ) (t : PlainToken) : Type 0 where
  pub home : t.file ≡ file
  pub text : take (length t.text) (drop t.at bytes) ≡ t.text

drop_next : (bytes rest : List ℕ) (at b : ℕ) → drop at bytes ≡ b ∷ rest → drop (at + 1) bytes ≡ rest
drop_next bytes rest at b e = sym (drop-drop 1 at bytes) ∙ ap (drop 1) e

tokens_stand : (file at : ℕ) (bytes rest : List ℕ) → drop at bytes ≡ rest → AllByRecursion (StandsIn file bytes) (tokens_from file at rest)
tokens_stand file at bytes rest e =
    tokens_by file (λ n bs tokens. drop n bytes ≡ bs → AllByRecursion (StandsIn file bytes) tokens)
    (λ n here. tt) (λ n b bs tokens inner here. inner (drop_next bytes bs n b here))
    (λ n b bs tokens inner here.
    (record { home = refl; text = ap (take 1) here }, inner (drop_next bytes bs n b here)))
    (λ n b bs t tokens p inner here.
    let next = drop_next bytes bs n b here in
    let so = inner next in (
      record {
        home = refl;
        text = ap (take (suc (length t.text))) here ∙ ap (λ (x : List ℕ). b ∷ x)
            (ap (take (length t.text)) (sym next ∙ ap (λ (k : ℕ). drop k bytes) (sym p)) ∙ so.0.text);
      },
      so.1,
    )) at rest e

-- each token of a file is the slice of its bytes at its position
pub tokens_in_place : (file : ℕ) (bytes : List ℕ) → AllByRecursion (StandsIn file bytes) (tokens_from file 0 bytes)
tokens_in_place file bytes = tokens_stand file 0 bytes bytes refl

-- ==== what holds of all tokens among the items of files

-- ---- tokens of one file

-- each token holds a byte
abbrev pub HoldsByte : PlainToken → Type 0
HoldsByte t = 1 ≤ length t.text

-- ---- tokens that are shown

-- the token that is shown, of a fault too, is so
abbrev pub ShownIs : (PlainToken → Type 0) → Shown → Type 0
ShownIs P (Clear t) = P t
ShownIs P (Broken rule t) = P t

-- the `$(` of an open comment is so
abbrev pub BegunIs : (PlainToken → Type 0) → Option PlainToken → Type 0
BegunIs P None = Unit {0}
BegunIs P (Some begin) = P begin

-- what holds of tokens holds of those that are shown of them
pub shown_all : (P : PlainToken → Type 0) (begin : Option PlainToken) (tokens : List PlainToken)
    → BegunIs P begin → AllByRecursion P tokens
    → AllByRecursion (ShownIs P) (without_comments begin tokens)
unfolding without_comments
shown_all P None [] b h = tt
shown_all P (Some begin) [] b h = (b, tt)
shown_all P None (t ∷ tokens) b h =
    let So : List Shown → Type 0 = AllByRecursion (ShownIs P) in
    cond_both (not (list_all is_printable t.text)) _ _ So (λ _. (h.0, tt))
    (λ _. cond_both (spells t.text (codes "$(")) _ _ So (λ _. shown_all P (Some t) tokens h.0 h.1)
    (λ _. cond_both (spells t.text (codes "$)")) _ _ So (λ _. (h.0, tt))
    (λ _. (h.0, shown_all P None tokens tt h.1))))
shown_all P (Some begin) (t ∷ tokens) b h =
    let So : List Shown → Type 0 = AllByRecursion (ShownIs P) in
    let inside = shown_all P (Some begin) tokens b h.1 in
    cond_both (not (list_all is_printable t.text)) _ _ So (λ _. (h.0, tt))
    (λ _. cond_both (spells t.text (codes "$)")) _ _ So (λ _. shown_all P None tokens tt h.1)
    (λ _. cond_both (holds_mark t.text) _ _ So (λ _. (h.0, tt)) (λ _. inside)))

-- ---- tokens among pieces

-- the token of an item is so, and signed where it breaks no rule, or the file that ends is so
abbrev pub ItemOf : (PlainToken → Type 0) → (ℕ → Type 0) → Item → Type 0
ItemOf P E (Plain t) = P t × IsSigned t
ItemOf P E (Wrong rule t) = P t
ItemOf P E (Inclusion t) = P t
ItemOf P E (End n) = E n

abbrev pub ItemIs : (PlainToken → Type 0) → Item → Type 0
ItemIs P item = ItemOf P (λ n. Unit {0}) item

-- the tokens of an inclusion so far are so
abbrev SpotIs : (PlainToken → Type 0) → Spot → Type 0
SpotIs P Outside = Unit {0}
SpotIs P (Naming begin) = P begin
SpotIs P (Closing begin name) = P begin × P name

-- a token that isn't broken is a keyword or holds no `$`
unbroken_signed : (text : List ℕ) → broken_outside text ≡ None → IsKeyword text ⊎ HoldsNoDollar text
unbroken_signed text ok = go (spells text (codes "$]")) (holds_dollar text) (list_any (spells text) keywords) ok refl refl
  where
    go : (a b c : Bool) → cond a (Some X4) (cond (b && not c) (Some X9) None) ≡ None → holds_dollar text ≡ b → list_any (spells text) keywords ≡ c → IsKeyword text ⊎ HoldsNoDollar text
    go false true true e f g = inl (is_keyword-true text g)
    go false false c e f g = inr f
    go _ _ _ e f g = absurd cc

module _ (P : PlainToken → Type 0) (E : ℕ → Type 0) where
  -- the token of a piece is so
  abbrev PieceIs : Piece → Type 0
  PieceIs (Met item) = ItemOf P E item
  PieceIs (Named name) = P name

  -- what holds of the tokens that are shown holds of those among the pieces
  pieces_all : (file : ℕ) (spot : Spot) (shown : List Shown) → E file → SpotIs P spot
      → AllByRecursion (ShownIs P) shown → AllByRecursion PieceIs (pieces file spot shown)
  unfolding pieces
  pieces_all file Outside [] end s h = (end, tt)
  pieces_all file (Naming begin) [] end s h = (s, tt)
  pieces_all file (Closing begin name) [] end s h = (s.0, tt)
  pieces_all file spot (Broken rule t ∷ rest) end s h = (h.0, tt)
  pieces_all file Outside (Clear t ∷ rest) end s h =
      let naming = pieces_all file (Naming t) rest end h.0 h.1 in
      let outside = pieces_all file Outside rest end tt h.1 in
      cond_both (spells t.text (codes "$[")) _ _ (AllByRecursion PieceIs)
      (λ _. (h.0, naming)) (λ _. go outside (broken_outside t.text) refl)
    where
      go : AllByRecursion PieceIs (pieces file Outside rest) → (o : Option TextRule)
          → broken_outside t.text ≡ o
          → AllByRecursion PieceIs (elim o [ Some rule ↦ Met (Wrong rule t) ∷ [] | None ↦ Met (Plain t) ∷ pieces file Outside rest ])
      go inner None e = ((h.0, unbroken_signed t.text e), inner)
      go inner (Some rule) e = (h.0, tt)
  pieces_all file (Naming begin) (Clear t ∷ rest) end s h =
      cond_both (holds_dollar t.text) _ _ (AllByRecursion PieceIs)
      (λ _. (h.0, tt)) (λ _. pieces_all file (Closing begin t) rest end (s, h.0) h.1)
  pieces_all file (Closing begin name) (Clear t ∷ rest) end s h =
      cond_both (spells t.text (codes "$]")) _ _ (AllByRecursion PieceIs)
      (λ _. (s.1, pieces_all file Outside rest end tt h.1)) (λ _. (h.0, tt))

  -- ---- tokens among the items of all files

  spliced_all : (files : List PlainFile) (named : List Bool) (next : ℕ → List Piece → List Item)
      → ((n : ℕ) (rest : List Piece) → AllByRecursion PieceIs rest
      → AllByRecursion (ItemOf P E) (next n rest))
      → (ps : List Piece) → AllByRecursion PieceIs ps
      → AllByRecursion (ItemOf P E) (with_inclusions files named next ps)
  unfolding with_inclusions
  spliced_all files named next goes [] h = tt
  spliced_all files named next goes (Met (Wrong rule t) ∷ rest) h = (h.0, tt)
  spliced_all files named next goes (Met _ ∷ rest) h =
      (h.0, spliced_all files named next goes rest h.1)
  spliced_all files named next goes (Named name ∷ rest) h =
      let inner = spliced_all files named next goes rest h.1 in
      named_related (λ its _. AllByRecursion (ItemOf P E) its) named name name _ []
      (λ n. next n rest) (λ _. []) (h.0, tt) inner (λ n e. goes n rest h.1)
      (file_number files name.text) _ refl

  put_in_all : (files : List PlainFile) (left : ℕ) (named : List Bool) (ps : List Piece)
      → ((n : ℕ) (f : PlainFile) → slice_get files n ≡ Some f
      → AllByRecursion PieceIs (pieces_of n f))
      → AllByRecursion PieceIs ps → AllByRecursion (ItemOf P E) (put_in files left named ps)
  unfolding put_in
  put_in_all files zero named ps all h =
      spliced_all files named (λ n after. []) (λ n rest k. tt) ps h
  put_in_all files (suc left) named ps all h =
      spliced_all files named
      (λ n after. put_in files left (slice_set named n true) (put_before files n after))
      (λ n rest k. put_in_all files left (slice_set named n true) (put_before files n rest) all
      (put_before_by (AllByRecursion PieceIs) files n rest k
      (λ f there. all_append PieceIs (pieces_of n f) rest (all n f there) k))) ps h

  -- what holds of the tokens of each file holds of all those among the items, of faults too
  pub all_items_of : (files : List PlainFile)
      → ((n : ℕ) (f : PlainFile) → slice_get files n ≡ Some f
      → AllByRecursion P (tokens_from n 0 f.bytes) × E n)
      → AllByRecursion (ItemOf P E) (items files)
  all_items_of [] each = tt
  all_items_of (top ∷ others) each =
      let all = λ (n : ℕ) (f : PlainFile) (there : slice_get (top ∷ others) n ≡ Some f).
      let (so, end) = each n f there in
      pieces_all n Outside _ end tt (shown_all P None (tokens_from n 0 f.bytes) tt so) in
      put_in_all (top ∷ others) (length others) (true ∷ replicate (length others) false)
      (pieces_of 0 top) all (all 0 top refl)

pub all_items : (P : PlainToken → Type 0) (files : List PlainFile)
    → ((n : ℕ) (f : PlainFile) → slice_get files n ≡ Some f
    → AllByRecursion P (tokens_from n 0 f.bytes))
    → AllByRecursion (ItemIs P) (items files)
all_items P files each = all_items_of P (λ n. Unit {0}) files (λ n f there. (each n f there, tt))

-- and so of those that break no rule
plain_all : (P Q : PlainToken → Type 0) → ((t : PlainToken) → P t × IsSigned t → Q t)
    → (its : List Item) → AllByRecursion (ItemIs P) its → AllByRecursion Q (plain_tokens its)
plain_all P Q f [] h = tt
plain_all P Q f (Plain t ∷ its) h = (f t h.0, plain_all P Q f its h.1)
plain_all P Q f (_ ∷ its) h = plain_all P Q f its h.1

-- ---- what holds of them

-- each token is the slice of its file at its position
pub items_in_place : (files : List PlainFile) → AllByRecursion (IsSliceOf files) (plain_tokens (items files))
items_in_place files =
    plain_all (IsSliceOf files) _ (λ t h. h.0) (items files) (all_items (IsSliceOf files) files (λ n f there.
    let slice : (t : PlainToken) → StandsIn n f.bytes t → IsSliceOf files t = λ t h.
    let long : (t.at + length t.text) - t.at ≡ length t.text = omega arith in (
      f,
      ap (slice_get files) h.home ∙ there,
      ap (λ (k : ℕ). take k (drop t.at f.bytes)) long ∙ h.text,
    ) in
    all_weaker (StandsIn n f.bytes) (IsSliceOf files) slice (tokens_from n 0 f.bytes) (tokens_in_place n f.bytes)))

bytes_held : (files : List PlainFile) → AllByRecursion (ItemIs HoldsByte) (items files)
bytes_held files = all_items HoldsByte files (λ n f there.
    tokens_by n (λ _ _ tokens. AllByRecursion HoldsByte tokens) (λ at. tt)
    (λ at b bs tokens inner. inner) (λ at b bs tokens inner. (omega arith, inner))
    (λ at b bs t tokens e inner. (omega arith, inner.1)) 0 f.bytes)

-- each token holds a byte
pub items_some : (files : List PlainFile) → AllByRecursion HoldsByte (plain_tokens (items files))
items_some files = plain_all HoldsByte _ (λ t h. h.0) (items files) (bytes_held files)

-- each token is a keyword or holds no `$`
pub items_signed : (files : List PlainFile) → AllByRecursion IsSigned (plain_tokens (items files))
items_signed files = plain_all HoldsByte _ (λ t h. h.1) (items files) (bytes_held files)
