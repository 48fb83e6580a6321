-- From the bytes of files to their items, in four layers: tokens, what is shown of them, pieces,
-- items. For each layer: what every step of it keeps holds of the whole.
use Rattle.std.proofs.Common.{◌≡◌, ℕ, zero, suc, List, [], ◌∷◌, ◌++◌, Bool, true, false}
use Rattle.std.proofs.Common.{cond, not, codes, refl, Option, Some, None, slice_get, slice_index_or}
use Rattle.std.proofs.Common.{slice_set}
use Rattle.std.specs.List.{list_all}
use Rattle.std.proofs.lemmas.Bool.{cond_both}
use Rattle.mm_text.specs.declared.fault.TextRule.{TextRule}
use Rattle.mm_text.specs.declared.fault.TextRule.TheVariants.{X1, X2, X3, X4, X5, X7}
use Rattle.mm_base.specs.Token.{PlainToken, is_printable}
use Rattle.mm_text.specs.Files.{PlainFile}
use Rattle.mm_text.specs.Items.{Item, Plain, Wrong, Inclusion, End, Shown, Clear, Broken}
use Rattle.mm_text.specs.Items.{without_comments, holds_dollar, holds_mark, Spot, Outside}
use Rattle.mm_base.specs.Spelling.{spells}
use Rattle.mm_text.specs.Items.{Naming, Closing, Piece, Met, Named, broken_outside, pieces}
use Rattle.mm_text.specs.Items.{pieces_of, file_number, with_inclusions, put_before, put_in}

-- what is shown of tokens: each is shown, belongs to a comment, or a fault ends all
module _ (P : List PlainToken → List Shown → Type 0) (nothing : P [] [])
    (broken : (tokens : List PlainToken) (rule : TextRule) (t : PlainToken)
    → P tokens (Broken rule t ∷ []))
    (comment : (t : PlainToken) (tokens : List PlainToken) (shown : List Shown) → P tokens shown
    → P (t ∷ tokens) shown)
    (clear : (t : PlainToken) (tokens : List PlainToken) (shown : List Shown) → P tokens shown
    → P (t ∷ tokens) (Clear t ∷ shown)) where
  pub shown_by : (begin : Option PlainToken) (tokens : List PlainToken)
      → P tokens (without_comments begin tokens)
  unfolding without_comments
  shown_by None [] = nothing
  shown_by (Some begin) [] = broken [] X2 begin
  shown_by None (t ∷ tokens) =
      let So : List Shown → Type 0 = P (t ∷ tokens) in
      let inside = comment t tokens _ (shown_by (Some t) tokens) in
      cond_both (not (list_all is_printable t.text)) _ _ So (λ _. broken (t ∷ tokens) X1 t)
      (λ _. cond_both (spells t.text (codes "$(")) _ _ So (λ _. inside)
      (λ _. cond_both (spells t.text (codes "$)")) _ _ So (λ _. broken (t ∷ tokens) X4 t)
      (λ _. clear t tokens _ (shown_by None tokens))))
  shown_by (Some begin) (t ∷ tokens) =
      let So : List Shown → Type 0 = P (t ∷ tokens) in
      let inside = comment t tokens _ (shown_by (Some begin) tokens) in
      let outside = comment t tokens _ (shown_by None tokens) in
      cond_both (not (list_all is_printable t.text)) _ _ So (λ _. broken (t ∷ tokens) X1 t)
      (λ _. cond_both (spells t.text (codes "$)")) _ _ So (λ _. outside)
      (λ _. cond_both (holds_mark t.text) _ _ So (λ _. broken (t ∷ tokens) X3 t) (λ _. inside)))

-- the pieces of what is shown: each token is one, belongs to an inclusion, or a fault ends all
module _ (file : ℕ) (P : List Shown → List Piece → Type 0) (end : P [] (Met (End file) ∷ []))
    (wrong : (shown : List Shown) (rule : TextRule) (t : PlainToken)
    → P shown (Met (Wrong rule t) ∷ []))
    (plain : (t : PlainToken) (shown : List Shown) (ps : List Piece) → P shown ps
    → P (Clear t ∷ shown) (Met (Plain t) ∷ ps))
    (inclusion : (t : PlainToken) (shown : List Shown) (ps : List Piece) → P shown ps
    → P (Clear t ∷ shown) (Met (Inclusion t) ∷ ps))
    (name : (t : PlainToken) (shown : List Shown) (ps : List Piece) → P shown ps
    → P (Clear t ∷ shown) ps)
    (named : (t name : PlainToken) (shown : List Shown) (ps : List Piece) → P shown ps
    → P (Clear t ∷ shown) (Named name ∷ ps)) where
  pub pieces_by : (spot : Spot) (shown : List Shown) → P shown (pieces file spot shown)
  unfolding pieces
  pieces_by Outside [] = end
  pieces_by (Naming begin) [] = wrong [] X5 begin
  pieces_by (Closing begin called) [] = wrong [] X5 begin
  pieces_by Outside (Clear t ∷ rest) =
      let naming = inclusion t rest _ (pieces_by (Naming t) rest) in
      cond_both (spells t.text (codes "$[")) _ _ (P (Clear t ∷ rest)) (λ _. naming)
      (λ _. go (plain t rest _ (pieces_by Outside rest)) (broken_outside t.text))
    where
      go : P (Clear t ∷ rest) (Met (Plain t) ∷ pieces file Outside rest) → (o : Option TextRule)
          → P (Clear t ∷ rest) (elim o [
            | Some rule ↦ Met (Wrong rule t) ∷ []
            | None ↦ Met (Plain t) ∷ pieces file Outside rest
          ])
      go inner None = inner
      go inner (Some rule) = wrong (Clear t ∷ rest) rule t
  pieces_by (Naming begin) (Clear t ∷ rest) =
      cond_both (holds_dollar t.text) _ _ (P (Clear t ∷ rest))
      (λ _. wrong (Clear t ∷ rest) X5 t) (λ _. name t rest _ (pieces_by (Closing begin t) rest))
  pieces_by (Closing begin called) (Clear t ∷ rest) =
      cond_both (spells t.text (codes "$]")) _ _ (P (Clear t ∷ rest))
      (λ _. named t called rest _ (pieces_by Outside rest)) (λ _. wrong (Clear t ∷ rest) X5 t)
  pieces_by _ (Broken rule t ∷ rest) = wrong (Broken rule t ∷ rest) rule t

-- pieces before which a file is put
pub put_before_by : (P : List Piece → Type 0) (files : List PlainFile) (n : ℕ) (rest : List Piece)
    → P rest → ((file : PlainFile) → slice_get files n ≡ Some file → P (pieces_of n file ++ rest))
    → P (put_before files n rest)
put_before_by P files n rest none some = go (slice_get files n) refl
  where
    go : (o : Option PlainFile) → slice_get files n ≡ o
        → P (elim o [ None ↦ rest | Some f ↦ pieces_of n f ++ rest ])
    go None e = none
    go (Some file) e = some file e

-- The items of pieces, of which so many more may name a file that is put in: each piece is an item,
-- names a file, or a fault ends all.
module _ (files : List PlainFile) (P : ℕ → List Bool → List Piece → List Item → Type 0)
    (nothing : (left : ℕ) (named : List Bool) → P left named [] [])
    (wrong : (left : ℕ) (named : List Bool) (p : Piece) (ps : List Piece) (rule : TextRule)
    (t : PlainToken) → P left named (p ∷ ps) (Wrong rule t ∷ []))
    (plain : (left : ℕ) (named : List Bool) (t : PlainToken) (ps : List Piece) (its : List Item)
    → P left named ps its → P left named (Met (Plain t) ∷ ps) (Plain t ∷ its))
    (inclusion : (left : ℕ) (named : List Bool) (t : PlainToken) (ps : List Piece)
    (its : List Item) → P left named ps its
    → P left named (Met (Inclusion t) ∷ ps) (Inclusion t ∷ its))
    (end : (left : ℕ) (named : List Bool) (n : ℕ) (ps : List Piece) (its : List Item)
    → P left named ps its → P left named (Met (End n) ∷ ps) (End n ∷ its))
    (again : (left : ℕ) (named : List Bool) (name : PlainToken) (ps : List Piece)
    (its : List Item) → P left named ps its → P left named (Named name ∷ ps) its)
    (none_left : (named : List Bool) (name : PlainToken) (n : ℕ) (ps : List Piece)
    → slice_index_or named n true ≡ false → P zero named (Named name ∷ ps) [])
    (first : (left : ℕ) (named : List Bool) (name : PlainToken) (n : ℕ) (ps : List Piece)
    (its : List Item) → slice_index_or named n true ≡ false
    → P left (slice_set named n true) (put_before files n ps) its
    → P (suc left) named (Named name ∷ ps) its) where
  spliced_by : (left : ℕ) (named : List Bool) (next : ℕ → List Piece → List Item)
      → ((name : PlainToken) (n : ℕ) (ps : List Piece) → slice_index_or named n true ≡ false
      → P left named (Named name ∷ ps) (next n ps))
      → (ps : List Piece) → P left named ps (with_inclusions files named next ps)
  unfolding with_inclusions
  spliced_by left named next on [] = nothing left named
  spliced_by left named next on (Met (Plain t) ∷ ps) =
      plain left named t ps _ (spliced_by left named next on ps)
  spliced_by left named next on (Met (Wrong rule t) ∷ ps) = wrong left named _ ps rule t
  spliced_by left named next on (Met (Inclusion t) ∷ ps) =
      inclusion left named t ps _ (spliced_by left named next on ps)
  spliced_by left named next on (Met (End n) ∷ ps) =
      end left named n ps _ (spliced_by left named next on ps)
  spliced_by left named next on (Named name ∷ ps) =
      go (again left named name ps _ (spliced_by left named next on ps))
      (file_number files name.text)
    where
      go : P left named (Named name ∷ ps) (with_inclusions files named next ps) → (o : Option ℕ)
          → P left named (Named name ∷ ps) (elim o [
            | None ↦ Wrong X7 name ∷ []
            | Some n ↦ cond (slice_index_or named n true) (with_inclusions files named next ps)
                (next n ps)
          ])
      go inner None = wrong left named _ ps X7 name
      go inner (Some n) =
          cond_both (slice_index_or named n true) _ _ (P left named (Named name ∷ ps))
          (λ _. inner) (λ e. on name n ps e)

  pub put_in_by : (left : ℕ) (named : List Bool) (ps : List Piece)
      → P left named ps (put_in files left named ps)
  unfolding put_in
  put_in_by zero named ps = spliced_by zero named (λ n after. []) (none_left named) ps
  put_in_by (suc left) named ps =
      spliced_by (suc left) named _ (λ name n rest e. first left named name n rest _ e
      (put_in_by left (slice_set named n true) (put_before files n rest))) ps
