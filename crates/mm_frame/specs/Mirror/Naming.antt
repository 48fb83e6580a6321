-- How a book's lists change as a label is named. This file mirrors the code, and is cited by
-- private contracts alone.
use Rattle.std.specs.Prelude.{◌≡◌, ℕ, ◌+◌, ◌<◌, ◌≤◌, vec_len, vec_capacity, length, List, [], ◌∷◌}
use Rattle.std.specs.Prelude.{◌++◌, Some}
use Rattle.mm_base.specs.declared.statement.Kind.{Kind}
use Rattle.mm_base.specs.declared.statement.Kind.TheVariants.{Closing}
use Rattle.mm_frame.specs.declared.number.LabelId.{LabelId}
use Rattle.mm_frame.specs.declared.number.Sym.{Sym}
use Rattle.mm_frame.specs.declared.tables.Entry.{Entry}
use Rattle.mm_frame.specs.declared.tables.LabelInfo.{LabelInfo}
use Rattle.mm_frame.specs.declared.part.Part.{Part}
use Rattle.mm_frame.specs.declared.tables.Tables.{Tables}
use Rattle.mm_frame.specs.Sentence.{Sentence}
use Rattle.mm_frame.specs.Active.{open_marks, close_marks}
use Rattle.mm_frame.specs.Numbers.{with_name}
use Rattle.mm_frame.specs.Mirror.ScopesOf.{HaveScopes, HasRoom}
use Rattle.mm_frame.specs.Mirror.Grows.{entry_of}

-- where elements stand that are added to the end of a list
abbrev pub part_after : {X : Type 0} → List X → List X → Part
part_after xs more = record { start = length xs; end = length (xs ++ more) }

-- where the hypotheses, the pairs and the pattern of an assertion stand
abbrev pub FrameParts : Type 0
FrameParts = Part × Part × Part

abbrev pub label_info : ℕ → Entry → FrameParts → LabelInfo
label_info index e frame = record {
  index = index;
  kind = e.kind;
  symbols = e.symbols;
  hypotheses = frame.0;
  pairs = frame.1;
  conclusion = frame.2;
}

-- there is room for a label, and for the entry of its statement of so many symbols
pub record HaveNameRoom (t : Tables) (symbols : ℕ) : Type 0 where
  pub log : vec_len t.log < vec_capacity t.log
  pub flat : vec_len t.flat + symbols ≤ vec_capacity t.flat
  pub named : vec_len t.named < vec_capacity t.named
  pub labels : 0 < t.labels.room
  pub scopes : HasRoom t.scopes
  pub few : length t.log.items + length t.flat.items + symbols < 4294967296

-- one label more was written, and the entry of its statement, which has these symbols
pub record Named (old new : Tables) (kind : Kind) (label : List ℕ) (numbers : List Sym)
    (frame : FrameParts) (id : LabelId) (bytes : ℕ) : Type 0 where
  pub symbols : new.symbols.names ≡ old.symbols.names
  pub infos : new.infos.items ≡ old.infos.items
  pub labels : new.labels.names ≡ with_name old.labels.names label
  pub named : new.named.items
      ≡ old.named.items
      ++ label_info (length old.log.items)
      (entry_of kind (Some id) (length old.flat.items) (length (old.flat.items ++ numbers))) frame
      ∷ []
  pub log : new.log.items
      ≡ old.log.items
      ++ entry_of kind (Some id) (length old.flat.items) (length (old.flat.items ++ numbers)) ∷ []
  pub flat : new.flat.items ≡ old.flat.items ++ numbers
  pub scopes :
      (statements : List Sentence) (s : Sentence) → HaveScopes statements old.scopes → s.kind ≡ kind
      → (kind ≡ Closing → close_marks statements < open_marks statements)
      → HaveScopes (statements ++ s ∷ []) new.scopes
  pub essentials : new.essentials.items ≡ old.essentials.items
  pub hypotheses : new.hypotheses.items ≡ old.hypotheses.items
  pub pairs : new.pairs.items ≡ old.pairs.items
  pub pieces : new.pieces.items ≡ old.pieces.items
  pub stated : new.distinct.stated ≡ old.distinct.stated
  pub counted : new.bytes ≡ old.bytes + bytes
