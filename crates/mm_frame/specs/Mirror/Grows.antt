-- How a book's lists change. This file mirrors the code, and is cited by private contracts alone.
use Rattle.std.specs.Prelude.{◌≡◌, ℕ, ◌+◌, ◌<◌, ◌≤◌, vec_len, vec_capacity, length, Option, List}
use Rattle.std.specs.Prelude.{[], ◌∷◌, ◌++◌}
use Rattle.mm_frame.specs.declared.tables.Tables.{Tables}
use Rattle.mm_frame.specs.Sentence.{Sentence}
use Rattle.mm_frame.specs.Mirror.ScopesOf.{HaveScopes, HasRoom, HaveSameLists}
use Rattle.mm_frame.specs.Active.{open_marks, close_marks}
use Rattle.mm_base.specs.declared.statement.Kind.{Kind}
use Rattle.mm_base.specs.declared.statement.Kind.TheVariants.{Closing}
use Rattle.mm_frame.specs.declared.number.LabelId.{LabelId}
use Rattle.mm_frame.specs.declared.tables.Entry.{Entry}
use Rattle.mm_frame.specs.Mirror.Layout.{AreTables, statements_of}

-- the new lists hold one statement more, whose tokens have so many bytes
pub record Grows (old new : Tables) (s : Sentence) (bytes : ℕ) : Type 0 where
  pub tables : AreTables new
  pub statements : statements_of new ≡ statements_of old ++ s ∷ []
  pub counted : new.bytes ≡ old.bytes + bytes

-- the new lists hold the same
pub record IsSame (old new : Tables) : Type 0 where
  pub tables : AreTables new
  pub statements : statements_of new ≡ statements_of old
  pub bytes : new.bytes ≡ old.bytes

-- the new lists are the same, but for their room
pub record SameLists (old new : Tables) : Type 0 where
  pub symbols : new.symbols.names ≡ old.symbols.names
  pub infos : new.infos.items ≡ old.infos.items
  pub labels : new.labels.names ≡ old.labels.names
  pub named : new.named.items ≡ old.named.items
  pub log : new.log.items ≡ old.log.items
  pub flat : new.flat.items ≡ old.flat.items
  pub scopes : HaveSameLists old.scopes new.scopes
  pub essentials : new.essentials.items ≡ old.essentials.items
  pub hypotheses : new.hypotheses.items ≡ old.hypotheses.items
  pub pairs : new.pairs.items ≡ old.pairs.items
  pub pieces : new.pieces.items ≡ old.pieces.items
  pub stated : new.distinct.stated ≡ old.distinct.stated
  pub bytes : new.bytes ≡ old.bytes

-- there is room for a statement of so many symbols, and for its label
pub record HaveRoom (t : Tables) (symbols : ℕ) : Type 0 where
  pub log : vec_len t.log < vec_capacity t.log
  pub flat : vec_len t.flat + symbols ≤ vec_capacity t.flat
  pub essentials : vec_len t.essentials < vec_capacity t.essentials
  pub named : vec_len t.named < vec_capacity t.named
  pub labels : 0 < t.labels.room
  pub scopes : HasRoom t.scopes
  pub few : length t.log.items + length t.flat.items + symbols < 4294967296

abbrev pub entry_of : Kind → Option LabelId → ℕ → ℕ → Entry
entry_of kind label start end =
    record { kind = kind; label = label; symbols = record { start = start; end = end } }

-- one entry more was written, whose symbols end where the list of symbols ends
pub record Entered (old new : Tables) (kind : Kind) (tag : Option LabelId)
    (start bytes : ℕ) : Type 0 where
  pub symbols : new.symbols.names ≡ old.symbols.names
  pub infos : new.infos.items ≡ old.infos.items
  pub labels : new.labels.names ≡ old.labels.names
  pub named : new.named.items ≡ old.named.items
  pub log : new.log.items ≡ old.log.items ++ entry_of kind tag start (length old.flat.items) ∷ []
  pub flat : new.flat.items ≡ old.flat.items
  pub scopes :
      (statements : List Sentence) (s : Sentence) → HaveScopes statements old.scopes → s.kind ≡ kind
      → (kind ≡ Closing → close_marks statements < open_marks statements)
      → HaveScopes (statements ++ s ∷ []) new.scopes
  pub essentials : new.essentials.items ≡ old.essentials.items
  pub hypotheses : new.hypotheses.items ≡ old.hypotheses.items
  pub pairs : new.pairs.items ≡ old.pairs.items
  pub pieces : new.pieces.items ≡ old.pieces.items
  pub stated : new.distinct.stated ≡ old.distinct.stated
  pub counted : new.bytes ≡ old.bytes + bytes
