-- How a book's lists change as the symbols of a `$c` or `$v` are taken in. This file mirrors the
-- code, and is cited by private contracts alone.
use Rattle.std.specs.Prelude.{◌≡◌, ℕ, ◌+◌, ◌<◌, ◌≤◌, ◌⊎◌, vec_len, vec_capacity, length, slice_get}
use Rattle.std.specs.Prelude.{slice_set, Contains, Option, Some, None, List, [], ◌∷◌, ◌++◌}
use Rattle.mm_base.specs.declared.statement.Kind.{Kind}
use Rattle.mm_base.specs.declared.statement.Kind.TheVariants.{Constants, Variables}
use Rattle.mm_frame.specs.declared.number.Sym.{Sym}
use Rattle.mm_frame.specs.declared.tables.SymbolInfo.{SymbolInfo}
use Rattle.mm_frame.specs.declared.tables.Tables.{Tables}
use Rattle.mm_frame.specs.Mirror.Layout.{AreInfos, names_by, statements_of}

-- a kind of statement that declares its symbols
abbrev pub IsDeclaration : Kind → Type 0
IsDeclaration kind = (kind ≡ Constants) ⊎ (kind ≡ Variables)

-- the index of the latest `$v` of a symbol that a statement of the kind at the index declares
abbrev pub latest_by : Kind → ℕ → Option ℕ
latest_by Variables index = Some index
latest_by kind index = None

-- there is room for so many symbols
pub record HasSpace (t : Tables) (symbols : ℕ) : Type 0 where
  pub names : symbols ≤ t.symbols.room
  pub infos : vec_len t.infos + symbols ≤ vec_capacity t.infos
  pub flat : vec_len t.flat + symbols ≤ vec_capacity t.flat
  pub few : length t.symbols.names + symbols < 4294967296

-- what is known of a symbol names the latest `$v`, if a `$v` declares it
abbrev pub AreNoted : List SymbolInfo → List SymbolInfo → ℕ → Option ℕ → Type 0
AreNoted old new number None = new ≡ old
AreNoted old new number (Some index) =
    (info : SymbolInfo) → slice_get old number ≡ Some info
    → new ≡ slice_set old number (record { variable = Some index; floating = info.floating })

-- the symbol has this number already
pub record IsNoted (old new : Tables) (symbol : List ℕ) (number : ℕ)
    (variable : Option ℕ) : Type 0 where
  pub there : slice_get old.symbols.names number ≡ Some symbol
  pub names : new.symbols.names ≡ old.symbols.names
  pub infos : AreNoted old.infos.items new.infos.items number variable

-- the symbol is new, and has the next number
pub record IsAdded (old new : Tables) (symbol : List ℕ) (number : ℕ)
    (variable : Option ℕ) : Type 0 where
  pub fresh : ¬ (Contains old.symbols.names symbol)
  pub next : number ≡ length old.symbols.names
  pub names : new.symbols.names ≡ old.symbols.names ++ symbol ∷ []
  pub infos :
      new.infos.items ≡ old.infos.items ++ record { variable = variable; floating = None } ∷ []

-- only the lists of symbols change
abbrev pub ChangesSymbols : Tables → Tables → Type 0
ChangesSymbols old new =
    new ≡ record old { symbols = new.symbols; infos = new.infos; flat = new.flat }

-- one symbol was taken in
pub record TakesSymbol (old new : Tables) (symbol : List ℕ) (variable : Option ℕ) : Type 0 where
  pub number : Sym
  pub flat : new.flat.items ≡ old.flat.items ++ number ∷ []
  pub known : IsNoted old new symbol number.0 variable ⊎ IsAdded old new symbol number.0 variable
  pub others : ChangesSymbols old new

-- these symbols of a `$c` or `$v` were taken in
pub record TakesSymbols (old new : Tables) (kind : Kind) (symbols : List (List ℕ)) : Type 0 where
  pub added : List (List ℕ)
  pub numbers : List Sym
  pub names : new.symbols.names ≡ old.symbols.names ++ added
  pub flat : new.flat.items ≡ old.flat.items ++ numbers
  pub named : names_by new.symbols.names numbers ≡ symbols
  pub within : (i : ℕ) (n : Sym) → slice_get numbers i ≡ Some n → n.0 < length new.symbols.names
  pub infos : AreInfos
      (statements_of old ++ record { kind = kind; label = None; symbols = symbols } ∷ [])
      new.symbols.names
      new.infos.items
  pub others : ChangesSymbols old new
