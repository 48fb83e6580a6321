-- The pairs that a `$d` adds, as they are gathered. This file mirrors the code, and is cited by
-- private contracts alone.
use Rattle.std.specs.Prelude.{◌≡◌, ℕ, ◌+◌, ◌<◌, List, [], ◌∷◌, ◌++◌, length, slice_get, None, Some}
use Rattle.std.specs.Prelude.{◌⊎◌, if◌then◌else◌, nat_lt}
use Rattle.mm_base.specs.declared.statement.Kind.TheVariants.{Distinct}
use Rattle.mm_frame.specs.declared.number.Sym.{Sym}
use Rattle.mm_frame.specs.declared.tables.Tables.{Tables}
use Rattle.mm_frame.specs.Sentence.{Sentence}
use Rattle.mm_frame.specs.Frame.{IsDistinct}
use Rattle.mm_frame.specs.Numbers.{IsNumberOf}
use Rattle.mm_frame.specs.Mirror.Stated.{Stated}
use Rattle.mm_frame.specs.Mirror.ScopesOf.{HaveScopes}
use Rattle.mm_frame.specs.Mirror.Grows.{entry_of}

-- the pair of two numbers, the lesser one first
abbrev pub ordered_pair : ℕ → ℕ → ℕ × ℕ
ordered_pair a b = if nat_lt a b then (a, b) else (b, a)

-- a `$d` at the index states the pair
abbrev pub stated_at : ℕ → ℕ × ℕ → Stated
stated_at index pair = record { pair = pair; index = index }

-- the symbols with two numbers are a distinct pair already
abbrev pub IsOld : List Sentence → ℕ → ℕ → Type 0
IsOld statements a b =
    (x y : List ℕ) → IsNumberOf statements x a → IsNumberOf statements y b
    → IsDistinct statements x y

-- the symbols with two numbers aren't a distinct pair
abbrev pub IsFresh : List Sentence → ℕ → ℕ → Type 0
IsFresh statements a b =
    (x y : List ℕ) → IsNumberOf statements x a → IsNumberOf statements y b
    → ¬ (IsDistinct statements x y)

-- the members at two indices: the later one stands before i, or it is the one at i and the other
-- stands before j
abbrev pub IsPassed : ℕ → ℕ → ℕ → ℕ → Type 0
IsPassed i j u v = (u < v) × ((v < i) ⊎ ((v ≡ i) × (u < j)))

-- the pairs of the members at those indices that aren't distinct already, each once if no member
-- stands twice
pub record ArePaired (statements : List Sentence) (members : List Sym) (i j : ℕ)
    (pairs : List (ℕ × ℕ)) : Type 0 where
  pub only : (k : ℕ) (pair : ℕ × ℕ) → slice_get pairs k ≡ Some pair
      → (u : ℕ) × (v : ℕ) × (a : Sym) × (b : Sym) × IsPassed i j u v
      × (slice_get members u ≡ Some a) × (slice_get members v ≡ Some b)
      × (pair ≡ ordered_pair b.0 a.0) × IsFresh statements b.0 a.0
  pub once : ((u v : ℕ) (a : Sym) → slice_get members u ≡ Some a → slice_get members v ≡ Some a
      → u ≡ v)
      → (k l : ℕ) (pair : ℕ × ℕ) → slice_get pairs k ≡ Some pair → slice_get pairs l ≡ Some pair
      → k ≡ l
  pub each : (u v : ℕ) (a b : Sym) → IsPassed i j u v → slice_get members u ≡ Some a
      → slice_get members v ≡ Some b
      → ((k : ℕ) × (slice_get pairs k ≡ Some (ordered_pair b.0 a.0))) ⊎ IsOld statements b.0 a.0

-- the members of a `$d` and its entry were written
pub record EntersMembers (old new : Tables) (members : List Sym) (bytes : ℕ) : Type 0 where
  pub symbols : new.symbols.names ≡ old.symbols.names
  pub infos : new.infos.items ≡ old.infos.items
  pub labels : new.labels.names ≡ old.labels.names
  pub named : new.named.items ≡ old.named.items
  pub log : new.log.items ≡ old.log.items
      ++ entry_of Distinct None (length old.flat.items) (length (old.flat.items ++ members)) ∷ []
  pub flat : new.flat.items ≡ old.flat.items ++ members
  pub scopes : (statements : List Sentence) (s : Sentence) → HaveScopes statements old.scopes
      → s.kind ≡ Distinct
      → HaveScopes (statements ++ s ∷ []) new.scopes
  pub essentials : new.essentials.items ≡ old.essentials.items
  pub hypotheses : new.hypotheses.items ≡ old.hypotheses.items
  pub pairs : new.pairs.items ≡ old.pairs.items
  pub pieces : new.pieces.items ≡ old.pieces.items
  pub stated : new.distinct.stated ≡ old.distinct.stated
  pub counted : new.bytes ≡ old.bytes + bytes
