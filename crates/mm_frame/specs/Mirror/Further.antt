-- How the `$d` that say more than mandatory pairs are found. This file mirrors the code, and is cited
-- by private contracts alone.
use Rattle.std.specs.Prelude.{◌≡◌, ◌↔◌, ℕ, ◌<◌, List, take, slice_get, Option, Some, Contains}
use Rattle.mm_base.specs.declared.statement.Kind.TheVariants.{Distinct}
use Rattle.mm_frame.specs.declared.number.Sym.{Sym}
use Rattle.mm_frame.specs.Sentence.{Sentence}
use Rattle.mm_frame.specs.Active.{IsActive}
use Rattle.mm_frame.specs.Numbers.{IsNumberOf}
use Rattle.mm_frame.specs.Pieces.{IsNowhere}
use Rattle.mm_frame.specs.Mirror.Gathered.{AreRisingIndices}

-- one of the symbols is none of these variables
abbrev pub HasOther : List (Option ℕ) → List Sym → Type 0
HasOther variables symbols =
    (i : ℕ) × (n : Sym) × (slice_get symbols i ≡ Some n) × IsNowhere n.0 variables

-- the `$d` at one index is active at another, and a member of it is none of these variables
abbrev pub SaysMore : List Sentence → List (Option ℕ) → (at index : ℕ) → Sentence → Type 0
SaysMore st variables at index d =
    IsActive (take at st) index × (d.kind ≡ Distinct)
    × ((x : List ℕ) × (n : ℕ) × Contains d.symbols x × IsNumberOf st x n × IsNowhere n variables)

-- these are the indices of those, as far as they were asked for
pub record AreFoundFurther (st : List Sentence) (variables : List (Option ℕ)) (at count : ℕ)
    (indices : List ℕ) : Type 0 where
  pub rising : AreRisingIndices indices
  pub within : (i p : ℕ) → slice_get indices i ≡ Some p → p < count
  pub exact : (p : ℕ) (d : Sentence) → p < count → slice_get st p ≡ Some d
      → SaysMore st variables at p d ↔ Contains indices p
