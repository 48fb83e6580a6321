-- How the frame of an assertion is gathered. This file mirrors the code, and is cited by private
-- contracts alone.
use Rattle.std.specs.Prelude.{◌≡◌, ◌↔◌, ℕ, ◌<◌, List, length, map, take, slice_get, Option, Some}
use Rattle.std.specs.Prelude.{Contains, ◌⊎◌}
use Rattle.std.specs.List.{filter_map}
use Rattle.std.specs.Option.{option_and_then}
use Rattle.mm_frame.specs.declared.hypothesis.Hypothesis.{Hypothesis}
use Rattle.mm_frame.specs.declared.number.Sym.{Sym}
use Rattle.mm_frame.specs.declared.tables.SymbolInfo.{SymbolInfo}
use Rattle.mm_frame.specs.Sentence.{Sentence, Types}
use Rattle.mm_frame.specs.Numbers.{IsNumberOf, labelled_sentences}
use Rattle.mm_frame.specs.FrameIndex.{HaveTypings}
use Rattle.mm_frame.specs.Frame.{IsMandatoryAt, IsDistinct}
use Rattle.mm_frame.specs.Mirror.Latest.{IsLatest}
use Rattle.mm_frame.specs.Mirror.Layout.{GivesType}

-- the index of the latest `$f` of a symbol, if it has one
abbrev pub floating_of : List SymbolInfo → Sym → Option ℕ
floating_of infos n = option_and_then (λ info. info.floating) (slice_get infos n.0)

-- the indices of the latest `$f` of some symbols, where they have one
abbrev pub floatings : List SymbolInfo → List Sym → List ℕ
floatings infos symbols = filter_map (floating_of infos) symbols

-- an index stands in the list
abbrev pub IsIn : List ℕ → ℕ → Type 0
IsIn indices p = (i : ℕ) × (slice_get indices i ≡ Some p)

-- the symbol stands in the assertion, or in a `$e` at one of the indices
abbrev pub StandsIn : List Sentence → List ℕ → Sentence → List ℕ → Type 0
StandsIn st indices s x =
    Contains s.symbols x
    ⊎ ((q : ℕ) × (h : Sentence) × IsIn indices q × (slice_get st q ≡ Some h) × Contains h.symbols x)

-- the index of an active `$e`, or of the latest `$f` of a symbol of it or of the assertion
abbrev pub IsGathered : List Sentence → List ℕ → Sentence → ℕ → Type 0
IsGathered st essentials s p =
    IsIn essentials p ⊎ ((x : List ℕ) × StandsIn st essentials s x × IsLatest (GivesType x) st p)

-- the list has exactly the gathered indices
pub record AreGathered (st : List Sentence) (essentials : List ℕ) (s : Sentence)
    (indices : List ℕ) : Type 0 where
  pub only : (i p : ℕ) → slice_get indices i ≡ Some p → IsGathered st essentials s p
  pub each : (p : ℕ) → IsGathered st essentials s p → IsIn indices p

-- each index is below the next
abbrev pub AreRisingIndices : List ℕ → Type 0
AreRisingIndices indices =
    (i j p q : ℕ) → slice_get indices i ≡ Some p → slice_get indices j ≡ Some q → i < j → p < q

-- these are the indices of the mandatory hypotheses, in order
pub record AreIndices (st : List Sentence) (s : Sentence) (indices : List ℕ) : Type 0 where
  pub rising : AreRisingIndices indices
  pub within : (i p : ℕ) → slice_get indices i ≡ Some p → p < length st
  pub exact : (p : ℕ) (h : Sentence) → slice_get st p ≡ Some h → IsMandatoryAt st s p h
      ↔ Contains indices p

-- these are the labels' numbers of the statements at some indices, each with what its `$f` says
pub record AreThoseAt (st : List Sentence) (indices : List ℕ)
    (hypotheses : List Hypothesis) : Type 0 where
  pub numbers : map (λ h. h.id.0) hypotheses
      ≡ map (λ p. length (labelled_sentences (take p st))) indices
  pub typed : HaveTypings st hypotheses

-- the statement at one of the indices is a `$f` that types the variable with the number
pub record IsTypedBy (st : List Sentence) (indices : List ℕ) (n : Sym) : Type 0 where
  pub k : ℕ
  pub index : ℕ
  pub in_places : slice_get indices k ≡ Some index
  pub floating : Sentence
  pub there : slice_get st index ≡ Some floating
  pub code : List ℕ
  pub variable : List ℕ
  pub types : Types code variable floating
  pub number : IsNumberOf st variable n.0

-- these are the numbers of the variables of the `$f` at some indices, each once
pub record AreVariables (st : List Sentence) (indices : List ℕ) (variables : List Sym) : Type 0 where
  pub only : (i : ℕ) (n : Sym) → slice_get variables i ≡ Some n → IsTypedBy st indices n
  pub each : (k p : ℕ) (f : Sentence) (code x : List ℕ) → slice_get indices k ≡ Some p
      → slice_get st p ≡ Some f
      → Types code x f
      → (i : ℕ) × (n : Sym) × (slice_get variables i ≡ Some n) × IsNumberOf st x n.0
  pub once : (i j : ℕ) (n m : Sym) → slice_get variables i ≡ Some n → slice_get variables j ≡ Some m
      → n.0 ≡ m.0
      → i ≡ j

-- the symbols with these numbers are a distinct pair
abbrev pub AreDisjoint : List Sentence → Sym → Sym → Type 0
AreDisjoint st a b =
    (x : List ℕ) × (y : List ℕ) × IsNumberOf st x a.0 × IsNumberOf st y b.0 × IsDistinct st x y

-- the indices j and k are reached: all before the k-th, and the first so many with the k-th
abbrev pub IsReached : ℕ → ℕ → ℕ → ℕ → Type 0
IsReached i count j k = (k < i) ⊎ ((k ≡ i) × (j < count))

-- these are the distinct pairs among the variables as far as they are reached, each once
pub record AreFound (st : List Sentence) (variables : List Sym) (i count : ℕ)
    (pairs : List (Sym × Sym)) : Type 0 where
  pub only : (m : ℕ) (pair : Sym × Sym) → slice_get pairs m ≡ Some pair
      → (j : ℕ) × (k : ℕ) × (slice_get variables j ≡ Some pair.0)
      × (slice_get variables k ≡ Some pair.1) × (j < k)
      × IsReached i count j k × AreDisjoint st pair.0 pair.1
  pub each : (j k : ℕ) (a b : Sym) → slice_get variables j ≡ Some a → slice_get variables k ≡ Some b
      → j < k
      → IsReached i count j k → AreDisjoint st a b → (m : ℕ) × (slice_get pairs m ≡ Some (a, b))
  pub once : (m n : ℕ) (p q : Sym × Sym) → slice_get pairs m ≡ Some p → slice_get pairs n ≡ Some q
      → p.0.0 ≡ q.0.0
      → p.1.0 ≡ q.1.0 → m ≡ n
