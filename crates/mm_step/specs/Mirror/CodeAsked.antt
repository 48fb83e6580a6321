-- What is told of the variables of two expressions, and of what a hypothesis asks, by numbers: it
-- mirrors the code.
use Rattle.std.specs.Prelude.{◌≡◌, ◌≢◌, ℕ, ◌<◌, ◌≤◌, List, [], ◌∷◌, ◌++◌, map}
use Rattle.std.specs.Prelude.{drop, take}
use Rattle.std.specs.Prelude.{Contains, slice_get, slice_index_or, Some, None, Option}
use Rattle.std.specs.Prelude.{◌↔◌, ◌⊎◌}
use Rattle.mm_frame.specs.declared.number.Sym.{Sym}
use Rattle.mm_frame.specs.declared.piece.Piece.{Piece}
use Rattle.mm_frame.specs.Sentence.{Sentence}
use Rattle.mm_frame.specs.Active.{IsVariable}
use Rattle.mm_frame.specs.Frame.{IsDistinct}
use Rattle.mm_frame.specs.Numbers.{IsNumberOf}
use Rattle.mm_step.specs.Stores.{all_said_by}
use Rattle.mm_step.specs.Mirror.CodeRun.{DoRise}

-- the number is that of a variable
abbrev pub IsVariableNumber : List Sentence → ℕ → Type 0
IsVariableNumber statements n =
    (x : List ℕ) × IsNumberOf statements x n × IsVariable statements x

-- The element was put behind the others if P holds of it and it wasn't there already; else they
-- stayed as they were.
abbrev pub PutsOnce : {X : Type 0} → (P there : Type 0) → (old : List X) → X → (new : List X)
    → Type 0
PutsOnce P there old x new =
    ((¬ P) × (new ≡ old)) ⊎ (P × there × (new ≡ old)) ⊎ (P × (¬ there) × (new ≡ old ++ x ∷ []))

-- the numbers among others of which P holds, each once
pub record AreOnce (P : ℕ → Type 0) (numbers picked : List ℕ) : Type 0 where
  pub each : (n : ℕ) → Contains picked n ↔ (P n × Contains numbers n)
  pub once : (i j n : ℕ) → slice_get picked i ≡ Some n → slice_get picked j ≡ Some n → i ≡ j

-- the variables, by their numbers, that stand in both expressions, each once, in order
pub record AreSharedNumbers (statements : List Sentence) (e f : List ℕ)
    (shared : List ℕ) : Type 0 where
  pub each : (n : ℕ) → Contains shared n
      ↔ (IsVariableNumber statements n × Contains e n × Contains f n)
  pub rising : DoRise shared

-- the numbers are those of two variables that aren't an active pair at the index
pub record IsMissingPair (statements : List Sentence) (index m n : ℕ) : Type 0 where
  pub first : IsVariableNumber statements m
  pub second : IsVariableNumber statements n
  pub differ : m ≢ n
  pub inactive : (x y : List ℕ) → IsNumberOf statements x m → IsNumberOf statements y n
      → ¬ (IsDistinct (take index statements) x y)

-- pairs of symbols, by their numbers
abbrev pub number_pairs : List (Sym × Sym) → List (ℕ × ℕ)
number_pairs pairs = map (λ p. (p.0.0, p.1.0)) pairs

-- the pair with the lower number first
abbrev pub IsTurned : Sym × Sym → Sym × Sym → Type 0
IsTurned p q =
    ((p.1.0 < p.0.0) × (q ≡ (p.1, p.0))) ⊎ ((p.0.0 ≤ p.1.0) × (q ≡ p))

-- the pair is among these, in one order or the other
abbrev pub HasEither : List (ℕ × ℕ) → ℕ × ℕ → Type 0
HasEither pairs p = Contains pairs p ⊎ Contains pairs (p.1, p.0)

-- the same pairs stand in both lists, however often
abbrev pub AreSamePairs : (old new : List (ℕ × ℕ)) → Type 0
AreSamePairs old new = (p : ℕ × ℕ) → Contains new p ↔ Contains old p

-- the missing pairs of one variable and of those in the expression were put among the others
pub record AddsMissing (statements : List Sentence) (index m : ℕ) (f : List ℕ)
    (old new : List (ℕ × ℕ)) : Type 0 where
  pub kept : (p : ℕ × ℕ) → Contains old p → Contains new p
  pub only : (p : ℕ × ℕ) → Contains new p
      → Contains old p
      ⊎ ((p.0 ≡ m) × IsMissingPair statements index p.0 p.1 × Contains f p.1)
  pub each : (n : ℕ) → IsMissingPair statements index m n → Contains f n → HasEither new (m, n)

-- the missing pairs of the variables of two expressions, each in some order
pub record AreMissingNumbers (statements : List Sentence) (index : ℕ) (e f : List ℕ)
    (missing : List (ℕ × ℕ)) : Type 0 where
  pub only : (p : ℕ × ℕ) → Contains missing p
      → IsMissingPair statements index p.0 p.1 × Contains e p.0 × Contains f p.1
  pub each : (m n : ℕ) → IsMissingPair statements index m n → Contains e m → Contains f n
      → HasEither missing (m, n)

-- each pair is higher than those before it
abbrev pub IsEachHigher : List (ℕ × ℕ) → Type 0
IsEachHigher pairs =
    (i j : ℕ) (p q : ℕ × ℕ) → i < j → slice_get pairs i ≡ Some p → slice_get pairs j ≡ Some q
    → (p.0 < q.0) ⊎ ((p.0 ≡ q.0) × (p.1 < q.1))

-- the lower number of each pair stands first, and each pair is higher than those before it
pub record DoPairsRise (pairs : List (ℕ × ℕ)) : Type 0 where
  pub turned : (p : ℕ × ℕ) → Contains pairs p → p.0 < p.1
  pub rising : IsEachHigher pairs

-- the pairs of the first list were put in order
pub record ArePutInOrder (found pairs : List (ℕ × ℕ)) : Type 0 where
  pub same : (p : ℕ × ℕ) → HasEither pairs p ↔ HasEither found p
  pub in_order : DoPairsRise pairs

-- the missing pairs of the variables of two expressions, in order
abbrev pub AreMissingInOrder : List Sentence → (index : ℕ) → (e f : List ℕ)
    → (missing : List (ℕ × ℕ)) → Type 0
AreMissingInOrder statements index e f missing =
    (found : List (ℕ × ℕ)) × AreMissingNumbers statements index e f found
    × ArePutInOrder found missing

-- what the hypothesis at a number asks, where these are the entries of all hypotheses, and its
-- pattern and its typing
abbrev pub asked_numbers : List (List ℕ) → (number : ℕ) → List Piece → Option (Sym × Sym) → List ℕ
asked_numbers entries number pattern None = all_said_by entries pattern
asked_numbers entries number pattern (Some typing) =
    typing.0.0 ∷ drop 1 (slice_index_or entries number [])
