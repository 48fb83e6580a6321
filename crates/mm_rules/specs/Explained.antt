-- What explains a fault of a proof: facts, and the text that tells them, which is this project's
-- own.
use Rattle.std.specs.Prelude.{◌≡◌, ℕ, List}
use Rattle.std.specs.Prelude.{◌⊎◌, Some}
use Rattle.std.specs.Prelude.{slice_get, Contains}
use Rattle.mm_frame.specs.Sentence.{Sentence}
use Rattle.mm_frame.specs.Frame.{IsMandatoryPair}
use Rattle.mm_step.specs.Substitution.{Symbol}

-- These are the mandatory pairs of the assertion, each once in one order.
pub record AreMandatoryPairs (before : List Sentence) (assertion : Sentence)
    (pairs : List (Symbol × Symbol)) : Type 0 where
  pub only : (p : Symbol × Symbol) → Contains pairs p → IsMandatoryPair before assertion p.0 p.1
  pub each : (x y : Symbol) → IsMandatoryPair before assertion x y
      → Contains pairs (x, y) ⊎ Contains pairs (y, x)
  pub once : (i j : ℕ) (p q : Symbol × Symbol) → slice_get pairs i ≡ Some p
      → slice_get pairs j ≡ Some q → (p ≡ q) ⊎ (p ≡ (q.1, q.0)) → i ≡ j
