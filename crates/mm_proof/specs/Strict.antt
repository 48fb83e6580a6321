-- The strict form of a compressed proof: how its list and its marks are written (the Metamath book,
-- appendix B). That a profile demands it is this project's own.
use Rattle.std.specs.Prelude.{◌≡◌, ℕ, List, [], ◌∷◌, ◌++◌, slice_get, Contains, Some, ◌⊎◌}
use Rattle.mm_frame.specs.Sentence.{Sentence, SomeSentence, IsAssertion, IsLabelled}
use Rattle.mm_frame.specs.Frame.{AreMandatory}
use Rattle.mm_step.specs.declared.profile.Profile.{Profile}
use Rattle.mm_step.specs.declared.profile.Profile.TheVariants.{Strict, Lenient}
use Rattle.mm_step.specs.declared.fault.ProofRule.{ProofRule}
use Rattle.mm_step.specs.declared.fault.ProofRule.TheVariants.{P15}
use Rattle.mm_step.specs.Moves.{Move, name, mark}
use Rattle.mm_proof.specs.Tokens.{IsCompressed, SaysCompressed}
use Rattle.mm_proof.specs.Proof.{IsWhole, IsWholeFault}

-- The list of a compressed proof of the statement names no mandatory hypothesis, and no label twice.
pub record IsStrictList (before : List Sentence) (s : Sentence)
    (labels : List (List ℕ)) : Type 0 where
  pub once : (i j : ℕ) (label : List ℕ) → slice_get labels i ≡ Some label
      → slice_get labels j ≡ Some label → i ≡ j
  pub optional : (hypotheses : List Sentence) (h : Sentence) (label : List ℕ)
      → AreMandatory before s hypotheses → Contains hypotheses h → IsLabelled label h
      → ¬ (Contains labels label)

-- the moves end with a step by the label of an assertion
abbrev pub EndWithAssertion : List Sentence → List (Move (List ℕ)) → Type 0
EndWithAssertion before moves =
    (earlier : List (Move (List ℕ))) × (label : List ℕ) × (moves ≡ earlier ++ name label ∷ [])
    × SomeSentence before (λ a. IsLabelled label a × IsAssertion a.kind)

-- each mark stands directly after such a step
abbrev pub MarkAssertions : List Sentence → List (Move (List ℕ)) → Type 0
MarkAssertions before moves =
    (prefix after : List (Move (List ℕ))) → moves ≡ prefix ++ mark ∷ after
    → EndWithAssertion before prefix

-- The proof of the statement is strict: a normal one always, and a compressed one that breaks none of
-- P1 to P5 if its list and its marks are.
pub record IsStrict (before : List Sentence) (s : Sentence)
    (tokens : List (List ℕ)) : Type 0 where
  pub listed : (labels letters : List (List ℕ)) → IsCompressed tokens labels letters
      → IsStrictList before s labels
  pub marked : (moves : List (Move (List ℕ))) → SaysCompressed before s tokens moves
      → MarkAssertions before moves

-- the proof of the statement has the form that the profile demands
abbrev pub HasFormOf : Profile → List Sentence → Sentence → List (List ℕ) → Type 0
HasFormOf Strict before s tokens = IsStrict before s tokens
HasFormOf Lenient before s tokens = Unit {0}

-- the first fault of all the tokens, before any step is judged: one of P1 to P5, and then P15, where
-- they haven't the form that the profile demands
abbrev pub IsTextFault : Profile → List Sentence → Sentence → List (List ℕ) → ProofRule → Type 0
IsTextFault profile before s tokens rule =
    IsWholeFault before tokens rule
    ⊎ (IsWhole before tokens × (rule ≡ P15) × ¬ (HasFormOf profile before s tokens))
