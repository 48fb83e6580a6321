-- Which labels of a compressed proof's list no step is by (the Metamath book, appendix B: the list
-- has the labels that the proof names beside its mandatory hypotheses, and the letters say the
-- steps). A lost letter leaves such a label mostly. That they are told is this project's own.
use Rattle.std.specs.Prelude.{◌≡◌, ◌≢◌, ◌⊎◌, ℕ, ◌-◌, ◌==◌, if◌then◌else◌, List, [], ◌∷◌, ◌++◌}
use Rattle.std.specs.Prelude.{Bool, false, not, filter, length, take, codes, decimal}
use Rattle.std.specs.List.{list_any}
use Rattle.std.specs.Str.{bytes_eq}
use Rattle.mm_frame.specs.Sentence.{Sentence}
use Rattle.mm_step.specs.Moves.{Move, name, again, mark}
use Rattle.mm_proof.specs.Tokens.{IsNormal, IsIncomplete, is_incomplete, SaysCompressed}
use Rattle.mm_rules.specs.Shown.{symbols_text}

-- ---- the labels

-- Whether the move is a step by the label. X is what stands for labels: their names, or their
-- numbers; and the test tells whether two are the same.
abbrev pub is_by : {X : Type 0} → (X → X → Bool) → (label : X) → Move X → Bool
is_by same label (name other) = same label other
is_by same label (again tag) = false
is_by same label mark = false

-- whether some move is
abbrev pub is_named : {X : Type 0} → (X → X → Bool) → List (Move X) → (label : X) → Bool
is_named same moves label = list_any (is_by same label) moves

-- those of the labels that no move is a step by, in order
abbrev pub unused_in : List (Move (List ℕ)) → List (List ℕ) → List (List ℕ)
unused_in moves labels = filter (λ label. not (is_named bytes_eq moves label)) labels

-- These are the labels of the list of a compressed proof of the statement that no step is by.
pub record AreUnusedLabels (before : List Sentence) (s : Sentence) (tokens : List (List ℕ))
    (unused : List (List ℕ)) : Type 0 where
  pub moves : List (Move (List ℕ))
  pub says : SaysCompressed before s tokens moves
  pub those : unused ≡ unused_in moves says.listed

-- ---- the fault of a proof

-- Which are told where the moves of a proof stop: none of a normal proof, nor where a step is
-- unknown.
abbrev pub AreUnusedAtStop : (before : List Sentence) → Sentence → (tokens : List (List ℕ))
    → (unused : List (List ℕ)) → Type 0
AreUnusedAtStop before s tokens unused =
    ((is_incomplete tokens ≡ false) × AreUnusedLabels before s tokens unused)
    ⊎ ((IsNormal tokens ⊎ IsIncomplete tokens) × (unused ≡ []))

-- Which are told of the fault of a proof at a step; none, where it is one of the whole proof.
abbrev pub AreUnused : (before : List Sentence) → Sentence → (tokens : List (List ℕ)) → (step : ℕ)
    → (unused : List (List ℕ)) → Type 0
AreUnused before s tokens step unused =
    ((step ≡ 0) × (unused ≡ []))
    ⊎ ((step ≢ 0) × AreUnusedAtStop before s tokens unused)

-- ---- text

-- how many of the labels are told
abbrev pub most_unused : ℕ
most_unused = 3

-- how many more there are, if there are such
abbrev pub more_unused : ℕ → List ℕ
more_unused count =
    if count == 0 then [] else (codes ", and " ++ decimal count ++ codes " more")

-- the line of the labels, if there are such
abbrev pub unused_text : List (List ℕ) → List ℕ
unused_text [] = []
unused_text (label ∷ labels) =
    codes "  no step is by:" ++ symbols_text (take most_unused (label ∷ labels))
    ++ more_unused (length (label ∷ labels) - most_unused) ++ codes "\n"
