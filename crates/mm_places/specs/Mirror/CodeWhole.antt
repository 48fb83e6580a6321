-- What the code that seeks the place of a fault of a whole proof knows on its way: it mirrors the
-- code.
use Rattle.std.specs.Prelude.{◌≡◌, ℕ, ◌+◌, ◌<◌, List, [], ◌∷◌, ◌++◌, length, take, slice_get, Some}
use Rattle.std.specs.Prelude.{Option, None, All, Contains}
use Rattle.std.specs.List.{flat_map, AllByRecursion}
use Rattle.mm_code.specs.declared.code.Code.{Code}
use Rattle.mm_code.specs.declared.code.CodeRule.{CodeRule}
use Rattle.mm_code.specs.declared.code.CodeRule.TheVariants as code
use Rattle.mm_code.specs.Letters.{Letters, IsLetter, IsLeadingLetter, IsEndOrTag}
use Rattle.mm_frame.specs.Sentence.{Sentence}
use Rattle.mm_step.specs.declared.fault.ProofRule.{ProofRule}
use Rattle.mm_step.specs.declared.fault.ProofRule.TheVariants.{P4, P5}
use Rattle.mm_places.specs.declared.whole_places.Blame.{Blame}
use Rattle.mm_places.specs.declared.whole_places.Blame.TheVariants as blame
use Rattle.mm_places.specs.declared.whole_places.Behind.{Behind}
use Rattle.mm_places.specs.declared.whole_places.Behind.TheVariants as behind
use Rattle.mm_proof.specs.Tokens.{AreLabels}
use Rattle.mm_places.specs.WholePlaces.{IsUnknownLabel, IsIdleLabel}

-- the label is to blame for that, in the proof of the statement at an index
abbrev pub IsBlamed : Blame → List Sentence → (index : ℕ) → (label : List ℕ) → Type 0
IsBlamed blame.Unknown statements index label = IsUnknownLabel (take index statements) label
IsBlamed blame.Idle statements index label = IsIdleLabel (take index statements) label

-- one of the labels of the tokens is
abbrev pub HasBlamed : Blame → List Sentence → (index : ℕ) → (tokens : List (List ℕ)) → Type 0
HasBlamed why statements index tokens =
    (labels : List (List ℕ)) × AreLabels tokens labels
    × (label : List ℕ) × Contains labels label × IsBlamed why statements index label

-- The letters say codes; or they do up to an index, from which on they are leading digits.
abbrev pub IsBegun : (letters : List ℕ) → Option ℕ → Type 0
IsBegun letters None = (codes : List Code) × Letters letters codes
IsBegun letters (Some begun) =
    (earlier : List ℕ) × (digit : ℕ) × (digits : List ℕ) × (letters ≡ earlier ++ digit ∷ digits)
    × (begun ≡ length earlier) × (codes : List Code) × Letters earlier codes
    × AllByRecursion IsLeadingLetter (digit ∷ digits)

-- a byte with an index of the joined pieces stands at a byte of one of them
abbrev pub IsByteOf : (pieces : List (List ℕ)) → (index piece byte : ℕ) → Type 0
IsByteOf pieces index piece byte =
    (text : List ℕ) × (slice_get pieces piece ≡ Some text) × (byte < length text)
    × (index ≡ length (flat_map (λ l. l) (take piece pieces)) + byte)

-- the letters are so behind one more; or it is a `Z`, which cuts the number that is begun
abbrev pub IsBehind : (letters : List ℕ) → (letter : ℕ) → Behind → Type 0
IsBehind letters letter (behind.Begun next) = IsBegun (letters ++ letter ∷ []) next
IsBehind letters letter (behind.Cut first) = (letter ≡ 90) × IsBegun letters (Some first)

-- the first number that isn't ended begins at the index
abbrev pub IsCutAt : (letters : List ℕ) → (index : ℕ) → Type 0
IsCutAt letters index =
    (earlier : List ℕ) × (digit : ℕ) × (digits : List ℕ) × (later : List ℕ)
    × (letters ≡ earlier ++ digit ∷ (digits ++ later)) × (index ≡ length earlier)
    × (codes : List Code) × Letters earlier codes
    × AllByRecursion IsLeadingLetter (digit ∷ digits) × IsEndOrTag later

-- the rule of letters as one of proofs
abbrev pub rule_of : CodeRule → ProofRule
rule_of code.P4 = P4
rule_of code.P5 = P5

-- the letters break the rule at the one with an index
abbrev pub IsFaultIndex : CodeRule → List ℕ → (index : ℕ) → Type 0
IsFaultIndex code.P4 letters index =
    (letter : ℕ) × (slice_get letters index ≡ Some letter)
    × All IsLetter (take index letters) × ¬ (IsLetter letter)
IsFaultIndex code.P5 letters index = IsCutAt letters index
