-- Why the files aren't accepted: all their faults, each with what explains it. The explanations are
-- this project's own.
use Rattle.std.specs.Prelude.{◌≡◌, ℕ, ◌+◌, List, [], ◌∷◌}
use Rattle.std.specs.Prelude.{length, Some}
use Rattle.std.specs.Prelude.{slice_get, ◌⊎◌}
use Rattle.mm_base.specs.Token.{PlainToken}
use Rattle.mm_base.specs.Statement.{PlainStatement}
use Rattle.mm_code.specs.Words.{texts_of}
use Rattle.mm_frame.specs.Sentence.{Sentence, sentence_of}
use Rattle.mm_step.specs.declared.fault.ProofRule.{ProofRule}
use Rattle.mm_step.specs.declared.profile.Profile.{Profile}
use Rattle.mm_step.specs.Moves.{Move, steps_in}
use Rattle.mm_places.specs.Places.{IsMovePlace}
use Rattle.mm_places.specs.WholePlaces.{IsWholePlace}
use Rattle.mm_facts.specs.Explained.{judged_tokens, TokensHalt}

-- ---- places

-- the position of a byte of one of these tokens
abbrev pub IsPosition : List PlainToken → (token byte : ℕ) → (at : ℕ) → Type 0
IsPosition tokens token byte at =
    (t : PlainToken) × (slice_get tokens token ≡ Some t) × (at ≡ t.at + byte)

-- The position at which the moves of tokens up to an end stop, where so many passed and these are
-- left: that of the first of these, or else the end.
abbrev pub IsStopPlace : List PlainToken → (end : ℕ) → (passed : ℕ)
    → (left : List (Move (List ℕ))) → (at : ℕ) → Type 0
IsStopPlace tokens end passed [] at = at ≡ end
IsStopPlace tokens end passed (move ∷ more) at =
    (token : ℕ) × (byte : ℕ) × IsMovePlace (texts_of tokens) passed token byte
    × IsPosition tokens token byte at

-- The position of the first fault of tokens up to an end, as a proof of the `$p`: that of the byte
-- at which a rule over the whole of them is broken; or that at which the moves of the judged ones
-- stop.
abbrev pub IsPlaceAmong : Profile → (before : List Sentence) → Sentence → List PlainToken
    → (end : ℕ) → ProofRule → (step : ℕ) → (at : ℕ) → Type 0
IsPlaceAmong profile before s tokens end rule step at =
    ((step ≡ 0) × (token : ℕ) × (byte : ℕ)
    × IsWholePlace before s (judged_tokens (texts_of tokens)) rule token byte
    × IsPosition tokens token byte at)
    ⊎ ((h : TokensHalt profile before s (texts_of tokens) (Some rule))
    × (step ≡ steps_in h.halts.earlier + 1)
    × IsStopPlace tokens end (length h.halts.earlier) h.halts.left at)

-- that of the first fault of the statement's proof, which ends at its `$.`
abbrev pub IsFaultPlace : Profile → (before : List Sentence) → PlainStatement → ProofRule
    → (step : ℕ) → (at : ℕ) → Type 0
IsFaultPlace profile before s rule step at =
    IsPlaceAmong profile before (sentence_of s) s.proof s.span.1 rule step at
