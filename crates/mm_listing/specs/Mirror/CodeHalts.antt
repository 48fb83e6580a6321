-- What the code that tells where moves stop finds there: it mirrors the code.
use Rattle.std.specs.Prelude.{◌≡◌, ℕ, List, [], ◌∷◌, take, Bool, true, false, Option, None}
use Rattle.std.specs.Prelude.{MatchOption}
use Rattle.mm_frame.specs.Sentence.{Sentence}
use Rattle.mm_step.specs.declared.fault.ProofRule.{ProofRule}
use Rattle.mm_listing.specs.declared.halt.Halt.{Halt}
use Rattle.mm_listing.specs.declared.halt.HaltAt.{HaltAt}
use Rattle.mm_listing.specs.declared.halt.HaltAt.TheVariants as at
use Rattle.mm_step.specs.Moves.{Move, name, again, mark}
use Rattle.mm_listing.specs.Halted.{HaltsProof}
use Rattle.mm_proof.specs.Verified.{OfMoves}
use Rattle.mm_step.specs.Mirror.CodeRun.{EndsWrong}

-- the move by number is what stands at the place
abbrev pub StandsBy : Move ℕ → HaltAt → Type 0
StandsBy (name id) (at.Label label) = label.0 ≡ id
StandsBy (again tag) (at.Tag halted) = halted ≡ tag
StandsBy mark at.Mark = Unit {0}
StandsBy move halted = ⊥

-- the rule is what the end breaks, where this is left, and where the statement's expression is the
-- second; the end of a prefix breaks none
abbrev pub IsEndRule : (prefix : Bool) → Option ProofRule → List (List ℕ) → List ℕ → Type 0
IsEndRule true rule stack expression = rule ≡ None
IsEndRule false rule stack expression =
    MatchOption rule (stack ≡ expression ∷ []) (λ r. EndsWrong r stack expression)

-- that is where the moves of the `$p` with the number stop, or those of the known prefix
abbrev pub HaltsMoves : (limit : ℕ) → List Sentence → (id : ℕ) → (prefix : Bool)
    → List (Move ℕ) → Halt → Type 0
HaltsMoves limit statements id prefix steps halt =
    OfMoves statements id steps (λ index s moves.
    HaltsProof limit statements (take index statements) s prefix moves halt)
