-- What is known of an incomplete proof, its known prefix: of a normal proof the tokens before the
-- first with a `?`; of a compressed one the list and the letters before the first `?`, or nothing
-- where the list isn't closed before it (the Metamath book, section 4.4.4 and appendix B). That it
-- is judged is this project's own.
use Rattle.std.specs.Prelude.{ℕ, List, [], ◌∷◌, ◌++◌, Bool, false, Option, Some, None}
use Rattle.std.specs.Prelude.{slice_get, if◌then◌else◌}
use Rattle.std.specs.List.{list_any, before_first, position_or_len}
use Rattle.mm_base.specs.Spelling.{spells}
use Rattle.mm_frame.specs.Sentence.{Sentence}
use Rattle.mm_step.specs.Substitution.{Expression}
use Rattle.mm_step.specs.Moves.{Move}
use Rattle.mm_proof.specs.Tokens.{is_question, is_unknown, opening_token, closing_token, SayMoves}
use Rattle.mm_proof.specs.Proof.{IsWhole}
use Rattle.mm_step.specs.Proof.{Passed}

-- the tokens before the first that holds a `?`
abbrev pub known_tokens : List (List ℕ) → List (List ℕ)
known_tokens tokens = before_first is_unknown tokens

-- the bytes as a token, if there are any
abbrev pub token_of : List ℕ → List (List ℕ)
token_of [] = []
token_of (b ∷ text) = (b ∷ text) ∷ []

-- what stands before the first `?` of the token, if there is a token
abbrev pub known_piece : Option (List ℕ) → List (List ℕ)
known_piece None = []
known_piece (Some token) = token_of (before_first is_question token)

-- all that stands before the first `?`
abbrev pub known_text : List (List ℕ) → List (List ℕ)
known_text tokens =
    known_tokens tokens ++ known_piece (slice_get tokens (position_or_len is_unknown tokens))

-- whether the first token is `(`
abbrev pub begins_list : List (List ℕ) → Bool
begins_list [] = false
begins_list (t ∷ tokens) = spells t opening_token

-- some token is `)`
abbrev pub ends_list : List (List ℕ) → Bool
ends_list tokens = list_any (λ t. spells t closing_token) tokens

-- The known prefix of an incomplete proof, as the tokens of a proof. Of a normal proof: the tokens
-- before the first that holds a `?`. Of a compressed one: the list and the letters before the first
-- `?`, where the list is closed before the first token that holds one; else nothing.
abbrev pub checked_prefix : List (List ℕ) → List (List ℕ)
checked_prefix tokens =
    if begins_list tokens
    then (if ends_list (known_tokens tokens) then known_text tokens else [])
    else known_tokens tokens

-- the moves pass, each step making an expression that fits
abbrev pub Pass : (Expression → Type 0) → List Sentence → List (Move (List ℕ)) → Type 0
Pass Fits before moves =
    (stack : List Expression) × (kept : List Expression) × Passed Fits before moves stack kept

-- The tokens of a prefix break no rule, the form that a profile demands aside: none of P1 to P5,
-- which are judged over all of them, and each step passes.
pub record AreAllowed (Fits : Expression → Type 0) (before : List Sentence) (s : Sentence)
    (prefix : List (List ℕ)) : Type 0 where
  pub whole : IsWhole before prefix
  pub moves : List (Move (List ℕ))
  pub said : SayMoves before s prefix moves
  pub pass : Pass Fits before moves
