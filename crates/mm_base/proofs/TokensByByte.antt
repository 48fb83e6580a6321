-- The tokens of bytes, byte by byte.
use Rattle.std.proofs.Common.{◌≡◌, ℕ, ◌+◌, ◌==◌, List, [], ◌∷◌}
use Rattle.std.proofs.Common.{eqb-true}
use Rattle.std.proofs.lemmas.Bool.{cond_both}
use Rattle.mm_base.specs.Token.{PlainToken, is_space, with_byte, tokens_from}

-- the tokens of bytes: each byte is white space, a token of its own, or goes onto the next token
module _ (file : ℕ) (P : ℕ → List ℕ → List PlainToken → Type 0) (nothing : (at : ℕ) → P at [] [])
    (space : (at b : ℕ) (bytes : List ℕ) (tokens : List PlainToken) → P (at + 1) bytes tokens
    → P at (b ∷ bytes) tokens)
    (alone : (at b : ℕ) (bytes : List ℕ) (tokens : List PlainToken) → P (at + 1) bytes tokens
    → P at (b ∷ bytes) (record { text = b ∷ []; file = file; at = at } ∷ tokens))
    (joined : (at b : ℕ) (bytes : List ℕ) (t : PlainToken) (tokens : List PlainToken)
    → t.at ≡ at + 1 → P (at + 1) bytes (t ∷ tokens)
    → P at (b ∷ bytes) (record { text = b ∷ t.text; file = file; at = at } ∷ tokens)) where
  pub tokens_by : (at : ℕ) (bytes : List ℕ) → P at bytes (tokens_from file at bytes)
  unfolding tokens_from
  tokens_by at [] = nothing at
  tokens_by at (b ∷ bytes) =
      let inner = tokens_by (at + 1) bytes in
      cond_both (is_space b) _ _ (P at (b ∷ bytes)) (λ _. space at b bytes _ inner)
      (λ _. byte (tokens_from file (at + 1) bytes) inner)
    where
      byte : (tokens : List PlainToken) → P (at + 1) bytes tokens
          → P at (b ∷ bytes) (with_byte file at b tokens)
      byte [] h = alone at b bytes [] h
      byte (t ∷ tokens) h =
          cond_both (t.at == at + 1) _ _ (P at (b ∷ bytes))
          (λ e. joined at b bytes t tokens (eqb-true t.at (at + 1) e) h)
          (λ _. alone at b bytes (t ∷ tokens) h)
