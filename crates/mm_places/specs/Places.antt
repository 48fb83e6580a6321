-- Where a move of a proof stands among its tokens (the Metamath book, sections 4.3 and 4.4.3,
-- appendix B). That a fault is told there is this project's own.
use Rattle.std.specs.Prelude.{◌≡◌, ◌↔◌, ℕ, ◌+◌, ◌<◌, List, ◌++◌, length, take, slice_get, Some, ◌⊎◌}
use Rattle.std.specs.List.{flat_map}
use Rattle.mm_code.specs.declared.code.Code.{Code}
use Rattle.mm_code.specs.Letters.{Letters}
use Rattle.mm_proof.specs.Tokens.{IsNormal, IsCompressed}

-- Of a compressed proof's letters: the letter at a byte of a piece is the last one of the code with
-- a number, from 0 on. The letters up to it say so many codes and this one.
pub record EndsCode (letters : List (List ℕ)) (number piece byte : ℕ) : Type 0 where
  pub text : List ℕ
  pub there : slice_get letters piece ≡ Some text
  pub within : byte < length text
  pub codes : List Code
  pub said : Letters (flat_map (λ l. l) (take piece letters) ++ take (byte + 1) text) codes
  pub count : length codes ≡ number + 1

-- The move with a number, from 0 on, stands at a byte of a token: of a normal proof it is the label;
-- of a compressed one the last letter of its code.
abbrev pub IsMovePlace : (tokens : List (List ℕ)) → (number token byte : ℕ) → Type 0
IsMovePlace tokens number token byte =
    (IsNormal tokens × (token ≡ number) × (byte ≡ 0) × (number < length tokens))
    ⊎ ((labels : List (List ℕ)) × (letters : List (List ℕ)) × IsCompressed tokens labels letters
    × (piece : ℕ) × (token ≡ length labels + 2 + piece) × EndsCode letters number piece byte)

-- These are the places of the moves, in order: each stands at its own, and none is left out.
abbrev pub AreMovePlaces : (tokens : List (List ℕ)) → (places : List (ℕ × ℕ)) → Type 0
AreMovePlaces tokens places =
    (number token byte : ℕ)
    → IsMovePlace tokens number token byte ↔ (slice_get places number ≡ Some (token, byte))
