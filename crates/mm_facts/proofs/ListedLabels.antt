-- The labels in the list of a compressed proof.
use Rattle.std.proofs.Common.{◌≡◌, ◌∷◌, List, ℕ, subst, sym}
use Rattle.mm_proof.specs.Tokens.{IsCompressed, opening_token}

-- their list, and their letters
pub listed_there : (tokens rest listed letters : List (List ℕ)) → tokens ≡ opening_token ∷ rest
    → IsCompressed (opening_token ∷ rest) listed letters
    → (those : List (List ℕ)) × IsCompressed tokens listed those
listed_there tokens rest listed letters begun parts =
    (letters, subst (λ (ts : List (List ℕ)). IsCompressed ts listed letters) (sym begun) parts)
