-- The parts of a line, and the texts of words that are exchanged.
use Rattle.std.proofs.Common.{◌≡◌, ℕ, List, ◌++◌, append_assoc}
use Rattle.std.proofs.lemmas.List.{drop-map, map-append, take-map}
use Rattle.mm_base.specs.declared.token.Token.{Token}
use Rattle.mm_step.specs.Plain.{token_texts}
use Rattle.mm_mend.specs.Mend.{exchanged_at}

pub exchanged_texts : (at : ℕ) (tokens : List Token)
    → token_texts (exchanged_at at tokens) ≡ exchanged_at at (token_texts tokens)
exchanged_texts at tokens = simp (map-append, take-map, drop-map)

pub line_parts : (out a b c d e o₁ o₂ o₃ o₄ o₅ : List ℕ) → o₁ ≡ out ++ a → o₂ ≡ o₁ ++ b
    → o₃ ≡ o₂ ++ c → o₄ ≡ o₃ ++ d → o₅ ≡ o₄ ++ e → o₅ ≡ out ++ (a ++ b ++ c ++ d ++ e)
line_parts out a b c d e o₁ o₂ o₃ o₄ o₅ h₁ h₂ h₃ h₄ h₅ =
    rw (h₅, h₄, h₃, h₂, h₁) (simp append_assoc)
