-- The line of a file in which a place stands, and the mark below the place: how they are written.
use Rattle.std.proofs.Common.{◌≡◌, ℕ, List, [], ◌++◌, append_assoc, append-nil}
use Rattle.mm_facts.specs.Explained.{block_opened, detail_text}

pub six_parts : (out a b c d e f o₁ o₂ o₃ o₄ o₅ o₆ : List ℕ) → o₁ ≡ out ++ a → o₂ ≡ o₁ ++ b
    → o₃ ≡ o₂ ++ c → o₄ ≡ o₃ ++ d → o₅ ≡ o₄ ++ e → o₆ ≡ o₅ ++ f
    → o₆ ≡ out ++ (a ++ b ++ c ++ d ++ e ++ f)
six_parts out a b c d e f o₁ o₂ o₃ o₄ o₅ o₆ h₁ h₂ h₃ h₄ h₅ h₆ =
    rw (h₆, h₅, h₄, h₃, h₂, h₁) (simp append_assoc)

-- the place of a block, and then its line
pub block_shown : (out place source o₁ o₂ : List ℕ) → o₁ ≡ out ++ detail_text (block_opened place [])
    → o₂ ≡ o₁ ++ source → o₂ ≡ out ++ detail_text (block_opened place source)
block_shown out place source o₁ o₂ h₁ h₂ = rw (h₂, h₁) (simp (append_assoc, append-nil))
