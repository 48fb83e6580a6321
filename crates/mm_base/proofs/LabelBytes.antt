-- The bytes that a label may hold.
use Rattle.std.proofs.Common.{◌≡◌, ℕ, List, [], ◌∷◌, true}
use Rattle.std.proofs.Common.{refl}
use Rattle.std.specs.List.{list_all}
use Rattle.mm_base.specs.Token.{IsLabel, is_label_byte}

-- and no other bytes than a label may hold
pub label_bytes : (text : List ℕ) → IsLabel text → list_all is_label_byte text ≡ true
label_bytes [] h = refl
label_bytes (b ∷ bytes) h = h
