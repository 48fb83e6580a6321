-- Two lists, index by index.
use Rattle.std.proofs.Common.{◌≡◌, ℕ, suc, ◌<◌, List, [], ◌∷◌, length}
use Rattle.std.proofs.Common.{get_or, arith}
use Rattle.std.specs.List.{AllZip}

-- ---- two lists, index by index

pub zip_by_index : {A : Type 0} (R : A → A → Type 0) (xs ys : List A) → length ys ≡ length xs
    → ((k : ℕ) (d : A) → k < length xs → R (get_or xs k d) (get_or ys k d)) → AllZip R xs ys
zip_by_index R [] [] long each = tt
zip_by_index R [] (y ∷ ys) long each = absurd (omega arith)
zip_by_index R (x ∷ xs) [] long each = absurd (omega arith)
zip_by_index R (x ∷ xs) (y ∷ ys) long each = (
  each 0 x (omega arith),
  zip_by_index R xs ys (omega arith) (λ k d less. each (suc k) d (omega arith)),
)
