-- Sets of numbers as the bits of all their words.
use Rattle.std.proofs.Common.{◌≡◌, ◌↔◌, ℕ, zero, suc, ◌/◌, ◌%◌, ◌<◌, max, List}
use Rattle.std.proofs.Common.{get_or, true, eq-eqb, bit_or}
use Rattle.std.proofs.Common.{◌⊎◌, inl, inr, refl, arith}
use Rattle.std.specs.Int.{bit_at}
use Rattle.std.proofs.lemmas.Nat.Bits.{bit_at_or, bit_at-lt}
use Rattle.std.proofs.lemmas.Bool.{eqb-true}
use Rattle.mm_axioms.specs.Mirror.Bits.{has_bit}

-- ==== sets as bits

pub has_word : (words : List ℕ) (n : ℕ)
    → has_bit words n ≡ true ↔ (bit_at (get_or words (n / 64) 0) (n % 64) ≡ 1)
unfolding has_bit
has_word words n = (
  eqb-true (bit_at (get_or words (n / 64) 0) (n % 64)) 1,
  eq-eqb (bit_at (get_or words (n / 64) 0) (n % 64)) 1,
)

pub bit_either : (a b i : ℕ) → bit_at (bit_or a b) i ≡ 1 ↔ ((bit_at a i ≡ 1) ⊎ (bit_at b i ≡ 1))
bit_either a b i = go (bit_at a i) (bit_at b i) (bit_at-lt a i) (bit_at-lt b i) (bit_at_or a b i)
  where
    go : (x y : ℕ) → x < 2 → y < 2 → bit_at (bit_or a b) i ≡ max x y
        → bit_at (bit_or a b) i ≡ 1 ↔ ((x ≡ 1) ⊎ (y ≡ 1))
    go zero zero p q e = ((λ h. absurd cc), λ h. elim h [ inl t ↦ absurd cc | inr t ↦ absurd cc ])
    go (suc zero) zero p q e = ((λ h. inl refl), λ h. e)
    go zero (suc zero) p q e = ((λ h. inr refl), λ h. e)
    go (suc zero) (suc zero) p q e = ((λ h. inl refl), λ h. e)
    go (suc (suc x)) y p q e = absurd (omega arith)
    go x (suc (suc y)) p q e = absurd (omega arith)
