-- Sets of numbers as the bits of words. This file mirrors the code, and is cited by private
-- contracts alone.
use Rattle.std.specs.Prelude.{◌≡◌, ℕ, ◌+◌, ◌^◌, ◌<◌, ◌/◌, ◌%◌, ◌&&◌, List, [], ◌∷◌, map, Contains}
use Rattle.std.specs.Prelude.{slice_index_or, Bool, true, nat_eq, bit_and, if◌then◌else◌}
use Rattle.std.specs.Int.{bit_at}
use Rattle.std.specs.List.{list_any}
use Rattle.mm_rules.specs.Rests.{AreRising}
use Rattle.mm_axioms.specs.declared.bits.SetWord.{SetWord}

-- ---- all words of a set

-- whether the number is in the set
unfoldable pub has_bit : List ℕ → ℕ → Bool
has_bit words n = nat_eq (bit_at (slice_index_or words (n / 64) 0) (n % 64)) 1

-- the words from an index on that aren't 0
abbrev pub words_from : ℕ → List ℕ → List SetWord
words_from index [] = []
words_from index (bits ∷ words) =
    if nat_eq bits 0 then words_from (index + 1) words
    else (record { index = index; bits = bits } ∷ words_from (index + 1) words)

-- ---- those that aren't 0

-- whether the word has the bit of the number
unfoldable pub is_bit_of : SetWord → ℕ → Bool
is_bit_of word n = nat_eq word.index (n / 64) && nat_eq (bit_at word.bits (n % 64)) 1

-- whether the number is in the set
abbrev pub has_number : List SetWord → ℕ → Bool
has_number row n = list_any (λ word. is_bit_of word n) row

-- the other word has each bit of this one
abbrev pub IsPartOf : SetWord → SetWord → Type 0
IsPartOf word other = (word.index ≡ other.index) × (bit_and word.bits other.bits ≡ word.bits)

-- words in their order, each with a bit
pub record IsRow (row : List SetWord) : Type 0 where
  pub rising : AreRising (map (λ word. word.index) row)
  pub filled : (word : SetWord) → Contains row word → (n : ℕ) × (is_bit_of word n ≡ true)
  pub narrow : (word : SetWord) → Contains row word → (word.index < 2 ^ 58) × (word.bits < 2 ^ 64)
