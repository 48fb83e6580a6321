-- What the key of a name is. This file mirrors the code, and is cited by private contracts, and by
-- the invariant and the hash of `Name`.
use Rattle.std.specs.Prelude.{◌≡◌, ℕ, ◌<◌, ◌-◌, if◌then◌else◌, nat_lt}
use Rattle.std.specs.Prelude.{List, [], ◌∷◌, ◌++◌, length, take, drop, get_or}
use Rattle.std.specs.Int.{Width, w16, w32, w64, from_le_bytes}
use Rattle.std.specs.Hash as fed

-- the number that so many bytes from an index on make
abbrev pub number_at : Width → ℕ → List ℕ → ℕ → ℕ
number_at w count bytes at = from_le_bytes w (take count (drop at bytes))

-- the numbers of so many of the first bytes and of so many of the last
abbrev pub ends_by : Width → ℕ → List ℕ → ℕ × ℕ
ends_by w count bytes = (number_at w count bytes 0, number_at w count bytes (length bytes - count))

-- the ends of a name of less than 4 bytes: 2 bytes of each, if it has them
abbrev pub short_ends : List ℕ → ℕ × ℕ
short_ends bytes = if nat_lt (length bytes) 2 then (0, 0) else ends_by w16 2 bytes

-- the ends of a name as numbers: 8 bytes of each, or 4, or 2, as many as it has
unfoldable pub ends_of : List ℕ → ℕ × ℕ
ends_of bytes =
    if nat_lt (length bytes) 8
    then (if nat_lt (length bytes) 4 then short_ends bytes else ends_by w32 4 bytes)
    else ends_by w64 8 bytes

-- the numbers stand beside a name as its ends
pub record IsKey (bytes : List ℕ) (prefix back : ℕ) : Type 0 where
  pub bytes_of : (i : ℕ) → get_or bytes i 0 < 256
  pub ends : (prefix, back) ≡ ends_of bytes

-- what is hashed of a name: its ends, or all of it where they are not all of it
unfoldable pub hashed : List ℕ → List (List ℕ)
hashed bytes =
    if nat_lt 16 (length bytes)
    then bytes ∷ []
    else fed.u64 (ends_of bytes).0 ++ fed.u64 (ends_of bytes).1
