-- How the code that ends at a byte is sought among letters, byte after byte, and how all of
-- them are listed: it mirrors the code.
use Rattle.std.specs.Prelude.{ℕ, zero, suc, ◌+◌, ◌-◌, ◌==◌, List, [], ◌∷◌, ◌++◌, map, Bool}
use Rattle.std.specs.Prelude.{true, false, nat_lt, if◌then◌else◌, Option, Some, None}
use Rattle.mm_places.specs.declared.places.Sought.{Sought}
use Rattle.mm_places.specs.declared.places.Sought.TheVariants.{At, Behind, Nowhere}

-- a code ends at an index, where so many codes end before the one that is sought
abbrev pub ended : (index left : ℕ) → Sought
ended index left = if left == 0 then At index else Behind (left - 1) false

-- the letter at an index, where leading digits stand before it or not
unfoldable pub passed : (index left : ℕ) → (inside : Bool) → (byte : ℕ) → Sought
passed index left inside byte =
    if nat_lt byte 65 then Nowhere
    else (if nat_lt byte 85 then ended index left
    else (if nat_lt byte 90 then Behind left true
    else (if byte == 90 then (if inside then Nowhere else ended index left)
    else Nowhere)))

-- what is found goes on with what is behind
abbrev pub goes_on : Sought → (ℕ → Bool → Sought) → Sought
goes_on (At index) more = At index
goes_on (Behind left inside) more = more left inside
goes_on Nowhere more = Nowhere

-- the letters from an index on
abbrev pub sought : (index left : ℕ) → (inside : Bool) → List ℕ → Sought
sought index left inside [] = Behind left inside
sought index left inside (byte ∷ bytes) =
    goes_on (passed index left inside byte) (λ l i. sought (index + 1) l i bytes)

-- what is found in the piece with a number goes on with the pieces behind it
abbrev pub in_piece : (piece : ℕ) → Sought → (ℕ → Bool → Option (ℕ × ℕ)) → Option (ℕ × ℕ)
in_piece piece (At index) more = Some (piece, index)
in_piece piece (Behind left inside) more = more left inside
in_piece piece Nowhere more = None

-- the pieces from a number on
abbrev pub place_in : (number left : ℕ) → (inside : Bool) → List (List ℕ) → Option (ℕ × ℕ)
place_in number left inside [] = None
place_in number left inside (piece ∷ pieces) =
    in_piece number (sought 0 left inside piece) (λ l i. place_in (number + 1) l i pieces)

-- a code ends at the byte, or the bytes behind it tell
abbrev pub ends_by : Sought → (Bool → List ℕ) → List ℕ
ends_by (At index) more = index ∷ more false
ends_by (Behind left inside) more = more inside
ends_by Nowhere more = []

-- the bytes from an index on at which codes end
abbrev pub ends : (index : ℕ) → (inside : Bool) → List ℕ → List ℕ
ends index inside [] = []
ends index inside (byte ∷ bytes) =
    ends_by (passed index 0 inside byte) (λ i. ends (index + 1) i bytes)

-- the bytes behind the byte tell it, where it breaks no rule
abbrev pub behind_by : Sought → (Bool → Option Bool) → Option Bool
behind_by (At index) more = more false
behind_by (Behind left inside) more = more inside
behind_by Nowhere more = None

-- whether the bytes from an index on end with leading digits; none where they break a rule
abbrev pub behind : (index : ℕ) → (inside : Bool) → List ℕ → Option Bool
behind index inside [] = Some inside
behind index inside (byte ∷ bytes) =
    behind_by (passed index 0 inside byte) (λ i. behind (index + 1) i bytes)

-- the pieces behind the piece go on, where it breaks no rule
abbrev pub on_behind : Option Bool → (Bool → List (ℕ × ℕ)) → List (ℕ × ℕ)
on_behind None more = []
on_behind (Some inside) more = more inside

-- the places of the codes that end in the pieces from a token on
abbrev pub ends_from : (token : ℕ) → (inside : Bool) → List (List ℕ) → List (ℕ × ℕ)
ends_from token inside [] = []
ends_from token inside (piece ∷ pieces) =
    map (λ byte. (token, byte)) (ends 0 inside piece)
    ++ on_behind (behind 0 inside piece) (λ i. ends_from (token + 1) i pieces)

-- the places of so many labels
abbrev pub labels_before : (count : ℕ) → List (ℕ × ℕ)
labels_before zero = []
labels_before (suc token) = labels_before token ++ (token, 0) ∷ []
