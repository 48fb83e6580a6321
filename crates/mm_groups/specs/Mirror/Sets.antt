-- Labels as keys of sets and maps. This file mirrors the code, and is cited by private contracts
-- alone.
use Rattle.std.specs.Prelude.{◌≡◌, ℕ, ◌-◌, if◌then◌else◌, List, Bool, true, Option, Some, None}
use Rattle.std.specs.Prelude.{option_map}
use Rattle.std.specs.Str.{bytes_eq}
use Rattle.indexmap.specs.IndexMap.{IndexMap, get}
use denote.Ref.{Bor}
use Rattle.mm_groups.specs.Shared.{is_in}

-- whether two keys are one label
abbrev pub same_bytes : Bor (List ℕ) → Bor (List ℕ) → Bool
same_bytes x y = bytes_eq x.now y.now

-- what is left for a label after it was named so many times more
abbrev pub left_after : (times : ℕ) → Option ℕ → Option ℕ
left_after times left = option_map (λ count. count - times) left

-- what is left before any was named
abbrev pub left_at_first : (limit : ℕ) → (listed : Bool) → Option ℕ
left_at_first limit listed = if listed then Some limit else None

-- for each of the labels the map has how much less than the limit it counts
abbrev pub HasLeft : {S : Type 0} → (limit : ℕ) → (count : List ℕ → ℕ) → List (List ℕ)
    → IndexMap (Bor (List ℕ)) ℕ S → Type 0
HasLeft limit count labels left =
    (label : Bor (List ℕ)) → is_in labels label.now ≡ true
    → get same_bytes left label ≡ Some (limit - count label.now)
