-- For each file, whether an item of it was met. This file mirrors the code, and is cited by private
-- contracts alone.
use Rattle.std.specs.Prelude.{ℕ, ◌<◌, List, [], ◌∷◌, length, Bool, true, false, not, filter}
use Rattle.std.specs.Prelude.{slice_index_or, slice_set}
use Rattle.std.specs.List.{AllByRecursion, range_with_len}
use Rattle.mm_text.specs.Items.{Item}
use Rattle.mm_text.specs.Included.{file_of}

-- each of the items is of one of so many files
abbrev pub AreOfFiles : ℕ → List Item → Type 0
AreOfFiles count its = AllByRecursion (λ item. file_of item < count) its

-- which files were met, once these items are met too
abbrev pub met_with : List Bool → List Item → List Bool
met_with met [] = met
met_with met (item ∷ rest) = met_with (slice_set met (file_of item) true) rest

-- the numbers of the files that weren't met
abbrev pub unmet : List Bool → List ℕ
unmet met = filter (λ n. not (slice_index_or met n false)) (range_with_len 0 (length met))
