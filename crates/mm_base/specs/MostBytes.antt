-- How many bytes there may be in all.
use Rattle.std.specs.Prelude.{ℕ}

-- The most bytes that the handed files may hold in all, and a text that is handed in by itself: 2^30.
abbrev pub most_bytes : ℕ
most_bytes = 1073741824
