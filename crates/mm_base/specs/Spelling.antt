-- A text that is a word, byte by byte.
use Rattle.std.specs.Prelude.{ℕ, List}
use Rattle.std.specs.Prelude.{Bool}
use Rattle.std.specs.Str.{bytes_eq}

-- a text is this word, byte by byte
abbrev pub spells : List ℕ → List ℕ → Bool
spells text word = bytes_eq text word
