-- The lines of a text, each of which a line feed ends, and the line of a position in it.
use Rattle.std.specs.Prelude.{ℕ, ◌+◌, ◌==◌, List, [], take, count_by, slice_get, option_map, unwrap_or}
use Rattle.mm_text.specs.Files.{PlainFile}

-- how many line feeds stand before a position
abbrev pub feeds_before : List ℕ → ℕ → ℕ
feeds_before bytes at = count_by (λ b. b == 10) (take at bytes)

-- the same in one of the files; where there is no such file, the text is empty
abbrev pub feeds_in : List PlainFile → ℕ → ℕ → ℕ
feeds_in files file at =
    feeds_before (unwrap_or (option_map (λ f. f.bytes) (slice_get files file)) []) at

-- the line of a position in a text: one more than the number of line feeds before it
abbrev pub line_in : List ℕ → ℕ → ℕ
line_in bytes at = feeds_before bytes at + 1

-- the line of a position in one of the files
abbrev pub line_of : List PlainFile → ℕ → ℕ → ℕ
line_of files file at = feeds_in files file at + 1
