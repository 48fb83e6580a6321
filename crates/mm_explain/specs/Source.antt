-- The line of a file in which a place stands, and a mark below the place: what `why --source` tells
-- behind a head. It is this project's own.
use Rattle.std.specs.Prelude.{ℕ, ◌-◌, ◌==◌, ◌||◌, min, max, List, [], ◌++◌, map, take, drop, length}
use Rattle.std.specs.Prelude.{Bool, true, false, not, if◌then◌else◌, codes}
use Rattle.std.specs.List.{prefix_len, suffix_len}
use Rattle.mm_base.specs.Token.{PlainToken}
use Rattle.mm_text.specs.Files.{PlainFile}
use Rattle.mm_rules.specs.Places.{bytes_of, token_place}
use Rattle.mm_facts.specs.Explained.{Detail, block_opened}

-- how many bytes of a line are told at most
abbrev pub most_told : ℕ
most_told = 100

-- how many of them stand on one side of the place, if the line has as many on both
abbrev pub half_told : ℕ
half_told = 50

-- whether the byte ends no line: a line feed does, and so does a carriage return
abbrev pub is_in_line : ℕ → Bool
is_in_line b = not (b == 10 || b == 13)

-- How many bytes are told of a side on which the line has so many, and so many on the other one:
-- half of those that are told, or what the other side leaves of these.
abbrev pub side_told : (there other : ℕ) → ℕ
side_told there other = min there (max half_told (most_told - other))

-- so many of the last bytes
abbrev pub last_bytes : (count : ℕ) → List ℕ → List ℕ
last_bytes count text = drop (length text - count) text

-- the bytes that are told of the line before the place, by the text before it and that from it on
abbrev pub told_before : (before from : List ℕ) → List ℕ
told_before before from =
    last_bytes (side_told (suffix_len is_in_line before) (prefix_len is_in_line from)) before

-- and those from the place on
abbrev pub told_from : (before from : List ℕ) → List ℕ
told_from before from =
    take (side_told (prefix_len is_in_line from) (suffix_len is_in_line before)) from

-- what stands below a byte before the place: a tab below a tab, else a space
abbrev pub blank_below : ℕ → ℕ
blank_below b = if b == 9 then 9 else 32

-- the two lines: those bytes, and the mark
abbrev pub lines_between : (before from : List ℕ) → List ℕ
lines_between before from =
    codes "  | " ++ told_before before from ++ told_from before from
    ++ codes "\n  | " ++ map blank_below (told_before before from) ++ codes "^\n"

-- those of a position in a text, of which as many bytes on each side matter as are told at most
abbrev pub source_lines : (bytes : List ℕ) → (at : ℕ) → List ℕ
source_lines bytes at =
    lines_between (last_bytes most_told (take at bytes)) (take most_told (drop at bytes))

-- those of a position in one of the files, where they are asked for; else nothing
abbrev pub source_text : (source : Bool) → List PlainFile → (file at : ℕ) → List ℕ
source_text true files file at = source_lines (bytes_of files file) at
source_text false files file at = []

-- the fact of the token with which a block begins
abbrev pub opened_block : (source : Bool) → List PlainFile → PlainToken → Detail
opened_block source files t =
    block_opened (token_place files t) (source_text source files t.file t.at)
