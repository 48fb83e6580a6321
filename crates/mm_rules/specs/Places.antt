-- Places in the files, as an editor tells them: file, line and column. The definition and the text
-- are this project's own.
use Rattle.std.specs.Prelude.{ℕ, ◌+◌, ◌==◌, List, [], ◌++◌, take, not, slice_get, option_map}
use Rattle.std.specs.Prelude.{unwrap_or, codes, decimal}
use Rattle.std.specs.List.{suffix_len}
use Rattle.mm_base.specs.Token.{PlainToken}
use Rattle.mm_text.specs.Files.{PlainFile}
use Rattle.mm_text.specs.LineNumbers.{line_of}
use Rattle.mm_rules.specs.declared.position.Place.{Place}

-- the name of a handed file; nothing where there is no such file
abbrev pub name_of : List PlainFile → ℕ → List ℕ
name_of files file = unwrap_or (option_map (λ f. f.name) (slice_get files file)) []

-- the bytes of a handed file; none where there is no such file
abbrev pub bytes_of : List PlainFile → ℕ → List ℕ
bytes_of files file = unwrap_or (option_map (λ f. f.bytes) (slice_get files file)) []

-- how many bytes stand at the end of a text, behind its last line feed
abbrev pub bytes_since_feed : List ℕ → ℕ
bytes_since_feed bytes = suffix_len (λ b. not (b == 10)) bytes

-- the column of a position in a text: one more than the number of bytes since the line's beginning
abbrev pub column_in : List ℕ → ℕ → ℕ
column_in bytes at = bytes_since_feed (take at bytes) + 1

-- the column of a position in one of the files; 1 where there is no such file
abbrev pub column_of : List PlainFile → ℕ → ℕ → ℕ
column_of files file at = column_in (bytes_of files file) at

-- the place of a position in one of the files
abbrev pub place_of : List PlainFile → ℕ → ℕ → Place
place_of files file at = record {
  file = file;
  line = line_of files file at;
  column = column_of files file at;
}

-- its text: the file's name, the line and the column in decimal, with colons between them
abbrev pub place_text : List PlainFile → Place → List ℕ
place_text files place =
    name_of files place.file ++ codes ":" ++ decimal place.line ++ codes ":" ++ decimal place.column

-- the text of the place where a token stands
abbrev pub token_place : List PlainFile → PlainToken → List ℕ
token_place files t = place_text files (place_of files t.file t.at)
