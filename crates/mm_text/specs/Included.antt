-- The handed files that nothing includes: no item of the files is of them, neither a token nor the
-- end (the Metamath book, section 4.1.2). The items end at the first fault of X1 to X5, X7 and X9,
-- and go on past every other.
use Rattle.std.specs.Prelude.{◌≡◌, ℕ, ◌==◌, List, length, Bool, not, filter}
use Rattle.std.specs.List.{AllZip, list_any, range_with_len}
use Rattle.mm_text.specs.Files.{PlainFile}
use Rattle.mm_text.specs.Items.{Item, Plain, Wrong, Inclusion, End, items}
use Rattle.mm_text.specs.Alike.{AreAlike}

-- the number of the file that an item is of
abbrev pub file_of : Item → ℕ
file_of (Plain t) = t.file
file_of (Wrong rule t) = t.file
file_of (Inclusion t) = t.file
file_of (End file) = file

-- no item of the files is of the one with this number
abbrev pub is_left_out : List PlainFile → ℕ → Bool
is_left_out files n = not (list_any (λ item. file_of item == n) (items files))

-- the numbers of the files that are left out, in rising order
abbrev pub left_out : List PlainFile → List ℕ
left_out files = filter (is_left_out files) (range_with_len 0 (length files))

-- of files with the same names that show the same, the same are left out
abbrev pub AlikeFilesLeaveOutTheSame : Type 0
AlikeFilesLeaveOutTheSame =
    (files others : List PlainFile) → AllZip AreAlike files others
    → left_out files ≡ left_out others
