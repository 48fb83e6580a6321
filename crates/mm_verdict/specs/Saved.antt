-- A file in which the proof of one theorem is written anew, in lines, and all else is kept. The forms
-- of proofs are those of the Metamath book, sections 4.3 and 4.4.3 and appendix B; what is kept is
-- this project's own.
use Rattle.std.specs.Prelude.{ℕ, List}
use Rattle.mm_text.specs.Files.{PlainFile, total_bytes}
use Rattle.mm_text.specs.Replaced.{with_bytes}

-- how many bytes the files hold in all, with these in the file with the number
abbrev pub total_with : List PlainFile → (number : ℕ) → (bytes : List ℕ) → ℕ
total_with files number bytes = total_bytes (with_bytes files number bytes)
