-- What the code knows on its way to a file in which each complete proof is written anew. This file
-- mirrors the code, and is cited by private contracts alone.
use Rattle.std.specs.Prelude.{ℕ, ◌<◌, ◌↔◌, List, length}
use Rattle.mm_text.specs.Files.{PlainFile}
use Rattle.mm_base.specs.MostBytes.{most_bytes}
use Rattle.mm_verdict.specs.Saved.{total_with}

-- this is the most that the file with the number may have, so that the files have no more bytes than
-- they may
abbrev pub IsMostFor : List PlainFile → (number most : ℕ) → Type 0
IsMostFor files number most =
    (bytes : List ℕ) → (most < length bytes) ↔ (most_bytes < total_with files number bytes)
