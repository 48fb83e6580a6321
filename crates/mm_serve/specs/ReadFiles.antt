-- How files are read: as they are, or so that what their comments say may be left out.
use Rattle.std.specs.Prelude.{◌≡◌, ℕ, ◌≤◌, List, length}
use Rattle.mm_text.specs.Alike.{ShowAlike}
use Rattle.mm_text.specs.Files.{PlainFile}
use Rattle.mm_serve.specs.declared.files.Comments.{Comments}
use Rattle.mm_serve.specs.declared.files.Comments.TheVariants.{Kept, LeftOut}

-- These bytes were read from a file that holds all of those: just these, or some that show the
-- same, with the line feeds of comments and their faults, and are no more.
abbrev pub AreReadAs : Comments → List ℕ → List ℕ → Type 0
AreReadAs Kept all bytes = bytes ≡ all
AreReadAs LeftOut all bytes =
    ShowAlike all bytes × (length bytes ≤ length all)

-- This file was read from a whole one.
abbrev pub IsReadAs : Comments → PlainFile → PlainFile → Type 0
IsReadAs comments whole read =
    (whole.name ≡ read.name) × AreReadAs comments whole.bytes read.bytes
