-- What the files of a folder hold, as far as that is known: `holds` tells what is known of the file
-- with a name, and `may_fail` is said of the names of files that can't be opened, or of which a
-- read may fail.
use Rattle.std.specs.Prelude.{◌≡◌, ℕ, ◌+◌, ◌<◌, ◌≤◌, List, ◌∷◌, ◌++◌, length, map}
use Rattle.std.specs.List.{AllByRecursion}
use Rattle.mm_text.specs.Files.{PlainFile, total_bytes}
use Rattle.mm_serve.specs.declared.files.ReadFile.{ReadFile}
use Rattle.mm_serve.specs.declared.files.FileFault.{FileFault}
use Rattle.mm_serve.specs.declared.files.FileFault.TheVariants as fault

-- What is known of the file with a name: nothing; that there is no such file; or all its bytes.
pub data KnownFile : Type 0 where
  Unknown : KnownFile
  Absent : KnownFile
  Holds : (bytes : List ℕ) → KnownFile

-- The file may be there, and hold bytes of which this is so: nothing is known of it, or these are
-- its bytes. A file that is absent holds none, not even no bytes at all.
abbrev pub MayHold : KnownFile → (List ℕ → Type 0) → Type 0
MayHold Unknown P = Unit {0}
MayHold Absent P = ⊥
MayHold (Holds bytes) P = P bytes

-- a file that was read, without where it lies in memory
abbrev pub plain_read : ReadFile → PlainFile
plain_read f = record { name = f.name.now; bytes = f.bytes.items }

-- The file with this name holds these bytes, where it's known what it holds. It isn't absent.
abbrev pub IsHeld : (List ℕ → KnownFile) → PlainFile → Type 0
IsHeld holds file = MayHold (holds file.name) (λ all. file.bytes ≡ all)

-- these are the files with these names, in this order
abbrev pub AreHeld : (List ℕ → KnownFile) → List (List ℕ) → List PlainFile → Type 0
AreHeld holds names files = (map (λ f. f.name) files ≡ names) × AllByRecursion (IsHeld holds) files

-- The files before this name were read, and hold no more bytes than they may.
pub record ComesNext (holds : List ℕ → KnownFile) (names : List (List ℕ)) (max : ℕ)
    (name : List ℕ) : Type 0 where
  pub before : List PlainFile
  pub after : List (List ℕ)
  pub whole : names ≡ map (λ f. f.name) before ++ name ∷ after
  pub are_held : AllByRecursion (IsHeld holds) before
  pub within : total_bytes before ≤ max

-- The file with this name, after those before it, couldn't be opened, or a read of it failed.
abbrev pub IsUnreadable : (List ℕ → KnownFile) → (List ℕ → Type 0) → List (List ℕ) → ℕ
    → List ℕ → Type 0
IsUnreadable holds may_fail names max name = ComesNext holds names max name × may_fail name

-- One of the files, with those before it, holds more bytes than they may.
abbrev pub AreTooLong : (List ℕ → KnownFile) → List (List ℕ) → ℕ → Type 0
AreTooLong holds names max =
    (name : List ℕ) × (next : ComesNext holds names max name)
    × MayHold (holds name) (λ all. max < total_bytes next.before + length all)

-- why not all files with these names were read
abbrev pub IsFileFault : (List ℕ → KnownFile) → (List ℕ → Type 0) → List (List ℕ) → ℕ
    → FileFault → Type 0
IsFileFault holds may_fail names max (fault.CannotRead name) =
    IsUnreadable holds may_fail names max name.now
IsFileFault holds may_fail names max fault.TooLong = AreTooLong holds names max
IsFileFault holds may_fail names max fault.Memory = Unit {0}
