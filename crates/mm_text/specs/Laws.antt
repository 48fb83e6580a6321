-- The laws of readings, and of the items that are read.
use Rattle.std.specs.Prelude.{◌≡◌, ◌≢◌, ℕ, ◌+◌, ◌≤◌, List, [], ◌∷◌, ◌++◌, length, replicate}
use Rattle.std.specs.Prelude.{Option, true, false}
use Rattle.mm_base.specs.Token.{PlainToken}
use Rattle.mm_base.specs.Statement.{PlainStatement, Spells}
use Rattle.mm_text.specs.Files.{PlainFile}
use Rattle.mm_text.specs.Items.{Item, items, pieces_of, put_in}
use Rattle.mm_text.specs.Reading.{PlainFault, IsBeginning, Viable, EndsAt, Reads}

-- the files have a reading, and no other
pub record HasOneReading (files : List PlainFile) : Type 0 where
  pub statements : List PlainStatement
  pub ending : Option PlainFault
  pub reads : Reads files statements ending
  pub only : (others : List PlainStatement) (end : Option PlainFault) → Reads files others end
      → (others ≡ statements) × (end ≡ ending)

-- files of every kind have one reading
abbrev pub EachHasOneReading : Type 0
EachHasOneReading = (files : List PlainFile) → HasOneReading files

-- more tokens make a whole statement of these
pub record BeginsStatement (tokens : List PlainToken) : Type 0 where
  pub more : List PlainToken
  pub some : more ≢ []
  pub statement : PlainStatement
  pub spelled : Spells (tokens ++ more) statement

-- a beginning of a statement is what more tokens make a whole statement of, and nothing else
abbrev pub BeginningsBeginStatements : Type 0
BeginningsBeginStatements =
    (tokens : List PlainToken)
    → (IsBeginning tokens → BeginsStatement tokens) × (BeginsStatement tokens → IsBeginning tokens)

-- no longer prefix of the items is viable
abbrev pub IsLongestViable : List Item → List Item → Type 0
IsLongestViable its prefix =
    (longer after : List Item) (statements : List PlainStatement) (unfinished : List PlainToken)
    → its ≡ longer ++ after → Viable longer statements unfinished → length longer ≤ length prefix

-- a fault comes only after the longest viable prefix
abbrev pub FaultsEndLongestPrefixes : Type 0
FaultsEndLongestPrefixes =
    (files : List PlainFile) (prefix : List Item) (item : Item) (rest : List Item)
    (statements : List PlainStatement) (unfinished : List PlainToken) (fault : PlainFault)
    → items files ≡ prefix ++ item ∷ rest → Viable prefix statements unfinished
    → EndsAt statements unfinished item fault
    → IsLongestViable (items files) prefix

-- A greater bound on how many files are put in changes nothing: by then each file that is named has
-- been put in.
abbrev pub InclusionsEnd : Type 0
InclusionsEnd =
    (top : PlainFile) (others : List PlainFile) (more : ℕ)
    → put_in (top ∷ others) (length others + more) (true ∷ replicate (length others) false)
    (pieces_of 0 top) ≡ items (top ∷ others)
