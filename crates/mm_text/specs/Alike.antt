-- Files that show the same: the same tokens outside comments, up to the first fault of comments,
-- and that fault, on the same lines. A comment without a fault shows nothing (the Metamath book,
-- sections 4.1.2 and 4.4.1).
use Rattle.std.specs.Prelude.{◌≡◌, ℕ, List, [], map, Option, None, option_map}
use Rattle.std.specs.List.{AllZip}
use Rattle.mm_base.specs.Token.{PlainToken, tokens_from}
use Rattle.mm_base.specs.Statement.{PlainStatement}
use Rattle.mm_text.specs.Files.{PlainFile}
use Rattle.mm_text.specs.LineNumbers.{feeds_before, feeds_in}
use Rattle.mm_text.specs.Items.{Item, Plain, Wrong, Inclusion, End, Shown, Clear, Broken}
use Rattle.mm_text.specs.Items.{without_comments}
use Rattle.mm_text.specs.Reading.{PlainFault, Reads}

-- A token with another number in place of its position: one that its file and its position give,
-- such as how many line feeds stand before it.
abbrev pub token_on : (ℕ → ℕ → ℕ) → PlainToken → PlainToken
token_on line t = record { text = t.text; file = t.file; at = line t.file t.at }

-- a token at fault with such a number: what it says doesn't matter
abbrev pub faulty_on : (ℕ → ℕ → ℕ) → PlainToken → PlainToken
faulty_on line t = record { text = []; file = t.file; at = line t.file t.at }

-- what is shown, with such numbers
abbrev pub shown_on : (ℕ → ℕ → ℕ) → Shown → Shown
shown_on line (Clear t) = Clear (token_on line t)
shown_on line (Broken rule t) = Broken rule (faulty_on line t)

-- an item, with such numbers
abbrev pub item_on : (ℕ → ℕ → ℕ) → Item → Item
item_on line (Plain t) = Plain (token_on line t)
item_on line (Wrong rule t) = Wrong rule (faulty_on line t)
item_on line (Inclusion t) = Inclusion (token_on line t)
item_on line (End file) = End file

-- a statement, with such numbers: where its proof's bytes stand doesn't matter
abbrev pub statement_on : (ℕ → ℕ → ℕ) → PlainStatement → PlainStatement
statement_on line s = record {
  kind = s.kind;
  first = token_on line s.first;
  label = option_map (token_on line) s.label;
  symbols = map (token_on line) s.symbols;
  proof = map (token_on line) s.proof;
  span = (0, 0);
}

-- a fault of the text, with such numbers
abbrev pub fault_on : (ℕ → ℕ → ℕ) → PlainFault → PlainFault
fault_on line f = record {
  rule = f.rule;
  file = f.file;
  at = line f.file f.at;
  statement = f.statement;
  label = option_map (token_on line) f.label;
}

-- what a file of these bytes shows: its tokens outside comments, and the fault that ends them, if
-- there is one, each with the number of line feeds before it
abbrev pub shows : ℕ → List ℕ → List Shown
shows file bytes =
    map (shown_on (λ number at. feeds_before bytes at))
    (without_comments None (tokens_from file 0 bytes))

-- these bytes of a file and those show the same
abbrev pub ShowAlike : List ℕ → List ℕ → Type 0
ShowAlike bytes others = (file : ℕ) → shows file bytes ≡ shows file others

-- the two have one name, and show the same
abbrev pub AreAlike : PlainFile → PlainFile → Type 0
AreAlike one other = (one.name ≡ other.name) × ShowAlike one.bytes other.bytes

-- The other files have a reading that is these statements and this ending, but for positions: lines
-- are the same.
pub record AreReadAlike (files others : List PlainFile) (statements : List PlainStatement)
    (ending : Option PlainFault) : Type 0 where
  pub same : List PlainStatement
  pub end : Option PlainFault
  pub reads : Reads others same end
  pub spelled :
      map (statement_on (feeds_in files)) statements ≡ map (statement_on (feeds_in others)) same
  pub ended : option_map (fault_on (feeds_in files)) ending
      ≡ option_map (fault_on (feeds_in others)) end

-- files with the same names that show the same are read alike
abbrev pub AlikeFilesAreReadAlike : Type 0
AlikeFilesAreReadAlike =
    (files others : List PlainFile) → AllZip AreAlike files others
    → (statements : List PlainStatement) (ending : Option PlainFault)
    → Reads files statements ending → AreReadAlike files others statements ending
