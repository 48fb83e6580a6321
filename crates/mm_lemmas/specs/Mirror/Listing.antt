-- What the code knows on its way to the list of lemmas. This file mirrors the code, and is cited by
-- private contracts alone.
use Rattle.std.specs.Prelude.{◌≡◌, ℕ, ◌+◌, ◌≤◌, List, ◌++◌, length, min}
use Rattle.std.specs.Prelude.{Option, None, option_map}
use Rattle.std.specs.List.{flat_map}
use Rattle.mm_base.specs.Statement.{PlainStatement}
use Rattle.mm_code.specs.Layout.{texts}
use Rattle.mm_text.specs.Files.{PlainFile}
use Rattle.mm_text.specs.Reading.{Reads}
use Rattle.mm_find.specs.Plain.{expressions_in}
use Rattle.mm_lemmas.specs.declared.told.Name.{Name as ToldName}
use Rattle.mm_lemmas.specs.declared.told.Name.TheVariants as told
use Rattle.mm_lemmas.specs.declared.told.Source.{Source}
use Rattle.mm_lemmas.specs.declared.told.Told.{Told}
use Rattle.mm_lemmas.specs.declared.listing.Listing.{Listing}
use Rattle.mm_lemmas.specs.declared.listing.Sums.{Sums}
use Rattle.mm_lemmas.specs.Told.{AreLemmaLines, IsKnownThere, IsThere, LemmaLine, Name, Label, Line}
use Rattle.mm_lemmas.specs.Told.{lemma_text, most_sum, sum_of}

-- ---- a lemma

abbrev pub plain_name : ToldName → Name
plain_name (told.Label label) = Label label.now
plain_name (told.Line number) = Line number

abbrev pub plain_known : Option ToldName → Option Name
plain_known known = option_map plain_name known

-- the line of a lemma
abbrev pub line_of : Told → LemmaLine
line_of t = record {
  saved = t.gain.saved;
  uses = t.gain.uses;
  proofs = t.gain.proofs;
  upper = plain_name t.source.upper;
  place = t.source.place;
  lower = plain_name t.source.lower;
  known = plain_known t.source.known;
  hypotheses = expressions_in t.hypotheses.items;
  expression = texts t.expression.items;
}

-- what it names is there
pub record AreNamesOf (statements : List PlainStatement) (before : ℕ) (source : Source)
    : Type 0 where
  pub upper : IsThere statements before (plain_name source.upper)
  pub lower : IsThere statements before (plain_name source.lower)
  pub known : IsKnownThere statements before (plain_known source.known)

-- ---- the lines so far

-- the sums over these lines
pub record AreSums (lines : List LemmaLine) (sums : Sums) : Type 0 where
  pub lemmas : sums.lemmas ≡ length lines
  pub saved : sums.saved ≡ sum_of (λ l. l.saved) lines
  pub uses : sums.uses ≡ sum_of (λ l. l.uses) lines

-- a line is put, and added to the sums
pub record PutsLine (line : LemmaLine) (old new : Listing) : Type 0 where
  pub text : new.text.items ≡ old.text.items ++ lemma_text line
  pub lemmas : new.sums.lemmas ≡ old.sums.lemmas + 1
  pub saved : new.sums.saved ≡ min most_sum (old.sums.saved + line.saved)
  pub uses : new.sums.uses ≡ min most_sum (old.sums.uses + line.uses)

-- these lines of the files are listed
pub record IsListedSoFar (most least : ℕ) (files : List PlainFile) (lines : List LemmaLine)
    (list : Listing) : Type 0 where
  pub text : list.text.items ≡ flat_map lemma_text lines
  pub sums : AreSums lines list.sums
  pub few : length lines ≤ most
  pub each : (statements : List PlainStatement) → Reads files statements None
      → AreLemmaLines least statements 0 lines
