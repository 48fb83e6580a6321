-- A file in which the proof of one theorem is written anew, in lines, and all else is kept. The forms
-- of proofs are those of the Metamath book, sections 4.3 and 4.4.3 and appendix B; what is kept is
-- this project's own.
use Rattle.std.specs.Prelude.{◌≡◌, ℕ, suc, ◌<◌, ◌≤◌, ◌==◌, ◌⊎◌, List, [], ◌∷◌, take, length, min}
use Rattle.std.specs.Prelude.{slice_get, slice_range, Some, if◌then◌else◌, Bool, false}
use Rattle.std.specs.List.{flat_map}
use Rattle.mm_base.specs.Statement.{PlainStatement}
use Rattle.mm_text.specs.Files.{PlainFile}
use Rattle.mm_base.specs.MostBytes.{most_bytes}
use Rattle.mm_text.specs.Replaced.{with_span}
use Rattle.mm_code.specs.Layout.{space, line_feed}
use Rattle.mm_code.specs.SmallLayout.{most_indent}
use Rattle.mm_frame.specs.Sentence.{Sentence, sentence_of}
use Rattle.mm_step.specs.declared.profile.Profile.TheVariants.{Lenient}
use Rattle.mm_step.specs.Tree.{Trees, none, tree}
use Rattle.mm_verdict.specs.declared.form.Form.{Form}
use Rattle.mm_verdict.specs.declared.form.Form.TheVariants.{Normal, Packed, Small}
use Rattle.mm_rules.specs.declared.ask.AskFault.{AskFault}
use Rattle.mm_rules.specs.declared.ask.AskFault.TheVariants.{F3}
use Rattle.mm_render.specs.declared.save_fault.SaveFault.{SaveFault}
use Rattle.mm_render.specs.declared.save_fault.SaveFault.TheVariants.{Check, Ask, TooLong}
use Rattle.mm_rules.specs.Verdict.{Verdict, HasVerdict, AreAccepted, sentences}
use Rattle.mm_rules.specs.Answer.{verdict_of_fault}
use Rattle.mm_rules.specs.Rests.{IsAskFault}
use Rattle.mm_render.specs.Forms.{HasProofTree, IsNormalText, IsPackedText, IsSmallText}
use Rattle.mm_render.specs.Forms.{IsSmallBehind, IsNormalFault}
use Rattle.mm_verdict.specs.Saved.{total_with}

-- the text is the proof of the trees in this form
abbrev pub IsTextIn : Form → (before : List Sentence) → Sentence → Trees → (text : List ℕ) → Type 0
IsTextIn Normal before s trees text = IsNormalText trees text
IsTextIn Packed before s trees text = IsPackedText before s trees text
IsTextIn Small before s trees text = IsSmallText before s trees text

-- ---- what is put in place of the bytes between a `$=` and a `$.`

-- how many spaces bytes begin with
abbrev pub spaces : List ℕ → ℕ
spaces [] = 0
spaces (byte ∷ bytes) = if byte == space then suc (spaces bytes) else 0

-- the indent of a proof that doesn't stand on lines of its own
abbrev pub usual_indent : ℕ
usual_indent = 4

-- a carriage return, which stands before each line feed in some files
abbrev pub carriage_return : ℕ
carriage_return = 13

-- the indent of a proof whose bytes begin so, behind a carriage return if there is one
abbrev pub indent_at : List ℕ → ℕ
indent_at [] = usual_indent
indent_at (byte ∷ bytes) =
    if byte == line_feed then min (spaces bytes) most_indent else usual_indent

-- bytes without a carriage return that they begin with
abbrev pub without_return : List ℕ → List ℕ
without_return [] = []
without_return (byte ∷ bytes) = if byte == carriage_return then bytes else byte ∷ bytes

-- The indent of a proof with these bytes: where they begin with a line end, the spaces right behind
-- it, but no more than a line may begin with. A line end is a line feed, behind a carriage return or
-- alone.
abbrev pub indent_of : List ℕ → ℕ
indent_of bytes = indent_at (without_return bytes)

-- the first line that ends in these bytes, behind one byte more, ends with a carriage return and a
-- line feed
abbrev pub ends_long : (before : ℕ) → List ℕ → Bool
ends_long before [] = false
ends_long before (byte ∷ bytes) =
    if byte == line_feed then before == carriage_return else ends_long byte bytes

-- the same of bytes alone
abbrev pub has_long_ends : List ℕ → Bool
has_long_ends bytes = ends_long 0 bytes

-- a byte, with a carriage return before it if it is a line feed
abbrev pub long_end : ℕ → List ℕ
long_end byte = if byte == line_feed then carriage_return ∷ byte ∷ [] else byte ∷ []

-- The text with the line ends of the old bytes: each of its line feeds has a carriage return before
-- it, if the first line that ends in the old bytes has.
abbrev pub with_ends_of : (old text : List ℕ) → List ℕ
with_ends_of old text = if has_long_ends old then flat_map long_end text else text

-- the new bytes are put in place of the old ones where they are fewer; else the old ones stay
abbrev pub IsShorter : (old new put : List ℕ) → Type 0
IsShorter old new put =
    ((length new < length old) × (put ≡ new)) ⊎ ((length old ≤ length new) × (put ≡ old))

-- These bytes are put in place of the old ones of a proof of the trees: a line feed and the proof
-- in this form; but in small form the proof with the indent that the old bytes have, and only where
-- that has fewer bytes than they. The line ends are those of the old bytes.
abbrev pub IsSpanText : Form → (before : List Sentence) → Sentence → Trees → (old put : List ℕ)
    → Type 0
IsSpanText Small before s trees old put =
    (text : List ℕ) × IsSmallBehind (indent_of old) before s trees text
    × IsShorter old (with_ends_of old text) put
IsSpanText form before s trees old put =
    (text : List ℕ) × IsTextIn form before s trees text
    × (put ≡ with_ends_of old (line_feed ∷ text))

-- the bytes of a span
abbrev pub within_span : List ℕ → (span : ℕ × ℕ) → List ℕ
within_span bytes span = slice_range bytes span.0 span.1

-- These are the bytes of the file with the number, in which the theorem with the label stands, with
-- its proof in this form in place of what stands between its `$=` and its `$.`.
pub record IsSaved (form : Form) (files : List PlainFile) (statements : List PlainStatement)
    (label : List ℕ) (number : ℕ) (bytes : List ℕ) : Type 0 where
  pub index : ℕ
  pub s : PlainStatement
  pub root : List ℕ
  pub below : Trees
  pub proof : HasProofTree statements label index s root below
  pub home : number ≡ s.first.file
  pub file : PlainFile
  pub handed : slice_get files number ≡ Some file
  pub put : List ℕ
  pub laid : IsSpanText form (sentences (take index statements)) (sentence_of s)
      (tree root below none) (within_span file.bytes s.span) put
  pub whole : bytes ≡ with_span file.bytes s.span put

-- the files have no more bytes than they may, with these in the file with the number
abbrev pub FitsSaved : List PlainFile → (number : ℕ) → (bytes : List ℕ) → Type 0
FitsSaved files number bytes = total_with files number bytes ≤ most_bytes

-- why the theorem with the label has no proof that is written in this form
abbrev pub IsFormFault : Form → List PlainStatement → (label : List ℕ) → AskFault → Type 0
IsFormFault Normal statements label fault = IsNormalFault statements label fault
IsFormFault Packed statements label fault = IsAskFault statements label fault
IsFormFault Small statements label fault = IsAskFault statements label fault

-- Why no file is written anew: the proof isn't written in this form, or the files would have more
-- bytes than they may.
abbrev pub IsSaveFault : Form → List PlainFile → List PlainStatement → (label : List ℕ) → AskFault
    → Type 0
IsSaveFault form files statements label F3 =
    (number : ℕ) × (bytes : List ℕ) × IsSaved form files statements label number bytes
    × (most_bytes < total_with files number bytes)
IsSaveFault form files statements label fault = IsFormFault form statements label fault

-- Why saving gives nothing: the verdict over the files isn't that they are accepted, or they are, and
-- no file is written anew; or, in either part, memory ran out.
abbrev pub IsSavingFault : Form → List PlainFile → (label : List ℕ) → SaveFault → Type 0
IsSavingFault form files label (Check fault) =
    (verdict : Verdict) → verdict_of_fault fault ≡ Some verdict → HasVerdict Lenient files verdict
IsSavingFault form files label (Ask fault) =
    (statements : List PlainStatement) × AreAccepted Lenient files statements
    × IsSaveFault form files statements label fault
IsSavingFault form files label (TooLong other) = ⊥
