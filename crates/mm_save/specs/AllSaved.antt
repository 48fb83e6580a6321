-- A file in which proofs are replaced, and all else is kept; and that in which each complete proof
-- is written anew, in lines. The forms of proofs are those of the Metamath book, sections 4.3 and
-- 4.4.3 and appendix B; what is kept is this project's own.
use Rattle.std.specs.Prelude.{◌≡◌, ℕ, ◌<◌, ◌==◌, ◌&&◌, List, [], ◌∷◌, ◌++◌, take, drop, length}
use Rattle.std.specs.Prelude.{Bool, Some, slice_get, slice_range, filter}
use Rattle.std.specs.List.{AllZip}
use Rattle.mm_base.specs.Statement.{PlainStatement}
use Rattle.mm_text.specs.Files.{PlainFile}
use Rattle.mm_base.specs.MostBytes.{most_bytes}
use Rattle.mm_frame.specs.Sentence.{sentence_of}
use Rattle.mm_step.specs.declared.profile.Profile.TheVariants.{Lenient}
use Rattle.mm_step.specs.Tree.{Trees, none, tree, spelling}
use Rattle.mm_verdict.specs.declared.form.Form.{Form}
use Rattle.mm_verdict.specs.declared.form.Form.TheVariants.{Normal}
use Rattle.mm_rules.specs.declared.ask.AskFault.{AskFault}
use Rattle.mm_rules.specs.declared.ask.AskFault.TheVariants.{F3, Memory}
use Rattle.mm_render.specs.declared.save_fault.SaveFault.{SaveFault}
use Rattle.mm_render.specs.declared.save_fault.SaveFault.TheVariants.{Check, Ask, TooLong}
use Rattle.mm_rules.specs.Verdict.{Verdict, HasVerdict, AreAccepted, is_proof, sentences}
use Rattle.mm_rules.specs.Answer.{verdict_of_fault}
use Rattle.mm_render.specs.Forms.{HasProofTree, most_labels}
use Rattle.mm_render.specs.Saved.{IsSpanText, within_span}
use Rattle.mm_verdict.specs.Saved.{total_with}

-- a `$p` with a complete proof that stands in the file with the number
abbrev pub is_theorem_of : (number : ℕ) → PlainStatement → Bool
is_theorem_of number s = is_proof s && (s.first.file == number)

-- these, in the order of the database
abbrev pub theorems_of : (number : ℕ) → List PlainStatement → List PlainStatement
theorems_of number statements = filter (is_theorem_of number) statements

-- a span of bytes, and what stands in its place
pub record Replacement : Type 0 where
  pub span : ℕ × ℕ
  pub text : List ℕ

-- in a file of these bytes, what stands between the `$=` and the `$.` of the theorem is replaced by
-- what is put there in this form
pub record IsReplacement (form : Form) (bytes : List ℕ) (statements : List PlainStatement)
    (s : PlainStatement) (new : Replacement) : Type 0 where
  pub label : List ℕ
  pub index : ℕ
  pub root : List ℕ
  pub below : Trees
  pub proof : HasProofTree statements label index s root below
  pub laid : IsSpanText form (sentences (take index statements)) (sentence_of s)
      (tree root below none) (within_span bytes s.span) new.text
  pub span : new.span ≡ s.span

-- The bytes from a position on with several spans replaced: in turn what is kept up to a span and
-- the text in its place, and then what is left. It is asked only where each span stands behind the
-- one before it, as those of proofs do (`ProofSpansFollow`).
abbrev pub replaced_from : (at : ℕ) → List ℕ → List Replacement → List ℕ
replaced_from at bytes [] = drop at bytes
replaced_from at bytes (new ∷ news) =
    slice_range bytes at new.span.0 ++ (new.text ++ replaced_from new.span.1 bytes news)

-- all of the bytes with several spans replaced
abbrev pub with_replaced : List ℕ → List Replacement → List ℕ
with_replaced bytes news = replaced_from 0 bytes news

-- These are the bytes of the file with the number in which the proof of each of its theorems is
-- replaced by what may stand there, given the bytes that the file had.
pub record IsRewritten (May : (bytes : List ℕ) → PlainStatement → Replacement → Type 0)
    (files : List PlainFile) (statements : List PlainStatement) (number : ℕ)
    (bytes : List ℕ) : Type 0 where
  pub file : PlainFile
  pub handed : slice_get files number ≡ Some file
  pub replaced : List Replacement
  pub each : AllZip (May file.bytes) (theorems_of number statements) replaced
  pub whole : bytes ≡ with_replaced file.bytes replaced

-- Why such a file isn't written, where nothing is at fault: the files would have more bytes than
-- they may, or memory ran out.
abbrev pub IsRewriteFault : (May : (bytes : List ℕ) → PlainStatement → Replacement → Type 0)
    → List PlainFile → List PlainStatement → (number : ℕ) → AskFault → Type 0
IsRewriteFault May files statements number F3 =
    (bytes : List ℕ) × IsRewritten May files statements number bytes
    × (most_bytes < total_with files number bytes)
IsRewriteFault May files statements number Memory = Unit {0}
IsRewriteFault May files statements number fault = ⊥

-- These are the bytes of the file with the number in which each theorem whose proof is complete has
-- its proof in this form, or, in small form, the bytes that stood there, where the new ones aren't
-- fewer.
abbrev pub IsAllSaved : Form → List PlainFile → List PlainStatement → (number : ℕ)
    → (bytes : List ℕ) → Type 0
IsAllSaved form files statements number bytes =
    IsRewritten (λ own. IsReplacement form own statements) files statements number bytes

-- The theorem with the label is the first one of the file whose normal proof has more labels than
-- may be written: those before it can be replaced, whatever the bytes of the file are.
pub record IsFirstTooLong (statements : List PlainStatement) (number : ℕ)
    (label : List ℕ) : Type 0 where
  pub before : List PlainStatement
  pub s : PlainStatement
  pub after : List PlainStatement
  pub split : theorems_of number statements ≡ before ++ s ∷ after
  pub bytes : List ℕ
  pub news : List Replacement
  pub fit : AllZip (IsReplacement Normal bytes statements) before news
  pub index : ℕ
  pub root : List ℕ
  pub below : Trees
  pub proof : HasProofTree statements label index s root below
  pub long : most_labels < length (spelling (tree root below none))

-- why the file isn't written anew, where nothing is at fault and no normal proof is too long
abbrev pub IsAllSaveFault : Form → List PlainFile → List PlainStatement → (number : ℕ) → AskFault
    → Type 0
IsAllSaveFault form files statements number fault =
    IsRewriteFault (λ own. IsReplacement form own statements) files statements number fault

-- Why saving gives nothing: the verdict over the files isn't that they are accepted, or they are,
-- and a normal proof is too long, or the file isn't written anew; or, in either part, memory was
-- wanting.
abbrev pub IsSavingAllFault : Form → List PlainFile → (number : ℕ) → SaveFault → Type 0
IsSavingAllFault form files number (Check fault) =
    (verdict : Verdict) → verdict_of_fault fault ≡ Some verdict → HasVerdict Lenient files verdict
IsSavingAllFault form files number (TooLong label) =
    (form ≡ Normal) × (statements : List PlainStatement) × AreAccepted Lenient files statements
    × IsFirstTooLong statements number label.now
IsSavingAllFault form files number (Ask fault) =
    (statements : List PlainStatement) × AreAccepted Lenient files statements
    × IsAllSaveFault form files statements number fault
