-- What the code knows on its way to a file in which each complete proof is written anew. This file
-- mirrors the code, and is cited by private contracts alone.
use Rattle.std.specs.Prelude.{◌≡◌, ℕ, ◌<◌, ◌≤◌, List, [], ◌∷◌, ◌++◌, drop, length, slice_get}
use Rattle.std.specs.Prelude.{slice_range, true, Option, Some, None, option_map, ◌⊎◌, sum_by}
use Rattle.std.specs.List.{AllZip}
use Rattle.mm_base.specs.declared.statement.Kind.TheVariants.{Provable}
use Rattle.mm_base.specs.Statement.{PlainStatement}
use Rattle.mm_text.specs.Files.{PlainFile}
use Rattle.mm_base.specs.MostBytes.{most_bytes}
use Rattle.mm_frame.specs.Sentence.{Sentence, sentence_of, IsLabelled}
use Rattle.mm_step.specs.declared.profile.Profile.TheVariants.{Lenient}
use Rattle.mm_step.specs.declared.profile.Profile.{Profile}
use Rattle.mm_step.specs.Steps.{IsProofNumber}
use Rattle.mm_step.specs.Tree.{Trees, none, tree, spelling}
use Rattle.mm_verdict.specs.declared.form.Form.{Form}
use Rattle.mm_verdict.specs.declared.form.Form.TheVariants.{Normal}
use Rattle.mm_rules.specs.declared.ask.AskFault.{AskFault}
use Rattle.mm_rules.specs.declared.ask.AskFault.TheVariants.{Rule, F3, Memory}
use Rattle.mm_rules.specs.declared.rule.AskRule.TheVariants.{L2}
use Rattle.mm_save.specs.declared.save_all.NewFile.{NewFile}
use Rattle.mm_rules.specs.Verdict.{AllObey, AreAccepted, PlainRefusal, is_proof, proof_of}
use Rattle.mm_rules.specs.Verdict.{sentences}
use Rattle.mm_render.specs.Forms.{HasProofTree, most_labels}
use Rattle.mm_save.specs.AllSaved.{Replacement, IsReplacement, with_replaced, replaced_from}
use Rattle.mm_save.specs.AllSaved.{theorems_of, IsFirstTooLong}
use Rattle.mm_render.specs.Mirror.AllSaving.{IsMostFor}

-- ---- one theorem

-- the statement is a `$p` with this number and a complete proof among statements that obey the
-- rules and say this
pub record IsTheoremAmong (told : List Sentence) (id : ℕ) (s : PlainStatement) : Type 0 where
  pub statements : List PlainStatement
  pub same : told ≡ sentences statements
  pub obeyed : AllObey Lenient statements
  pub index : ℕ
  pub there : slice_get statements index ≡ Some s
  pub number : IsProofNumber told id index (sentence_of s)
  pub complete : is_proof s ≡ true
  pub room : sum_by length (proof_of s) ≤ most_bytes

-- these bytes, in place of what stands between its `$=` and its `$.`
abbrev pub replacement : PlainStatement → (put : List ℕ) → Replacement
replacement s put = record { span = s.span; text = put }

-- its normal proof has more labels than may be written
abbrev pub HasTooLongProof : List PlainStatement → PlainStatement → (label : List ℕ) → Type 0
HasTooLongProof statements s label =
    (index : ℕ) × (root : List ℕ) × (below : Trees)
    × HasProofTree statements label index s root below
    × (most_labels < length (spelling (tree root below none)))

-- the form is the normal one, and the proof has more labels than may be written
abbrev pub IsTooLongAmong : Form → List Sentence → ℕ → PlainStatement → (label : List ℕ) → Type 0
IsTooLongAmong form told id s label =
    (form ≡ Normal)
    × ((theorem : IsTheoremAmong told id s) → HasTooLongProof theorem.statements s label)

-- why its proof isn't written in this form
abbrev pub IsTheoremFault : Form → List Sentence → ℕ → PlainStatement → AskFault → Type 0
IsTheoremFault form told id s (Rule L2) =
    (label : List ℕ) → IsLabelled label (sentence_of s) → IsTooLongAmong form told id s label
IsTheoremFault form told id s fault = fault ≡ Memory

-- ---- the bytes of a file

-- these are all of the bytes; or more than may be, if they aren't
abbrev pub IsUpTo : (most : ℕ) → (whole bytes : List ℕ) → Type 0
IsUpTo most whole bytes =
    (bytes ≡ whole) ⊎ ((most < length bytes) × (length bytes ≤ length whole))

-- bytes were put after others, unless those are more than may be already
abbrev pub PutsAfter : (most : ℕ) → (part old new : List ℕ) → Type 0
PutsAfter most part old new =
    (whole : List ℕ) → IsUpTo most whole old → IsUpTo most (whole ++ part) new

-- with these spans replaced, these are the bytes up to a position: what is replaced behind it comes
-- after them
abbrev pub AreReplacedUpTo : (at : ℕ) → (source : List ℕ) → List Replacement → (bytes : List ℕ)
    → Type 0
AreReplacedUpTo at source news bytes =
    (more : List Replacement) → with_replaced source (news ++ more)
    ≡ bytes ++ replaced_from at source more

-- it is the same file, whose proofs are written in the same form
pub record IsSameFile (old new : NewFile) : Type 0 where
  pub number : new.number ≡ old.number
  pub form : new.form ≡ old.form
  pub source : new.source.now ≡ old.source.now
  pub most : new.most ≡ old.most

-- the bytes up to a span were taken, and then a text put in place of the span
pub record PutsText (old : NewFile) (span : ℕ × ℕ) (text : List ℕ) (new : NewFile) : Type 0 where
  pub same : IsSameFile old new
  pub long : new.too_long ≡ old.too_long
  pub taken : new.taken ≡ span.1
  pub put : PutsAfter old.most (slice_range old.source.now old.taken span.0 ++ text)
      old.bytes.items new.bytes.items

-- a theorem's proof was put in place of the one that it had
pub record PutsProof (told : List Sentence) (id : ℕ) (old : NewFile) (s : PlainStatement)
    (new : NewFile) : Type 0 where
  pub text : List ℕ
  pub puts : PutsText old s.span text new
  pub anew : (theorem : IsTheoremAmong told id s)
      → IsReplacement old.form old.source.now theorem.statements s (replacement s text)

-- the theorem's label was kept, since its normal proof is too long
pub record KeepsLabel (told : List Sentence) (id : ℕ) (old : NewFile) (s : PlainStatement)
    (new : NewFile) : Type 0 where
  pub label : List ℕ
  pub kept : option_map (λ l. l.now) new.too_long ≡ Some label
  pub same : IsSameFile old new
  pub taken : new.taken ≡ old.taken
  pub long : IsTooLongAmong old.form told id s label

-- these are the bytes of the new file with what wasn't taken of the old one
abbrev pub IsWhole : NewFile → (bytes : List ℕ) → Type 0
IsWhole file bytes =
    (so_far : List ℕ) → IsUpTo file.most so_far file.bytes.items
    → bytes ≡ so_far ++ drop file.taken file.source.now

-- memory ran out, or these bytes are more than there may be
abbrev pub IsFinishFault : NewFile → AskFault → Type 0
IsFinishFault file fault =
    (fault ≡ Memory)
    ⊎ ((fault ≡ F3) × ((so_far : List ℕ) → IsUpTo file.most so_far file.bytes.items
    → file.most < length (so_far ++ drop file.taken file.source.now)))

-- ---- the statements so far

-- the position is where the proof of the last `$p` of the file so far whose proof is replaced ends;
-- the file's beginning, where there is none
abbrev pub IsLastEnd : (number : ℕ) → List PlainStatement → (at : ℕ) → Type 0
IsLastEnd number taken at =
    (at ≡ 0)
    ⊎ ((before : List PlainStatement) × (s : PlainStatement) × (between : List PlainStatement)
    × (taken ≡ before ++ s ∷ between) × (s.kind ≡ Provable) × (s.first.file ≡ number)
    × (at ≡ s.span.1))

-- The new file is that of one of the files, and was taken as far as the proofs of these statements
-- go.
pub record IsTakenSoFar (files : List PlainFile) (taken : List PlainStatement)
    (file : NewFile) : Type 0 where
  pub own : PlainFile
  pub handed : slice_get files file.number ≡ Some own
  pub source : file.source.now ≡ own.bytes
  pub limit : IsMostFor files file.number file.most
  pub within : file.taken ≤ length file.source.now
  pub last : IsLastEnd file.number taken file.taken

-- in the new file stand the bytes of the old one up to the last span, with the proofs of the
-- theorems so far replaced as they may be
pub record AreReplacedSoFar (May : PlainStatement → Replacement → Type 0)
    (taken : List PlainStatement) (file : NewFile) : Type 0 where
  pub replaced : List Replacement
  pub each : AllZip May (theorems_of file.number taken) replaced
  pub bytes : List ℕ
  pub up_to : AreReplacedUpTo file.taken file.source.now replaced bytes
  pub put : IsUpTo file.most bytes file.bytes.items

-- what is known of the new file after these statements: where a label is kept, it is that of the
-- first theorem whose normal proof is too long
abbrev pub IsSoFar : List PlainStatement → NewFile → Option (List ℕ) → Type 0
IsSoFar taken file None =
    AreReplacedSoFar (IsReplacement file.form file.source.now taken) taken file
IsSoFar taken file (Some label) = (file.form ≡ Normal) × IsFirstTooLong taken file.number label

-- the new file is written so far, after these statements of the files
pub record IsWrittenSoFar (files : List PlainFile) (taken : List PlainStatement)
    (file : NewFile) : Type 0 where
  pub way : IsTakenSoFar files taken file
  pub so_far : IsSoFar taken file (option_map (λ l. l.now) file.too_long)

-- the same, with what it was at first; no proof is at fault
pub record HasWritten (profile : Profile) (files : List PlainFile) (first now : NewFile)
    (taken : List PlainStatement) (listed : List PlainRefusal) : Type 0 where
  pub lenient : profile ≡ Lenient
  pub none : listed ≡ []
  pub so_far : IsWrittenSoFar files taken now
  pub number : now.number ≡ first.number
  pub form : now.form ≡ first.form

-- the new file, after all statements of the files, which are accepted
abbrev pub IsAllWritten : List PlainFile → (first now : NewFile) → Type 0
IsAllWritten files first now =
    (statements : List PlainStatement) × AreAccepted Lenient files statements
    × HasWritten Lenient files first now statements []
