-- Laws of saving: what it changes, and that it changes nothing else.
use Rattle.std.specs.Prelude.{◌≡◌, ℕ, ◌≤◌, List, take, length, slice_get, None, Some, ◌↔◌}
use Rattle.std.specs.Prelude.{◌⊎◌}
use Rattle.mm_base.specs.Statement.{PlainStatement}
use Rattle.mm_text.specs.Files.{PlainFile}
use Rattle.mm_text.specs.Replaced.{with_bytes}
use Rattle.mm_text.specs.Reading.{Reads}
use Rattle.mm_frame.specs.Sentence.{sentence_of}
use Rattle.mm_step.specs.declared.profile.Profile.{Profile}
use Rattle.mm_step.specs.declared.profile.Profile.TheVariants.{Strict}
use Rattle.mm_proof.specs.Strict.{HasFormOf}
use Rattle.mm_step.specs.Tree.{Trees}
use Rattle.mm_verdict.specs.declared.form.Form.{Form}
use Rattle.mm_verdict.specs.declared.form.Form.TheVariants.{Small}
use Rattle.mm_rules.specs.Verdict.{Verdict, HasVerdict, AreAccepted, sentences, proof_of}
use Rattle.mm_rules.specs.Compared.{IsTheorem}
use Rattle.mm_rules.specs.Rests.{HasTree, IsReport}
use Rattle.mm_render.specs.Saved.{IsSaved, FitsSaved}

-- The others say the same: their statements say what those of the files say; they have the verdicts
-- of the files; each complete proof has the same tree; and each theorem rests on the same.
pub record SayTheSame (profile : Profile) (files others : List PlainFile)
    (statements same : List PlainStatement) : Type 0 where
  pub accepted : AreAccepted profile others same
  pub told : sentences statements ≡ sentences same
  pub verdict : (v : Verdict) → HasVerdict profile files v ↔ HasVerdict profile others v
  pub trees : (id index : ℕ) (t : Trees) → HasTree statements id index t ↔ HasTree same id index t
  pub rests : (label : List ℕ) (axioms unproved : List ℕ)
      → IsReport statements label axioms unproved ↔ IsReport same label axioms unproved

-- With the new bytes in place of the old, the verdict, each tree and each report are as they were.
abbrev pub SavingChangesNoAnswer : Type 0
SavingChangesNoAnswer =
    (profile : Profile) (form : Form) (files : List PlainFile) (statements : List PlainStatement)
    (label : List ℕ) (number : ℕ) (bytes : List ℕ) → AreAccepted profile files statements
    → IsSaved form files statements label number bytes → FitsSaved files number bytes
    → (same : List PlainStatement)
    × SayTheSame profile files (with_bytes files number bytes) statements same

-- the statement at the index had this proof, and the form is the small one, in which a proof is
-- kept that is short already
abbrev pub IsKeptProof : Form → List PlainStatement → (index : ℕ) → (proof : List (List ℕ)) → Type 0
IsKeptProof form statements index proof =
    (form ≡ Small) × (s : PlainStatement) × (slice_get statements index ≡ Some s)
    × (proof ≡ proof_of s)

-- The proof that stands there then has the strict form, whatever the profile is in which the files
-- are accepted; or it is the one that stood there, which small form keeps.
abbrev pub SavedProofIsStrict : Type 0
SavedProofIsStrict =
    (profile : Profile) (form : Form) (files : List PlainFile)
    (statements same : List PlainStatement) (label : List ℕ) (number : ℕ) (bytes : List ℕ)
    → AreAccepted profile files statements
    → IsSaved form files statements label number bytes → FitsSaved files number bytes
    → Reads (with_bytes files number bytes) same None
    → (index : ℕ) × (s : PlainStatement) × IsTheorem same label index s
    × (HasFormOf Strict (sentences (take index same)) (sentence_of s) (proof_of s)
    ⊎ IsKeptProof form statements index (proof_of s))

-- what is saved is one
abbrev pub OneSaved : Type 0
OneSaved =
    (profile : Profile) (form : Form) (files : List PlainFile) (statements : List PlainStatement)
    (label : List ℕ) (number other : ℕ) (bytes others : List ℕ)
    → AreAccepted profile files statements
    → IsSaved form files statements label number bytes
    → IsSaved form files statements label other others
    → (number ≡ other) × (bytes ≡ others)

-- Saved again, the file is as it is: its bytes are what is saved of it, and nothing else is.
abbrev pub SavingAgainChangesNothing : Type 0
SavingAgainChangesNothing =
    (profile : Profile) (form : Form) (files : List PlainFile)
    (statements same : List PlainStatement) (label : List ℕ) (number : ℕ) (bytes : List ℕ)
    → AreAccepted profile files statements
    → IsSaved form files statements label number bytes → FitsSaved files number bytes
    → Reads (with_bytes files number bytes) same None
    → IsSaved form (with_bytes files number bytes) same label number bytes
    × ((again : ℕ) (others : List ℕ)
    → IsSaved form (with_bytes files number bytes) same label again others
    → (again ≡ number) × (others ≡ bytes))

-- in small form, no file has more bytes than before
abbrev pub SmallFilesDoNotGrow : Type 0
SmallFilesDoNotGrow =
    (profile : Profile) (files : List PlainFile) (statements : List PlainStatement)
    (label : List ℕ) (number : ℕ) (bytes : List ℕ) → AreAccepted profile files statements
    → IsSaved Small files statements label number bytes
    → (file : PlainFile) × (slice_get files number ≡ Some file) × (length bytes ≤ length file.bytes)
