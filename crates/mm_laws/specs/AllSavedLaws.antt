-- Laws of a file in which each complete proof is written anew: it changes nothing that is answered.
use Rattle.std.specs.Prelude.{◌≡◌, ℕ, ◌≤◌, List, take, length, slice_get}
use Rattle.std.specs.Prelude.{Some, None, ◌⊎◌}
use Rattle.mm_base.specs.Statement.{PlainStatement}
use Rattle.mm_text.specs.Files.{PlainFile}
use Rattle.mm_text.specs.Replaced.{with_bytes}
use Rattle.mm_text.specs.Reading.{Reads}
use Rattle.mm_frame.specs.Sentence.{sentence_of}
use Rattle.mm_step.specs.declared.profile.Profile.{Profile}
use Rattle.mm_step.specs.declared.profile.Profile.TheVariants.{Strict}
use Rattle.mm_proof.specs.Strict.{HasFormOf}
use Rattle.mm_verdict.specs.declared.form.Form.{Form}
use Rattle.mm_verdict.specs.declared.form.Form.TheVariants.{Small}
use Rattle.mm_rules.specs.Verdict.{AreAccepted, sentences, proof_of}
use Rattle.mm_rules.specs.Compared.{IsTheorem}
use Rattle.mm_render.specs.Saved.{FitsSaved}
use Rattle.mm_laws.specs.SavedLaws.{SayTheSame, IsKeptProof}
use Rattle.mm_save.specs.AllSaved.{IsAllSaved}

-- With the new bytes in place of the old, the verdict, each tree and each report are as they were.
abbrev pub SavingAllChangesNoAnswer : Type 0
SavingAllChangesNoAnswer =
    (profile : Profile) (form : Form) (files : List PlainFile) (statements : List PlainStatement)
    (number : ℕ) (bytes : List ℕ) → AreAccepted profile files statements
    → IsAllSaved form files statements number bytes → FitsSaved files number bytes
    → (same : List PlainStatement)
    × SayTheSame profile files (with_bytes files number bytes) statements same

-- Each complete proof that stands in the file then has the strict form, whatever the profile is in
-- which the files are accepted; or it is the one that stood there, which small form keeps.
abbrev pub AllSavedProofsAreStrict : Type 0
AllSavedProofsAreStrict =
    (profile : Profile) (form : Form) (files : List PlainFile)
    (statements same : List PlainStatement) (number : ℕ) (bytes : List ℕ)
    → AreAccepted profile files statements
    → IsAllSaved form files statements number bytes → FitsSaved files number bytes
    → Reads (with_bytes files number bytes) same None
    → (label : List ℕ) (index : ℕ) (s : PlainStatement) → IsTheorem same label index s
    → s.first.file ≡ number
    → HasFormOf Strict (sentences (take index same)) (sentence_of s) (proof_of s)
    ⊎ IsKeptProof form statements index (proof_of s)

-- what is saved is one
abbrev pub OneAllSaved : Type 0
OneAllSaved =
    (profile : Profile) (form : Form) (files : List PlainFile) (statements : List PlainStatement)
    (number : ℕ) (bytes others : List ℕ) → AreAccepted profile files statements
    → IsAllSaved form files statements number bytes
    → IsAllSaved form files statements number others → bytes ≡ others

-- Saved again, the file is as it is: its bytes are what is saved of it, and nothing else is.
abbrev pub SavingAllAgainChangesNothing : Type 0
SavingAllAgainChangesNothing =
    (profile : Profile) (form : Form) (files : List PlainFile)
    (statements same : List PlainStatement) (number : ℕ) (bytes : List ℕ)
    → AreAccepted profile files statements
    → IsAllSaved form files statements number bytes → FitsSaved files number bytes
    → Reads (with_bytes files number bytes) same None
    → IsAllSaved form (with_bytes files number bytes) same number bytes
    × ((others : List ℕ)
    → IsAllSaved form (with_bytes files number bytes) same number others → others ≡ bytes)

-- in small form, the file has no more bytes than before
abbrev pub AllSmallFilesDoNotGrow : Type 0
AllSmallFilesDoNotGrow =
    (profile : Profile) (files : List PlainFile) (statements : List PlainStatement) (number : ℕ)
    (bytes : List ℕ) → AreAccepted profile files statements
    → IsAllSaved Small files statements number bytes
    → (file : PlainFile) × (slice_get files number ≡ Some file) × (length bytes ≤ length file.bytes)
