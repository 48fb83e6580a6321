-- Laws of a file in which proofs were replaced by shorter ones: the verdict under the one profile is
-- as before, what wasn't replaced is as it was, no theorem rests on more, and the file doesn't grow.
use Rattle.std.specs.Prelude.{◌≡◌, ◌≤◌, ◌↔◌, ℕ, List, length, take, slice_get, Contains, Bool, Some}
use Rattle.std.specs.Prelude.{◌⊎◌}
use Rattle.mm_base.specs.Statement.{PlainStatement}
use Rattle.mm_text.specs.Files.{PlainFile}
use Rattle.mm_text.specs.Replaced.{with_bytes}
use Rattle.mm_frame.specs.Sentence.{Sentence, sentence_of, IsLabelled}
use Rattle.mm_step.specs.declared.profile.Profile.{Profile}
use Rattle.mm_step.specs.declared.profile.Profile.TheVariants.{Strict}
use Rattle.mm_proof.specs.Proof.{IsProved}
use Rattle.mm_proof.specs.Strict.{HasFormOf}
use Rattle.mm_step.specs.Tree.{Trees}
use Rattle.mm_minimize.specs.AllShorter.{IsAllShortened}
use Rattle.mm_render.specs.Forms.{IsSmallOf}
use Rattle.mm_rules.specs.Rests.{HasTree, IsReport, tree_of}
use Rattle.mm_render.specs.Shorter.{IsShorterTree}
use Rattle.mm_rules.specs.Verdict.{AreAccepted, HasVerdict, Verdict, proof_of, sentences}

-- the tree is that of a proof of the theorem that is shorter than its own small one
abbrev pub IsShorterTreeOf : Profile → List PlainFile → List PlainStatement → PlainStatement → Trees
    → Type 0
IsShorterTreeOf profile files statements s t =
    (label : List ℕ) × IsLabelled label (sentence_of s)
    × (own : List ℕ) × IsSmallOf statements label own
    × (text : List ℕ) × IsShorterTree profile files statements label (length own) t text

-- The proof of the other, which stands behind these, is that of the statement; or the statement
-- stands in the file with the number, and the proof has the strict form and spells a shorter tree.
abbrev pub HasSameOrShorter : Profile → List PlainFile → List PlainStatement → (number : ℕ)
    → (before : List Sentence) → (s other : PlainStatement) → Type 0
HasSameOrShorter profile files statements number before s other =
    (proof_of other ≡ proof_of s)
    ⊎ ((s.first.file ≡ number) × HasFormOf Strict before (sentence_of other) (proof_of other)
    × (proof : IsProved before (sentence_of other) (proof_of other))
    × IsShorterTreeOf profile files statements s (tree_of proof))

-- The statement at the index has the proof that it had.
abbrev pub KeepsProof : (statements same : List PlainStatement) → (index : ℕ) → Type 0
KeepsProof statements same index =
    (s : PlainStatement) (other : PlainStatement) → slice_get statements index ≡ Some s
    → slice_get same index ≡ Some other → proof_of other ≡ proof_of s

-- The others, in which proofs of the file with the number were replaced, say what the files say:
-- the verdict is the same; each proof is as it was, or one of a shorter tree in that file; each
-- theorem whose proof is as it was has its tree; and what a theorem rests on is among what it
-- rested on.
pub record SayWithLess (profile : Profile) (files others : List PlainFile)
    (statements same : List PlainStatement) (number : ℕ) : Type 0 where
  pub accepted : AreAccepted profile others same
  pub told : sentences statements ≡ sentences same
  pub verdict : (v : Verdict) → HasVerdict profile files v ↔ HasVerdict profile others v
  pub proofs : (index : ℕ) (s other : PlainStatement) → slice_get statements index ≡ Some s
      → slice_get same index ≡ Some other
      → HasSameOrShorter profile files statements number (sentences (take index same)) s other
  pub trees : (id index : ℕ) (t : Trees) → KeepsProof statements same index
      → HasTree statements id index t → HasTree same id index t
  pub rests : (label : List ℕ) (axioms unproved fewer unproved_fewer : List ℕ)
      → IsReport statements label axioms unproved → IsReport same label fewer unproved_fewer
      → ((n : ℕ) → Contains fewer n → Contains axioms n)
      × ((n : ℕ) → Contains unproved_fewer n → Contains unproved n)

-- With the new bytes in place of the old, the files say what they said under the profile by which
-- the shorter proofs were found, and no theorem rests on more.
abbrev pub ShorteningChangesNoVerdict : Type 0
ShorteningChangesNoVerdict =
    (profile : Profile) (duplicates : Bool) (files : List PlainFile)
    (statements : List PlainStatement) (number : ℕ) (bytes : List ℕ)
    → AreAccepted profile files statements
    → IsAllShortened profile duplicates files statements number bytes
    → (same : List PlainStatement)
    × SayWithLess profile files (with_bytes files number bytes) statements same number

-- the file has no more bytes than before
abbrev pub ShortenedFilesDoNotGrow : Type 0
ShortenedFilesDoNotGrow =
    (profile : Profile) (duplicates : Bool) (files : List PlainFile)
    (statements : List PlainStatement) (number : ℕ) (bytes : List ℕ)
    → AreAccepted profile files statements
    → IsAllShortened profile duplicates files statements number bytes
    → (file : PlainFile) × (slice_get files number ≡ Some file) × (length bytes ≤ length file.bytes)
