-- What the code knows of the changes of a file: where they stand, and what the texts that are put
-- in hold. This file mirrors the code.
use Rattle.std.specs.Prelude.{◌≡◌, ◌≢◌, ℕ, ◌≤◌, List, [], ◌∷◌, ◌++◌, map, length, Contains, None}
use Rattle.std.specs.Prelude.{true}
use Rattle.std.specs.List.{flat_map, AllByRecursion, AllZip}
use Rattle.mm_base.specs.Statement.{PlainStatement, plain_statement}
use Rattle.mm_text.specs.Files.{PlainFile}
use Rattle.mm_text.specs.Reading.{Reads}
use Rattle.mm_text.specs.Remaining.{Remaining}
use Rattle.mm_render.specs.Shorter.{IsMarkedWith, proof_mark}
use Rattle.mm_rules.specs.Verdict.{is_proof}
use Rattle.mm_save.specs.AllSaved.{Replacement, theorems_of}
use Rattle.mm_save.specs.Mirror.AllSaving.{AreReplacedUpTo}
use Rattle.mm_with_lemmas.specs.WithLemmas.{AreApart, AreEdited, Edit, IsOtherProof, alone}
use Rattle.mm_with_lemmas.specs.declared.change.Change.{Change}
use Rattle.mm_with_lemmas.specs.declared.change.Change.TheVariants.{Proof, Lemmas}
use Rattle.mm_with_lemmas.specs.declared.lone.Put.{Put}

-- ---- the places

-- a span and what stands in its place
abbrev pub place_of : Change → Replacement
place_of (Proof span text) = record { span = span; text = text.now }
place_of (Lemmas at text) = record { span = (at, at); text = text.now }

abbrev pub places_of : List Change → List Replacement
places_of changes = map place_of changes

-- the bytes are those of the source up to a position with these changes, and then the rest
pub record IsEditedUpTo (source : List ℕ) (done : List Change) (taken : ℕ)
    (bytes rest : List ℕ) : Type 0 where
  pub within : taken ≤ length source
  pub apart : AreApart taken (places_of done)
  pub before : List ℕ
  pub up_to : AreReplacedUpTo taken source (places_of done) before
  pub whole : bytes ≡ before ++ rest

-- ---- proofs

-- the change, where it replaces a proof
abbrev pub proof_in : Change → List Change
proof_in (Proof span text) = Proof span text ∷ []
proof_in (Lemmas at text) = []

-- of all of them those that do, in their order
abbrev pub proofs_in : List Change → List Change
proofs_in changes = flat_map proof_in changes

-- the statement is a theorem of the file with the number, its proof stands in the span, it isn't
-- marked, and the text is another proof
pub record IsTheoremAt (files : List PlainFile) (number : ℕ) (place : Replacement)
    (s : PlainStatement) : Type 0 where
  pub home : s.first.file ≡ number
  pub span : s.span ≡ place.span
  pub complete : is_proof s ≡ true
  pub unmarked : ¬ (IsMarkedWith proof_mark files s)
  pub other : IsOtherProof place.text s

-- the span is that of the proof of a theorem of the file with the number that isn't marked, and the
-- text is another one
abbrev pub IsReplaceable : List PlainFile → List PlainStatement → (number : ℕ) → Replacement
    → Type 0
IsReplaceable files statements number place =
    (s : PlainStatement) × Contains (theorems_of number statements) s
    × ¬ (IsMarkedWith proof_mark files s) × (place.span ≡ s.span) × IsOtherProof place.text s

-- each of them is
abbrev pub AreReplaceable : List PlainFile → List PlainStatement → (number : ℕ) → List Change
    → Type 0
AreReplaceable files statements number proofs =
    AllByRecursion (λ proof. IsReplaceable files statements number (place_of proof)) proofs

-- a change that replaces a proof does so
abbrev pub IsPlaced : List PlainFile → List PlainStatement → (number : ℕ) → Change → Type 0
IsPlaced files statements number (Proof span text) =
    IsReplaceable files statements number (place_of (Proof span text))
IsPlaced files statements number (Lemmas at text) = Unit {0}

abbrev pub ArePlaced : List PlainFile → List PlainStatement → (number : ℕ) → List Change → Type 0
ArePlaced files statements number changes =
    AllByRecursion (IsPlaced files statements number) changes

-- ---- lemmas

-- a file of the text alone
abbrev pub lone_file : Change → PlainFile
lone_file change = record { name = []; bytes = (place_of change).text }

-- the statements that were put
abbrev pub put_statements : List Put → List PlainStatement
put_statements put = map (λ p. plain_statement p.statement) put

-- of the statements that are left of a text some were appended to those before, and these are left
pub record HasPushed (first left : Remaining) (before put : List PlainStatement) : Type 0 where
  pub pushed : List PlainStatement
  pub whole : first.statements ≡ pushed ++ left.statements
  pub all : put ≡ before ++ pushed
  pub ending : left.ending ≡ first.ending

-- the file reads as some statements, which were put behind those before
abbrev pub PutsLone : PlainFile → (before put : List PlainStatement) → Type 0
PutsLone file before put =
    (lemmas : List PlainStatement) × Reads (file ∷ []) lemmas None × (lemmas ≢ [])
    × (put ≡ before ++ lemmas)

-- lemmas are put in
abbrev pub PutsIn : Change → Type 0
PutsIn (Proof span text) = ⊥
PutsIn (Lemmas at text) = Unit {0}

-- what the change is: a proof, or a text that reads by itself as these statements, one at least
abbrev pub IsEditOf : Change → Edit → Type 0
IsEditOf (Proof span text) edit =
    (edit.place ≡ place_of (Proof span text)) × (edit.lemmas ≡ [])
IsEditOf (Lemmas at text) edit =
    (edit.place ≡ place_of (Lemmas at text)) × Reads (alone edit.place.text) edit.lemmas None
    × (edit.lemmas ≢ [])

-- the change puts these statements in behind those before
abbrev pub PutsMore : Change → (before put : List PlainStatement) → Type 0
PutsMore change before put =
    (edit : Edit) × IsEditOf change edit × (put ≡ before ++ edit.lemmas)

-- the changes put these statements in, in their order
abbrev pub ArePut : List Change → List PlainStatement → Type 0
ArePut changes put =
    (edits : List Edit) × AllZip IsEditOf changes edits
    × (put ≡ flat_map (λ e. e.lemmas) edits)

-- ---- the whole

-- the bytes are those of the file with changes that put these statements in, and no more than it
-- had
abbrev pub IsEdited : List PlainFile → List PlainStatement → (number : ℕ) → (old bytes : List ℕ)
    → (put : List PlainStatement) → Type 0
IsEdited files statements number old bytes put =
    AreEdited files statements number old bytes put × (length bytes ≤ length old)
