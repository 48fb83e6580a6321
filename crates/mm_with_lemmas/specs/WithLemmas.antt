-- A file into which lemmas are put, beside the file as it was: what may change, and what is kept.
-- Statements, blocks and proofs are those of the Metamath book, sections 4.2 to 4.4; which lemmas
-- may be put in, and what proofs may do with them, is this project's own.
use Rattle.std.specs.Prelude.{◌≡◌, ◌≢◌, ◌⊎◌, ◌↔◌, ℕ, ◌+◌, ◌<◌, ◌≤◌, List, [], ◌∷◌, ◌++◌, map}
use Rattle.std.specs.Prelude.{length, All, Contains, Some, None, slice_get, slice_range, is_some}
use Rattle.std.specs.Prelude.{true, codes}
use Rattle.std.specs.List.{flat_map}
use Rattle.mm_base.specs.declared.statement.Kind.TheVariants.{Distinct, Essential}
use Rattle.mm_base.specs.declared.statement.Kind.TheVariants.{Opening, Closing}
use Rattle.mm_base.specs.Statement.{PlainStatement}
use Rattle.mm_text.specs.Files.{PlainFile}
use Rattle.mm_text.specs.Reading.{Reads}
use Rattle.mm_text.specs.Remarks.{IsCommentBefore, IsSaidBefore}
use Rattle.mm_text.specs.Replaced.{IsProofText, with_bytes}
use Rattle.mm_code.specs.Words.{tokens_in}
use Rattle.mm_frame.specs.Active.{open_marks, close_marks}
use Rattle.mm_frame.specs.Sentence.{Sentence, sentence_of}
use Rattle.mm_step.specs.declared.profile.Profile.{Profile}
use Rattle.mm_proof.specs.Strict.{IsStrict}
use Rattle.mm_rules.specs.Rests.{IsNamed, RestsOn, Uses}
use Rattle.mm_rules.specs.Verdict.{AreAccepted, is_proof, proof_of, sentences}
use Rattle.mm_render.specs.Shorter.{IsMarkedWith, IsUnfounded, MayUse, home_bytes, mathbox_of}
use Rattle.mm_render.specs.Shorter.{proof_mark, usage_mark}
use Rattle.mm_save.specs.AllSaved.{Replacement, theorems_of, with_replaced}

-- ---- what is read

-- the parts of the new reading, in order: a statement that was there, as it was and as it is read
-- now, or the statements of a lemma
pub data Part : Type 0 where
  Kept : (old new : PlainStatement) → Part
  Put : (lemma : List PlainStatement) → Part

-- what is read of a part in the file as it was
abbrev pub old_of : Part → List PlainStatement
old_of (Kept old new) = old ∷ []
old_of (Put lemma) = []

-- what is read of it now
abbrev pub new_of : Part → List PlainStatement
new_of (Kept old new) = new ∷ []
new_of (Put lemma) = lemma

-- what is read of it that wasn't there
abbrev pub put_of : Part → List PlainStatement
put_of (Kept old new) = []
put_of (Put lemma) = lemma

-- what a statement says, with its proof, wherever it stands
abbrev pub said : PlainStatement → Sentence × List (List ℕ)
said s = (sentence_of s, proof_of s)

-- a theorem has another proof, after these statements: its own is complete and isn't marked to stay
-- as it is, and the new one is complete and strict
pub record IsProvedAnew (files : List PlainFile) (before : List PlainStatement)
    (old new : PlainStatement) : Type 0 where
  pub proved : is_proof old ≡ true
  pub unmarked : ¬ (IsMarkedWith proof_mark files old)
  pub complete : is_proof new ≡ true
  pub strict : IsStrict (sentences before) (sentence_of new) (proof_of new)

-- a statement for hypotheses of a lemma: a `$d` or a `$e`
abbrev pub IsCondition : PlainStatement → Type 0
IsCondition s = (s.kind ≡ Distinct) ⊎ (s.kind ≡ Essential)

-- the proof of the theorem is strict, after these statements
abbrev pub IsStrictAfter : (before : List PlainStatement) → (theorem : PlainStatement) → Type 0
IsStrictAfter before theorem =
    IsStrict (sentences before) (sentence_of theorem) (proof_of theorem)

-- the theorem stands in a block after these statements, with such ones before it and nothing behind
-- it, and its proof is strict
pub record IsBlockOf (before : List PlainStatement) (theorem : PlainStatement)
    (block : List PlainStatement) : Type 0 where
  pub opening : PlainStatement
  pub conditions : List PlainStatement
  pub closing : PlainStatement
  pub whole : block ≡ opening ∷ conditions ++ theorem ∷ closing ∷ []
  pub opens : opening.kind ≡ Opening
  pub each : All IsCondition conditions
  pub closes : closing.kind ≡ Closing
  pub strict : IsStrictAfter (before ++ opening ∷ conditions) theorem

-- a lemma, after these statements: a theorem with a complete and strict proof, alone or in a block
-- of its own, outside of all other blocks
pub record IsLemma (before lemma : List PlainStatement) : Type 0 where
  pub outside : open_marks (sentences before) ≡ close_marks (sentences before)
  pub theorem : PlainStatement
  pub complete : is_proof theorem ≡ true
  pub alone : ((lemma ≡ theorem ∷ []) × IsStrictAfter before theorem)
      ⊎ IsBlockOf before theorem lemma

-- a statement of these files may read so now, after these: as it did, but perhaps for its proof
abbrev pub MayRead : List PlainFile → (before : List PlainStatement) → (old new : PlainStatement)
    → Type 0
MayRead files before old new =
    (sentence_of old ≡ sentence_of new) × (old.first.file ≡ new.first.file)
    × ((proof_of new ≡ proof_of old) ⊎ IsProvedAnew files before old new)

-- the text is the comment right before a position, from its `$(` to its `$)`
abbrev pub IsCommentAt : (bytes : List ℕ) → (at : ℕ) → (text : List ℕ) → Type 0
IsCommentAt bytes at text =
    (start : ℕ) × (stop : ℕ) × IsCommentBefore bytes at start stop
    × (text ≡ slice_range bytes start (stop + 2))

-- the comment right before a position is a heading, by one of the marks that those of parts, of
-- sections and of lesser ones hold
abbrev pub IsHeadedAt : (bytes : List ℕ) → (at : ℕ) → Type 0
IsHeadedAt bytes at =
    IsSaidBefore (codes "####") bytes at
    ⊎ (IsSaidBefore (codes "#*#*") bytes at
    ⊎ (IsSaidBefore (codes "=-=-") bytes at ⊎ IsSaidBefore (codes "-.-.") bytes at))

-- the text is the comment right before a position, which is no heading
abbrev pub IsOwnCommentAt : (bytes : List ℕ) → (at : ℕ) → (text : List ℕ) → Type 0
IsOwnCommentAt bytes at text = IsCommentAt bytes at text × ¬ (IsHeadedAt bytes at)

-- If the statement has a label, the comment right before it, in its file, is the one that was there;
-- or it has none, and had none. Headings don't count.
abbrev pub IsCommentKept : (files anew : List PlainFile) → (old new : PlainStatement) → Type 0
IsCommentKept files anew old new =
    is_some new.label ≡ true → (text : List ℕ)
    → IsOwnCommentAt (home_bytes files old) old.first.at text
    ↔ IsOwnCommentAt (home_bytes anew new) new.first.at text

-- what a part of the new files may be, after these statements: what was there may read so, and has
-- its comment, and what wasn't there is a lemma
abbrev pub MayStand : (files anew : List PlainFile) → (before : List PlainStatement) → Part → Type 0
MayStand files anew before (Kept old new) =
    MayRead files before old new × IsCommentKept files anew old new
MayStand files anew before (Put lemma) = IsLemma before lemma

-- ---- what proofs use

-- the proof of the theorem with the label uses the assertion with the other label
abbrev pub UsesNamed : List PlainStatement → (label used : List ℕ) → Type 0
UsesNamed statements label used =
    (id : ℕ) × (n : ℕ) × IsNamed statements label (λ s. Unit {0}) id
    × IsNamed statements used (λ a. Unit {0}) n × Uses statements id n

-- a statement has the label
abbrev pub IsThere : List PlainStatement → (label : List ℕ) → Type 0
IsThere statements label = (id : ℕ) × IsNamed statements label (λ s. Unit {0}) id

-- a theorem that was there newly uses nothing else that was there
abbrev pub UseLemmasAlone : (statements others : List PlainStatement) → Type 0
UseLemmasAlone statements others =
    (label used : List ℕ) → IsThere statements label → UsesNamed others label used
    → UsesNamed statements label used ⊎ ¬ (IsThere statements used)

-- the theorem with the label rests on the axiom, or the unproved theorem, with the other label
abbrev pub RestsOnNamed : List PlainStatement → (label basis : List ℕ) → Type 0
RestsOnNamed statements label basis =
    (id : ℕ) × (n : ℕ) × IsNamed statements label (λ s. Unit {0}) id
    × IsNamed statements basis (λ a. Unit {0}) n × IsUnfounded statements n
    × RestsOn (Uses statements) id n

-- the theorem with the label may newly use the assertion with the other one, by marks and mathboxes
abbrev pub MayUseNamed : List PlainFile → List PlainStatement → (label used : List ℕ) → Type 0
MayUseNamed files statements label used =
    (id : ℕ) (n : ℕ) (s a : PlainStatement) → IsNamed statements label (λ t. t ≡ s) id
    → IsNamed statements used (λ t. t ≡ a) n → MayUse files s a

-- ---- what is said of statements

-- What is said of a statement where it stands is said of the other one where that stands: the same
-- marks before it, and the same mathbox.
pub record AreSaidAlike (files anew : List PlainFile) (s t : PlainStatement) : Type 0 where
  pub usage : IsMarkedWith usage_mark files s ↔ IsMarkedWith usage_mark anew t
  pub proof : IsMarkedWith proof_mark files s ↔ IsMarkedWith proof_mark anew t
  pub mathbox : mathbox_of files s ≡ mathbox_of anew t

-- the same is said of each labelled statement that was there
abbrev pub AreRemarksKept : (files anew : List PlainFile)
    → (statements others : List PlainStatement) → Type 0
AreRemarksKept files anew statements others =
    (label : List ℕ) (id n : ℕ) (s t : PlainStatement) → IsNamed statements label (λ x. x ≡ s) id
    → IsNamed others label (λ x. x ≡ t) n → AreSaidAlike files anew s t

-- ---- what is written

-- what is written at a place of the file, and the statements that are read of it, where those are
-- lemmas
pub record Edit : Type 0 where
  pub place : Replacement
  pub lemmas : List PlainStatement

-- a file of these bytes alone
abbrev pub alone : List ℕ → List PlainFile
alone bytes = record { name = []; bytes = bytes } ∷ []

-- the text may stand in place of the statement's proof, so that nothing else is read there, and has
-- other tokens
abbrev pub IsOtherProof : (text : List ℕ) → PlainStatement → Type 0
IsOtherProof text s = IsProofText text × (tokens_in text ≢ proof_of s)

-- a proof is replaced by another one, of a theorem of the file with the number that isn't marked
abbrev pub IsProofEdit : List PlainFile → List PlainStatement → (number : ℕ) → Edit → Type 0
IsProofEdit files statements number edit =
    (s : PlainStatement) × Contains (theorems_of number statements) s
    × ¬ (IsMarkedWith proof_mark files s) × (edit.place.span ≡ s.span)
    × IsOtherProof edit.place.text s × (edit.lemmas ≡ [])

-- Lemmas are put in between two bytes: the text is read by itself, with its comments, as they are.
-- It holds one at least, so that no text stands where nothing is read, as inside a comment.
abbrev pub IsLemmaEdit : Edit → Type 0
IsLemmaEdit edit =
    (edit.place.span.0 ≡ edit.place.span.1) × Reads (alone edit.place.text) edit.lemmas None
    × (edit.lemmas ≢ [])

-- each place stands behind those before it, and all in so many bytes
pub record AreApart (count : ℕ) (places : List Replacement) : Type 0 where
  pub behind : (i j : ℕ) (a b : Replacement) → i < j → slice_get places i ≡ Some a
      → slice_get places j ≡ Some b → a.span.1 ≤ b.span.0
  pub within : All (λ a. (a.span.0 ≤ a.span.1) × (a.span.1 ≤ count)) places

-- The bytes are those of the file with these edits, which put in these statements, in their order,
-- and each byte outside of them is kept.
pub record AreEdited (files : List PlainFile) (statements : List PlainStatement) (number : ℕ)
    (old bytes : List ℕ) (put : List PlainStatement) : Type 0 where
  pub edits : List Edit
  pub each : All (λ edit. IsProofEdit files statements number edit ⊎ IsLemmaEdit edit) edits
  pub apart : AreApart (length old) (map (λ edit. edit.place) edits)
  pub lemmas : map said (flat_map (λ edit. edit.lemmas) edits) ≡ map said put
  pub whole : bytes ≡ with_replaced old (map (λ edit. edit.place) edits)

-- ---- the whole

-- The statements are those of the files, and these are bytes of the file with the number into which
-- lemmas are put. With them the files are accepted. All statements are there, in their order, and
-- others are lemmas alone. A theorem that was there newly uses nothing else that was there, and so
-- lemmas alone; and whatever a theorem or a lemma newly uses it may use. A labelled statement that was
-- there has its comment right before it, and what marks and mathboxes said of it they say still. No
-- theorem that was there rests on an axiom, or on an unproved theorem, on which it didn't rest. The
-- file isn't longer.
pub record IsWithLemmas (profile : Profile) (files : List PlainFile)
    (statements : List PlainStatement) (number : ℕ) (bytes : List ℕ) : Type 0 where
  pub file : PlainFile
  pub handed : slice_get files number ≡ Some file
  pub others : List PlainStatement
  pub accepted : AreAccepted profile (with_bytes files number bytes) others
  pub parts : List Part
  pub old : statements ≡ flat_map old_of parts
  pub new : others ≡ flat_map new_of parts
  pub each : (before after : List Part) (part : Part) → parts ≡ before ++ part ∷ after
      → MayStand files (with_bytes files number bytes) (flat_map new_of before) part
  pub by_lemmas : UseLemmasAlone statements others
  pub allowed : (label used : List ℕ) → UsesNamed others label used
      → UsesNamed statements label used
      ⊎ MayUseNamed (with_bytes files number bytes) others label used
  pub remarked : AreRemarksKept files (with_bytes files number bytes) statements others
  pub founded : (label basis : List ℕ) → IsThere statements label
      → RestsOnNamed others label basis → RestsOnNamed statements label basis
  pub edited : AreEdited files statements number file.bytes bytes (flat_map put_of parts)
  pub no_longer : length bytes ≤ length file.bytes
