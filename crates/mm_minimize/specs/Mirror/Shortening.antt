-- What the code of `minimize` knows on its way. This file mirrors the code, and is cited by private
-- contracts alone.
use Rattle.std.specs.Prelude.{◌≡◌, ℕ, List, Contains, true, slice_get, length, take}
use Rattle.std.specs.Prelude.{◌↔◌, ◌≤◌, Option, None, Some}
use Rattle.mm_base.specs.Statement.{PlainStatement}
use Rattle.mm_text.specs.Files.{PlainFile}
use Rattle.mm_text.specs.Reading.{Reads}
use Rattle.mm_text.specs.Remarks.{mathbox_at}
use Rattle.mm_frame.specs.Numbers.{labelled_sentences}
use Rattle.mm_frame.specs.Sentence.{Sentence, sentence_of}
use Rattle.mm_step.specs.declared.profile.Profile.{Profile}
use Rattle.mm_step.specs.Moves.{Move}
use Rattle.mm_forms.specs.OneTree.{MakeTree}
use Rattle.mm_step.specs.Steps.{AreNumberedMoves, IsProofNumber}
use Rattle.mm_step.specs.Tree.{Trees, none, tree}
use Rattle.mm_proof.specs.Used.{AreUsed}
use Rattle.mm_render.specs.declared.forms.OwnProof.{OwnProof}
use Rattle.mm_minimize.specs.declared.remarks.Passed.{Passed}
use Rattle.mm_minimize.specs.declared.search_watch.Searched.{Searched}
use Rattle.mm_minimize.specs.declared.search_watch.Searched.TheVariants.{NoneShorter}
use Rattle.mm_minimize.specs.declared.search_watch.Searched.TheVariants as of_search
use Rattle.mm_minimize.specs.declared.sizes.Sizes.{Sizes}
use Rattle.mm_minimize.specs.declared.shortening.Shorter.{Shorter}
use Rattle.mm_minimize.specs.declared.shortening.Shortening.{Shortening}
use Rattle.mm_render.specs.declared.shorter.Handed.{Handed}
use Rattle.mm_verdict.specs.declared.theorem.Theorem.{Theorem}
use Rattle.mm_minimize.specs.AllShorter.{AreOfOneKind, IsByOneAlone}
use Rattle.mm_minimize.specs.Remarks.{AreRemarks}
use Rattle.mm_rules.specs.Conclusion.{Conclusion}
use Rattle.mm_rules.specs.Rests.{AreInOrder, IsAt, RestsOn, Uses}
use Rattle.mm_render.specs.Shorter.{MayUse, IsUnfounded, RestsThrough, IsShorterTree}
use Rattle.mm_render.specs.Shorter.{IsMarkedWith, proof_mark}
use Rattle.mm_rules.specs.Verdict.{sentences}
use Rattle.mm_axioms.specs.Mirror.Tables.{AreTables}
use Rattle.mm_render.specs.Mirror.Shortening.{AreHanded}

-- ---- what is known of statements

-- the position lies in the mathbox, and in the file
pub record IsPassed (bytes : List ℕ) (p : Passed) : Type 0 where
  pub within : p.at ≤ length bytes
  pub mathbox : p.mathbox ≡ mathbox_at bytes p.at

-- the same, for a position in each of the files
pub record ArePassed (files : List PlainFile) (passed : List Passed) : Type 0 where
  pub count : length passed ≡ length files
  pub each : (n : ℕ) (f : PlainFile) (p : Passed) → slice_get files n ≡ Some f
      → slice_get passed n ≡ Some p → IsPassed f.bytes p

-- its remarks and its tables are those of its database
pub record KnowsDatabase (s : Shortening) : Type 0 where
  pub said : AreRemarks s.checked.now.files s.remarks.items
  pub told : AreTables s.checked.now.sentences s.checked.now.incomplete s.checked.now.uses s.tables

-- the proof of the theorem with this number may use the assertion
pub record IsAllowedUse (files : List PlainFile) (statements : List PlainStatement) (id : ℕ)
    (s : PlainStatement) (used : ℕ) : Type 0 where
  pub allowed : (place : ℕ) (a : PlainStatement) → ¬ (Uses statements id used)
      → IsAt statements used place a → MayUse files s a
  pub founded : (n : ℕ) → IsUnfounded statements n → RestsThrough statements used n
      → RestsOn (Uses statements) id n

-- the same, in any reading of the files
abbrev pub IsAllowedIn : List PlainFile → (id used : ℕ) → Type 0
IsAllowedIn files id used =
    (statements : List PlainStatement) (index : ℕ) (s : PlainStatement)
    → Reads files statements None → IsAt statements id index s
    → IsAllowedUse files statements id s used

-- the theorem with this number isn't marked, in any reading of the files
abbrev pub IsUnmarkedIn : List PlainFile → (id : ℕ) → Type 0
IsUnmarkedIn files id =
    (statements : List PlainStatement) (index : ℕ) (s : PlainStatement)
    → Reads files statements None → IsAt statements id index s
    → ¬ (IsMarkedWith proof_mark files s)

-- these are, in order, those of the numbers that the proof of the theorem doesn't use, in any
-- reading of the files
abbrev pub AreNewlyUsed : List PlainFile → (theorem : ℕ) → (used newly : List ℕ) → Type 0
AreNewlyUsed files theorem used newly =
    (statements : List PlainStatement) → Reads files statements None
    → AreInOrder (λ n. Contains used n × ¬ (Uses statements theorem n)) newly

-- the steps prove the theorem with this number, and it may use what they use
pub record IsAllowedProof (c : Conclusion) (id : ℕ) (handed : Handed) : Type 0 where
  pub proof : AreHanded c.profile c.sentences id handed.steps handed.used
  pub allowed : (n : ℕ) → Contains handed.used n → IsAllowedIn c.files id n

-- the steps of the `$p` with this number make the tree, and nothing beside it
pub record MakeTreeOf (statements : List Sentence) (id index : ℕ) (s : Sentence)
    (steps : List (Move ℕ)) (t : Trees) : Type 0 where
  pub number : IsProofNumber statements id index s
  pub moves : List (Move (List ℕ))
  pub numbered : AreNumberedMoves statements steps moves
  pub label : List ℕ
  pub below : Trees
  pub made : MakeTree (take index statements) moves label below
  pub whole : t ≡ tree label below none

-- the other proof is one of the same theorem, under the profile, and these are the assertions of its
-- tree
pub record IsProvedAnew (profile : Profile) (statements : List Sentence) (old : Theorem)
    (new : Shorter) : Type 0 where
  pub number : new.theorem.id.0 ≡ old.id.0
  pub file : new.theorem.file ≡ old.file
  pub span : new.theorem.span ≡ old.span
  pub handed : AreHanded profile statements old.id.0 new.theorem.steps new.used

-- The steps of the other proof make a tree that is shorter than the theorem's own. Its text, how
-- many steps both have where they are fully shared, and the assertions are as they are told; and so
-- is whether it is by one alone.
pub record IsFound (profile : Profile) (files : List PlainFile) (statements : List PlainStatement)
    (label : List ℕ) (old : Theorem) (own : OwnProof) (new : Shorter) : Type 0 where
  pub t : Trees
  pub shorter : IsShorterTree profile files statements label (length own.text.items) t
      new.proof.text.items
  pub number : shorter.id ≡ old.id.0
  pub made : MakeTreeOf (sentences statements) shorter.id shorter.index (sentence_of shorter.s)
      new.theorem.steps.moves t
  pub own_steps : own.steps ≡ shorter.steps
  pub new_steps : new.proof.steps ≡ shorter.count
  pub used : AreUsed (sentences (take shorter.index statements)) t new.used
  pub alone : (new.is_duplicate ≡ true)
      ↔ IsByOneAlone (sentences (take shorter.index statements)) (sentence_of shorter.s) t

-- the size of a theorem's own proof, or of a shorter one
abbrev pub IsSizeOf : OwnProof → Sizes → Type 0
IsSizeOf proof size = (size.bytes ≡ length proof.text.items) × (size.steps ≡ proof.steps)

-- The search for a shorter proof came to this, where this was found beside the theorem's own one.
abbrev pub IsSearchedFor : (own : OwnProof) → Option Shorter → Searched → Type 0
IsSearchedFor own (Some new) (of_search.Shorter old less) =
    IsSizeOf own old × IsSizeOf new.proof less
IsSearchedFor own (Some new) other = ⊥
IsSearchedFor own None searched = searched ≡ NoneShorter

-- ---- duplicates

-- the statements with these numbers have the same type code
abbrev pub HaveOneCode : List Sentence → (n m : ℕ) → Type 0
HaveOneCode statements n m =
    (s a : Sentence) → slice_get (labelled_sentences statements) n ≡ Some s
    → slice_get (labelled_sentences statements) m ≡ Some a → AreOfOneKind s a

-- just one of the numbers is so
pub record IsJustOne (P : ℕ → Type 0) (numbers : List ℕ) : Type 0 where
  pub number : ℕ
  pub among : Contains numbers number
  pub holds : P number
  pub only : (n : ℕ) → Contains numbers n → P n → n ≡ number
