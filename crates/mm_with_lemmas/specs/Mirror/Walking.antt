-- What the code knows on its way through two readings side by side: the old statements, and those
-- of the files with lemmas. This file mirrors the code.
use Rattle.std.specs.Prelude.{◌≡◌, ℕ, ◌+◌, ◌≤◌, ◌<◌, List, [], ◌∷◌, ◌++◌, map, take, length}
use Rattle.std.specs.Prelude.{slice_get, Option, Some, true, ◌⊎◌, All, sum_by, is_some}
use Rattle.std.specs.Prelude.{if◌then◌else◌}
use Rattle.std.specs.List.{flat_map}
use Rattle.mm_base.specs.declared.statement.Kind.{Kind}
use Rattle.mm_base.specs.declared.statement.Kind.TheVariants.{Opening, Closing}
use Rattle.mm_base.specs.MostBytes.{most_bytes}
use Rattle.mm_base.specs.Statement.{PlainStatement, HasForm}
use Rattle.mm_text.specs.Files.{PlainFile}
use Rattle.mm_text.specs.Reading.{PlainFault, Reads}
use Rattle.mm_text.specs.Remaining.{Remaining}
use Rattle.mm_frame.specs.Active.{open_marks, close_marks}
use Rattle.mm_frame.specs.Sentence.{Sentence}
use Rattle.mm_rules.specs.Verdict.{CanBeRead, is_proof, proof_of, sentences}
use Rattle.mm_verdict.specs.Mirror.Rereading.{label_count}
use Rattle.mm_with_lemmas.specs.WithLemmas.{AreEdited, IsBlockOf, IsCondition, IsStrictAfter}
use Rattle.mm_with_lemmas.specs.WithLemmas.{MayStand, Part, new_of, old_of, put_of, said}
use Rattle.mm_with_lemmas.specs.declared.lemma.Stage.{Stage}
use Rattle.mm_with_lemmas.specs.declared.lemma.Stage.TheVariants.{Outside, Conditions, Proved}
use Rattle.mm_with_lemmas.specs.declared.lemma.Place.{Place}
use Rattle.mm_with_lemmas.specs.declared.walk.Walk.{Walk}

-- ---- the parts of two readings

-- The old statements, and those of the files with lemmas, part by part: each may stand where it
-- does, and the lemmas say what was put.
pub record AreParts (files anew : List PlainFile)
    (statements others put : List PlainStatement) : Type 0 where
  pub parts : List Part
  pub old : statements ≡ flat_map old_of parts
  pub new : others ≡ flat_map new_of parts
  pub each : (before after : List Part) (part : Part) → parts ≡ before ++ part ∷ after
      → MayStand files anew (flat_map new_of before) part
  pub lemmas : map said put ≡ map said (flat_map put_of parts)

-- The statements are those of the files, the others those of the files with these bytes in place
-- of those that the file with the number had: the file has lemmas and new proofs that may stand
-- there.
pub record HoldsLemmas (files anew : List PlainFile) (statements others : List PlainStatement)
    (number : ℕ) (old_bytes bytes : List ℕ) : Type 0 where
  pub parts : List Part
  pub old : statements ≡ flat_map old_of parts
  pub new : others ≡ flat_map new_of parts
  pub each : (before after : List Part) (part : Part) → parts ≡ before ++ part ∷ after
      → MayStand files anew (flat_map new_of before) part
  pub edited : AreEdited files statements number old_bytes bytes (flat_map put_of parts)
  pub no_longer : length bytes ≤ length old_bytes

-- ---- blocks

-- so many blocks are open after these statements
abbrev pub IsDepth : List PlainStatement → ℕ → Type 0
IsDepth taken depth = open_marks (sentences taken) ≡ close_marks (sentences taken) + depth

-- so many after one more, of this kind
abbrev pub IsDepthAfter : (depth : ℕ) → Kind → (after : ℕ) → Type 0
IsDepthAfter depth Opening after = after ≡ depth + 1
IsDepthAfter depth Closing after = depth ≡ after + 1
IsDepthAfter depth kind after = after ≡ depth

-- ---- a lemma on its way

-- the beginning of its block, with conditions
pub record IsBlockBegun (partial : List PlainStatement) : Type 0 where
  pub opening : PlainStatement
  pub conditions : List PlainStatement
  pub whole : partial ≡ opening ∷ conditions
  pub opens : opening.kind ≡ Opening
  pub each : All IsCondition conditions

-- its block but for the end, after these statements
pub record IsBlockProved (before partial : List PlainStatement) : Type 0 where
  pub theorem : PlainStatement
  pub complete : is_proof theorem ≡ true
  pub opening : PlainStatement
  pub conditions : List PlainStatement
  pub whole : partial ≡ opening ∷ conditions ++ theorem ∷ []
  pub opens : opening.kind ≡ Opening
  pub each : All IsCondition conditions
  pub strict : IsStrictAfter (before ++ opening ∷ conditions) theorem

-- all of it, after these statements
pub record IsWholeLemma (before lemma : List PlainStatement) : Type 0 where
  pub theorem : PlainStatement
  pub complete : is_proof theorem ≡ true
  pub alone : ((lemma ≡ theorem ∷ []) × IsStrictAfter before theorem)
      ⊎ IsBlockOf before theorem lemma

-- so much of it was met, after these statements
abbrev pub IsBegun : Stage → (before partial : List PlainStatement) → Type 0
IsBegun Outside before partial = partial ≡ []
IsBegun Conditions before partial = IsBlockBegun partial
IsBegun Proved before partial = IsBlockProved before partial

-- so much of it was met, its last statement among it
abbrev pub IsGrown : Stage → (before partial : List PlainStatement) → Type 0
IsGrown Outside before partial = IsWholeLemma before partial
IsGrown Conditions before partial = IsBlockBegun partial
IsGrown Proved before partial = IsBlockProved before partial

-- the proof of a statement, after these, is strict if it is a complete one
abbrev pub IsStrictIfProved : (before : List PlainStatement) → PlainStatement → Type 0
IsStrictIfProved before s = is_proof s ≡ true → IsStrictAfter before s

-- ---- one statement more

-- the statement is the next one that was put, and goes on with a lemma
pub record MeetsPut (put : List PlainStatement) (old : Place) (s : PlainStatement)
    (new : Place) : Type 0 where
  pub next : PlainStatement
  pub there : slice_get put old.put ≡ Some next
  pub same : said s ≡ said next
  pub count : new.put ≡ old.put + 1
  pub depth : IsDepthAfter old.depth s.kind new.depth
  pub outside : old.stage ≡ Outside → old.depth ≡ 0
  pub grown : (before partial : List PlainStatement) → IsStrictIfProved (before ++ partial) s
      → IsBegun old.stage before partial → IsGrown new.stage before (partial ++ s ∷ [])

-- the statement was there, outside of all lemmas
pub record MeetsKept (old : Place) (kind : Kind) (new : Place) : Type 0 where
  pub before : old.stage ≡ Outside
  pub after : new.stage ≡ Outside
  pub count : new.put ≡ old.put
  pub depth : IsDepthAfter old.depth kind new.depth

-- the statement comes after these among those that the sentences say; it has this number, if it
-- has a label, and the tokens of its proof have room
pub record IsNext (told : List Sentence) (id : ℕ) (before : List PlainStatement)
    (s : PlainStatement) : Type 0 where
  pub after : List PlainStatement
  pub same : told ≡ sentences (before ++ s ∷ after)
  pub number : id ≡ label_count before
  pub formed : HasForm s
  pub room : sum_by length (proof_of s) ≤ most_bytes

-- so many labelled statements with one more statement
abbrev pub count_with : (labelled : ℕ) → PlainStatement → ℕ
count_with labelled s = labelled + (if is_some s.label then 1 else 0)

-- ---- the walk

-- These statements of the files with lemmas were met, and the old ones but for those that are
-- left: part by part, and perhaps the beginning of a lemma.
pub record IsWalked (files anew : List PlainFile) (statements put taken left : List PlainStatement)
    (at : Place) : Type 0 where
  pub parts : List Part
  pub partial : List PlainStatement
  pub old : statements ≡ flat_map old_of parts ++ left
  pub new : taken ≡ flat_map new_of parts ++ partial
  pub each : (before after : List Part) (part : Part) → parts ≡ before ++ part ∷ after
      → MayStand files anew (flat_map new_of before) part
  pub lemmas : map said (flat_map put_of parts ++ partial) ≡ map said (take at.put put)
  pub begun : IsBegun at.stage (flat_map new_of parts) partial
  pub outside : (at.stage ≡ Outside) ⊎ IsDepth (flat_map new_of parts) 0
  pub depth : IsDepth taken at.depth

-- a walk goes on over one more statement of the files with lemmas
abbrev pub GoesOver : (files anew : List PlainFile) → (told : List Sentence)
    → (put : List PlainStatement) → (id : ℕ) → (left : List PlainStatement) → Place → PlainStatement
    → (left_after : List PlainStatement) → Place → Type 0
GoesOver files anew told put id left at s left_after after =
    (statements taken : List PlainStatement) → IsNext told id taken s
    → IsWalked files anew statements put taken left at
    → IsWalked files anew statements put (taken ++ s ∷ []) left_after after

-- nothing was met yet, and these statements are left
pub record IsBegunWalk (all : Remaining) (walk : Walk) : Type 0 where
  pub left : walk.left ≡ all
  pub labelled : walk.labelled ≡ 0
  pub place : walk.place ≡ record { put = 0; depth = 0; stage = Outside }

-- files without a fault as a whole hold these statements, few of which have labels, and the
-- sentences are theirs
pub record IsToldReading (told : List Sentence) (statements : List PlainStatement) : Type 0 where
  pub files : List PlainFile
  pub ending : Option PlainFault
  pub readable : CanBeRead files
  pub reads : Reads files statements ending
  pub same : told ≡ sentences statements
  pub few : label_count statements < 4294967295

-- no old statement is left, and none that was put
pub record IsWalkedAll (put left : List PlainStatement) (at : Place) : Type 0 where
  pub none : left ≡ []
  pub outside : at.stage ≡ Outside
  pub all : at.put ≡ length put

-- these of all statements are left, and over the others the walk has gone
pub record IsOnWalk (files anew : List PlainFile) (statements put all rest : List PlainStatement)
    (walk : Walk) : Type 0 where
  pub taken : List PlainStatement
  pub whole : all ≡ taken ++ rest
  pub count : walk.labelled ≡ label_count taken
  pub walked : IsWalked files anew statements put taken walk.left.statements walk.place
