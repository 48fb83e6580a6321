-- What the code knows of what proofs use in two databases, by labels and by what is kept
-- of these. This file mirrors the code.
use Rattle.std.specs.Prelude.{◌≡◌, ◌<◌, ◌⊎◌, ℕ, List, Contains, None, Some, slice_get}
use Rattle.mm_base.specs.Statement.{PlainStatement}
use Rattle.mm_text.specs.Files.{PlainFile}
use Rattle.mm_text.specs.Reading.{Reads}
use Rattle.mm_frame.specs.Numbers.{IsNumbered}
use Rattle.mm_frame.specs.Sentence.{IsLabelled, Sentence, SomeSentence}
use Rattle.mm_rules.specs.Conclusion.{Conclusion, ProofUses}
use Rattle.mm_rules.specs.Mirror.Marks.{UsedIn}
use Rattle.mm_rules.specs.Rests.{IsAt}
use Rattle.mm_render.specs.Shorter.{MayUse}

-- the number is that of a statement with the label
abbrev pub HasName : List Sentence → (label : List ℕ) → (id : ℕ) → Type 0
HasName sentences label id =
    (index : ℕ) × (s : Sentence) × IsNumbered sentences id index s × IsLabelled label s

-- a statement has the label
abbrev pub IsTold : List Sentence → (label : List ℕ) → Type 0
IsTold sentences label = SomeSentence sentences (IsLabelled label)

-- ---- uses

-- the proof of the theorem with the label uses the assertion with the other label
abbrev pub UsesIn : Conclusion → (label used : List ℕ) → Type 0
UsesIn c label used =
    (id : ℕ) × (n : ℕ) × HasName c.sentences label id × HasName c.sentences used n
    × UsedIn c.uses id n

-- ---- stamps

-- each mark is less than that
abbrev pub AreBelow : (limit : ℕ) → (marks : List ℕ) → Type 0
AreBelow limit marks = (n mark : ℕ) → slice_get marks n ≡ Some mark → mark < limit

-- the numbers with the stamp are among these
abbrev pub AreStamped : (stamp : ℕ) → (marks ids : List ℕ) → Type 0
AreStamped stamp marks ids = (n : ℕ) → slice_get marks n ≡ Some stamp → Contains ids n

-- each mark is as it was, but that of the number, which may have the stamp
abbrev pub IsStampedFrom : (old : List ℕ) → (stamp id : ℕ) → (new : List ℕ) → Type 0
IsStampedFrom old stamp id new =
    (n mark : ℕ) → slice_get new n ≡ Some mark
    → ((n ≡ id) × (stamp ≡ mark)) ⊎ (slice_get old n ≡ Some mark)

-- the theorem with the label of the one with this number of the other database used those with the
-- stamp
abbrev pub WereUsed : (c d : Conclusion) → (theorem stamp : ℕ) → (marks : List ℕ) → Type 0
WereUsed c d theorem stamp marks =
    (label : List ℕ) → HasName d.sentences label theorem → (n : ℕ)
    → slice_get marks n ≡ Some stamp
    → (id : ℕ) × HasName c.sentences label id × UsedIn c.uses id n

-- ---- what may be used

-- the theorem with the label of the one with this number of the other database used the assertion
-- with the label of the other one
abbrev pub WasUsed : (c d : Conclusion) → (theorem used : ℕ) → Type 0
WasUsed c d theorem used =
    (label name : List ℕ) → HasName d.sentences label theorem → HasName d.sentences name used
    → UsesIn c label name

-- the theorem with this number may newly use the assertion with the other one, in any reading of
-- the files
abbrev pub MayUseAt : List PlainFile → (theorem used : ℕ) → Type 0
MayUseAt files theorem used =
    (statements : List PlainStatement) (index place : ℕ) (s a : PlainStatement)
    → Reads files statements None → IsAt statements theorem index s → IsAt statements used place a
    → MayUse files s a

-- no statement has the label of the one with this number of the other database
abbrev pub IsNew : (c d : Conclusion) → (n : ℕ) → Type 0
IsNew c d n = (label : List ℕ) → HasName d.sentences label n → ¬ (IsTold c.sentences label)

-- it was used, or it may be and one of both wasn't there
abbrev pub IsUseHeeded : (c d : Conclusion) → (theorem used : ℕ) → Type 0
IsUseHeeded c d theorem used =
    WasUsed c d theorem used
    ⊎ ((IsNew c d theorem ⊎ IsNew c d used) × MayUseAt d.files theorem used)

-- so it is of all that a proof of the other database uses
abbrev pub IsProofHeeded : (c d : Conclusion) → ProofUses → Type 0
IsProofHeeded c d u = (n : ℕ) → Contains u.used n → IsUseHeeded c d u.number n
