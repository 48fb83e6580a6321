-- A checked database, and what is told of the proofs of two. This file mirrors the code, and is
-- cited by private contracts alone.
use Rattle.std.specs.Prelude.{◌≡◌, ◌↔◌, ℕ, List, [], None, Bool, IsTrue}
use Rattle.mm_base.specs.Statement.{PlainStatement}
use Rattle.mm_frame.specs.Sentence.{Sentence}
use Rattle.mm_step.specs.Moves.{Move}
use Rattle.mm_step.specs.Steps.{IsProofNumber}
use Rattle.mm_step.specs.Tree.{Trees}
use Rattle.mm_text.specs.Reading.{Reads}
use Rattle.mm_rules.specs.Conclusion.{Conclusion}
use Rattle.mm_rules.specs.Rests.{AreInOrder, HasTree, IsAt}
use Rattle.mm_rules.specs.Verdict.{proof_of, sentences}
use Rattle.mm_verdict.specs.Mirror.Theorems.{SayStepsOf}
use Rattle.mm_alike.specs.declared.homes.Home.{Home}
use Rattle.mm_alike.specs.Alike.{AreAlike, IsAssertionNamed, IsReproved}
use Rattle.mm_alike.specs.Mirror.Homes.{HaveHomes}
use Rattle.mm_alike.specs.Mirror.Steps.{NameTheSame}

-- the database has no incomplete proof, and these are the homes of its statements
pub record IsComplete (c : Conclusion) (own : List Home) : Type 0 where
  pub complete : c.incomplete ≡ []
  pub homes : HaveHomes c.files own

-- the number is that of a `$p`
abbrev pub IsTheorem : List Sentence → ℕ → Type 0
IsTheorem statements id = (index : ℕ) × (s : Sentence) × IsProofNumber statements id index s

-- the numbers are those of assertions of two databases with one label, which say the same
abbrev pub IsAlikeNamed : (statements others : List Sentence) → (id n : ℕ) → Type 0
IsAlikeNamed statements others id n =
    (label : List ℕ) × IsAssertionNamed statements label id × IsAssertionNamed others label n
    × AreAlike statements others id n

-- the steps are those that the tokens of its proof say
abbrev pub SayOwnSteps : Conclusion → (id : ℕ) → List (Move ℕ) → Type 0
SayOwnSteps c id steps =
    (statements : List PlainStatement) → Reads c.files statements None → (index : ℕ)
    (s : PlainStatement) → IsAt statements id index s
    → SayStepsOf (sentences statements) id (proof_of s) steps

-- the proofs of two theorems have the same tokens, and their mandatory hypotheses the same labels
abbrev pub HaveSameText : (c d : Conclusion) → (one other : ℕ) → Type 0
HaveSameText c d one other =
    NameTheSame c.sentences d.sentences one other
    × ((statements others : List PlainStatement) → Reads c.files statements None
    → Reads d.files others None → (i : ℕ) (s : PlainStatement) (j : ℕ) (t : PlainStatement)
    → IsAt statements one i s → IsAt others other j t → proof_of s ≡ proof_of t)

-- the complete proofs of theorems of two databases spell one tree
abbrev pub SpellOneTree : (statements others : List PlainStatement) → (one other : ℕ) → Type 0
SpellOneTree statements others one other =
    (t : Trees) × (i : ℕ) × HasTree statements one i t × (j : ℕ) × HasTree others other j t

-- it is told whether they do
abbrev pub TellsOneProof : (c d : Conclusion) → (one other : ℕ) → Bool → Type 0
TellsOneProof c d one other same =
    (statements others : List PlainStatement) → Reads c.files statements None
    → Reads d.files others None → IsTrue same ↔ SpellOneTree statements others one other

-- it is told whether the assertion of the first database is reproved
abbrev pub TellsReproved : (c d : Conclusion) → ℕ → Bool → Type 0
TellsReproved c d id told =
    (statements others : List PlainStatement) → Reads c.files statements None
    → Reads d.files others None → IsTrue told ↔ IsReproved statements others id

-- these are the assertions of the first database that are reproved
abbrev pub AreReproved : (c d : Conclusion) → List ℕ → Type 0
AreReproved c d ids =
    (statements others : List PlainStatement) → Reads c.files statements None
    → Reads d.files others None → AreInOrder (IsReproved statements others) ids
