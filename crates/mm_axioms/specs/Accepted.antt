-- Who uses an assertion by accepted proofs, in files whose statements break no rule of meaning. How
-- other theorems are proved is left open: their proofs may be at fault, or incomplete.
use Rattle.std.specs.Prelude.{◌≡◌, ℕ, List, take, Bool, true, false, None}
use Rattle.mm_base.specs.Statement.{PlainStatement}
use Rattle.mm_text.specs.Files.{PlainFile}
use Rattle.mm_text.specs.Reading.{Reads}
use Rattle.mm_frame.specs.Rules.{AllMeant}
use Rattle.mm_frame.specs.Sentence.{IsAssertion, sentence_of}
use Rattle.mm_step.specs.declared.profile.Profile.TheVariants.{Lenient}
use Rattle.mm_proof.specs.UnderProfile.{IsProvedUnder}
use Rattle.mm_rules.specs.Answer.{labels_at}
use Rattle.mm_rules.specs.Rests.{AreInOrder, IsAt, IsNamed, RestsOn, Uses}
use Rattle.mm_rules.specs.Verdict.{CanBeRead, is_proof, labels_of, proof_of, sentences}
use Rattle.mm_verdict.specs.Reply.{lines_of}

-- The files are read without a fault, these are their statements, and none of them breaks a rule of
-- meaning. How any of them is proved is left open.
pub record AreMeant (files : List PlainFile) (statements : List PlainStatement) : Type 0 where
  pub readable : CanBeRead files
  pub reads : Reads files statements None
  pub meant : AllMeant (sentences statements)

-- the number is that of a `$p` whose proof is complete, and accepted in the lenient profile
pub record IsAccepted (statements : List PlainStatement) (id : ℕ) : Type 0 where
  pub index : ℕ
  pub s : PlainStatement
  pub at : IsAt statements id index s
  pub complete : is_proof s ≡ true
  pub proof : IsProvedUnder Lenient (sentences (take index statements)) (sentence_of s) (proof_of s)

-- the theorem's proof is accepted, and uses the assertion
abbrev pub UsesAccepted : List PlainStatement → (theorem id : ℕ) → Type 0
UsesAccepted statements theorem id = IsAccepted statements theorem × Uses statements theorem id

-- the theorem's accepted proof uses the assertion; or, of all users, the theorem rests on it by
-- accepted proofs
abbrev pub UsesItAccepted : (all : Bool) → List PlainStatement → (theorem id : ℕ) → Type 0
UsesItAccepted false statements theorem id = UsesAccepted statements theorem id
UsesItAccepted true statements theorem id = RestsOn (UsesAccepted statements) theorem id

-- these are the users of the assertion with the label by accepted proofs, or all of them
pub record AreAcceptedUsers (all : Bool) (statements : List PlainStatement) (label : List ℕ)
    (users : List ℕ) : Type 0 where
  pub id : ℕ
  pub assertion : IsNamed statements label (λ s. IsAssertion s.kind) id
  pub are_users : AreInOrder (λ theorem. UsesItAccepted all statements theorem id) users

-- a line for each of them
abbrev pub ListsAcceptedUsers : (all : Bool) → List PlainStatement → (label : List ℕ) → List ℕ
    → Type 0
ListsAcceptedUsers all statements label text =
    (users : List ℕ) × AreAcceptedUsers all statements label users
    × (text ≡ lines_of (labels_at (labels_of statements) users))
