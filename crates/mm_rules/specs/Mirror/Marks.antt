-- Marks of what a theorem rests on, by number, and what is known of what is kept. This file mirrors
-- the code, and is cited by private contracts, and by the invariant of `Checked`.
use Rattle.std.specs.Prelude.{◌≡◌, ℕ, ◌<◌, List, length, slice_index_or, Contains, Bool, true}
use Rattle.std.specs.Prelude.{false}
use Rattle.std.specs.List.{AllByRecursion}
use Rattle.mm_base.specs.declared.statement.Kind.TheVariants.{Axiom}
use Rattle.mm_base.specs.Statement.{PlainStatement}
use Rattle.mm_text.specs.Files.{PlainFile}
use Rattle.mm_frame.specs.Sentence.{Sentence}
use Rattle.mm_frame.specs.Numbers.{IsNumbered}
use Rattle.mm_step.specs.declared.profile.Profile.{Profile}
use Rattle.mm_rules.specs.Conclusion.{ProofUses, numbers_of, labels_in}
use Rattle.mm_rules.specs.Verdict.{AreAccepted, sentences, is_unproved}
use Rattle.mm_rules.specs.Rests.{IsNumberWhere, AreInOrder, AreRising, AreUses}

-- the number is marked
abbrev pub IsMarked : List Bool → ℕ → Type 0
IsMarked marks n = slice_index_or marks n false ≡ true

-- what is kept of the proof with a number holds another
abbrev pub UsedIn : List ProofUses → ℕ → ℕ → Type 0
UsedIn uses id used = (u : ProofUses) × Contains uses u × (u.number ≡ id) × Contains u.used used

-- each proof uses smaller numbers than its own, and the numbers of the proofs rise
pub record AreBackward (uses : List ProofUses) : Type 0 where
  pub rising : AreRising (numbers_of uses)
  pub below : (u : ProofUses) (used : ℕ) → Contains uses u → Contains u.used used → used < u.number

-- accepted statements of the files, of which this is kept: what they say, the numbers of the
-- incomplete proofs, and what the complete ones use
pub record IsKeptFrom (profile : Profile) (files : List PlainFile) (told : List Sentence)
    (noted : List ℕ) (kept : List ProofUses) : Type 0 where
  pub statements : List PlainStatement
  pub accepted : AreAccepted profile files statements
  pub sentences : told ≡ sentences statements
  pub incomplete : AreInOrder (IsNumberWhere statements (λ s. is_unproved s ≡ true)) noted
  pub uses : AreUses statements kept

-- what is kept of the statements of the files
pub record IsKeptWell (profile : Profile) (files : List PlainFile) (told : List Sentence)
    (incomplete : List ℕ) (uses : List ProofUses) : Type 0 where
  pub in_range : AllByRecursion (λ n. n < length (labels_in told)) incomplete
  pub rising : AreRising incomplete
  pub backward : AreBackward uses
  pub origin : IsKeptFrom profile files told incomplete uses

-- the number is that of a `$a`
abbrev pub IsAxiomNumber : List Sentence → ℕ → Type 0
IsAxiomNumber statements id =
    (index : ℕ) × (s : Sentence) × IsNumbered statements id index s × (s.kind ≡ Axiom)
