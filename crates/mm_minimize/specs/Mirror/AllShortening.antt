-- What the code knows on its way to a file with shorter proofs, and to the list of them. This file
-- mirrors the code, and is cited by private contracts alone.
use Rattle.std.specs.Prelude.{◌≡◌, ℕ, ◌≤◌, ◌⊎◌, List, Bool, true, false, length, map}
use Rattle.std.specs.Prelude.{Option, Some, None, ◌+◌, ◌++◌, ◌<◌, min}
use Rattle.std.specs.List.{AllByRecursion}
use Rattle.mm_base.specs.Statement.{PlainStatement}
use Rattle.mm_text.specs.Reading.{Reads}
use Rattle.mm_frame.specs.Sentence.{sentence_of, IsLabelled}
use Rattle.mm_step.specs.Steps.{AreSteps}
use Rattle.mm_render.specs.declared.forms.OwnProof.{OwnProof}
use Rattle.mm_minimize.specs.declared.proof_pair.Compared.{Compared}
use Rattle.mm_minimize.specs.declared.shorter_list.Listing.{Listing}
use Rattle.mm_minimize.specs.declared.search_watch.Searched.{Searched}
use Rattle.mm_minimize.specs.declared.search_watch.Searched.TheVariants.{NoneShorter}
use Rattle.mm_minimize.specs.declared.sizes.Sizes.{Sizes}
use Rattle.mm_minimize.specs.declared.shorter_list.Sums.{Sums}
use Rattle.mm_save.specs.declared.save_all.NewFile.{NewFile}
use Rattle.mm_minimize.specs.declared.shortening.Shorter.{Shorter}
use Rattle.mm_verdict.specs.declared.form.Form.TheVariants.{Small}
use Rattle.mm_verdict.specs.declared.theorem.Theorem.{Theorem}
use Rattle.mm_save.specs.AllSaved.{Replacement}
use Rattle.mm_minimize.specs.AllShorter.{IsShortened, IsShorterLine, ProofSize, ShorterLine, most_sum}
use Rattle.mm_minimize.specs.AllShorter.{shorter_line_text, shorter_lines_text, sum_of}
use Rattle.mm_render.specs.Forms.{IsSmallOf}
use Rattle.mm_rules.specs.Rests.{AreRising}
use Rattle.mm_rules.specs.Verdict.{sentences}
use Rattle.mm_rules.specs.Conclusion.{Conclusion}
use Rattle.mm_save.specs.Mirror.AllSaving.{AreReplacedSoFar, IsTakenSoFar, PutsText, replacement}
use Rattle.mm_verdict.specs.Mirror.Rereading.{label_count}
use Rattle.mm_verdict.specs.Mirror.Theorems.{AreProvedSteps, AreStepsOf}
use Rattle.mm_render.specs.Mirror.Rewriting.{IsPutIn, IsSpanTextOf, StandIn}
use Rattle.mm_render.specs.Mirror.Shortening.{AreHanded, IsOwnProof}
use Rattle.mm_minimize.specs.Mirror.Shortening.{AreNewlyUsed, IsFound, IsProvedAnew}
use Rattle.mm_minimize.specs.Mirror.Shortening.{IsSearchedFor}

-- ---- a file with shorter proofs

-- in a file of these bytes, the proof of the theorem may be replaced so
abbrev pub MayReplace : Conclusion → (duplicates : Bool) → (bytes : List ℕ) → PlainStatement
    → Replacement → Type 0
MayReplace c duplicates bytes s new =
    (statements : List PlainStatement) → Reads c.files statements None
    → IsShortened c.profile duplicates c.files statements bytes s new

-- by this text
abbrev pub MayStandIn : Conclusion → (duplicates : Bool) → (bytes : List ℕ) → PlainStatement
    → (text : List ℕ) → Type 0
MayStandIn c duplicates bytes s text = MayReplace c duplicates bytes s (replacement s text)

-- a shorter proof is put, with duplicates or without
abbrev pub IsWanted : (duplicates : Bool) → Shorter → Type 0
IsWanted duplicates new = (duplicates ≡ true) ⊎ (new.is_duplicate ≡ false)

-- the steps of the other proof are those of a complete one of its theorem
abbrev pub MayBeWritten : Conclusion → Compared → Type 0
MayBeWritten c both =
    AreSteps c.sentences both.new.theorem.id.0 both.new.theorem.steps.moves
    × AreProvedSteps c.sentences both.new.theorem.id.0 both.new.theorem.steps
    × (both.new.theorem.steps.prefix ≡ false)

-- This is put in place of the old bytes of a theorem's proof, where this was found: the small proof
-- that was found, if it is wanted, and else the old bytes.
abbrev pub IsTextOfFound : Conclusion → (duplicates : Bool) → Option Compared → (old put : List ℕ)
    → Type 0
IsTextOfFound c duplicates None old put = put ≡ old
IsTextOfFound c duplicates (Some both) old put =
    (IsWanted duplicates both.new → IsSpanTextOf Small c.sentences both.new.theorem.id.0
    both.new.theorem.steps.moves old put)
    × (¬ (IsWanted duplicates both.new) → put ≡ old)

-- The bytes are those of the file in which the theorem stands, with this in place of its proof,
-- where this was found.
abbrev pub IsFileOfFound : Conclusion → Theorem → Option Compared → (bytes : List ℕ) → Type 0
IsFileOfFound c theorem found bytes =
    (old : List ℕ) × (put : List ℕ) × StandIn c.files theorem.file theorem.span old
    × IsTextOfFound c true found old put
    × IsPutIn c.files theorem.file theorem.span put bytes

-- the bytes up to the proof of the theorem were taken, and then what may stand in its place was put
pub record PutsShorter (c : Conclusion) (duplicates : Bool) (s : PlainStatement)
    (old new : NewFile) : Type 0 where
  pub text : List ℕ
  pub puts : PutsText old s.span text new
  pub may : MayStandIn c duplicates old.source.now s text

-- after these statements the new file has what may stand in place of the proofs of their theorems
pub record IsShortenedSoFar (c : Conclusion) (duplicates : Bool) (taken : List PlainStatement)
    (file : NewFile) : Type 0 where
  pub way : IsTakenSoFar c.files taken file
  pub so_far : AreReplacedSoFar (MayReplace c duplicates file.source.now) taken file

-- all statements of the files were read
pub record IsAllShortenedIn (c : Conclusion) (duplicates : Bool) (number : ℕ)
    (file : NewFile) : Type 0 where
  pub statements : List PlainStatement
  pub reads : Reads c.files statements None
  pub so_far : IsShortenedSoFar c duplicates statements file
  pub home : file.number ≡ number

-- ---- shorter proofs

-- the other proof is a shorter one of the theorem with this number and this label
pub record IsShorterOf (c : Conclusion) (id : ℕ) (s : PlainStatement) (own : OwnProof)
    (new : Shorter) : Type 0 where
  pub told : (statements : List PlainStatement) → Reads c.files statements None
      → c.sentences ≡ sentences statements
  pub number : new.theorem.id.0 ≡ id
  pub handed : AreHanded c.profile c.sentences id new.theorem.steps new.used
  pub own_text : (label : List ℕ) → IsLabelled label (sentence_of s)
      → (statements : List PlainStatement) → Reads c.files statements None
      → IsSmallOf statements label own.text.items
  pub old : Theorem
  pub same : old.id.0 ≡ id
  pub found : (label : List ℕ) → IsLabelled label (sentence_of s)
      → (statements : List PlainStatement) → Reads c.files statements None
      → IsFound c.profile c.files statements label old own new

-- the other proof is a shorter one of the theorem, beside its own
pub record AreCompared (c : Conclusion) (theorem : Theorem) (both : Compared) : Type 0 where
  pub own : IsOwnProof c.sentences theorem.id.0 theorem.steps.moves both.own
  pub anew : IsProvedAnew c.profile c.sentences theorem both.new
  pub found : (label : List ℕ) (statements : List PlainStatement) → Reads c.files statements None
      → AreStepsOf statements label theorem.id.0 theorem.steps.moves
      → IsFound c.profile c.files statements label theorem both.own both.new

-- the search for a shorter proof came to this, where this was found
abbrev pub IsSearchedBeside : Option Compared → Searched → Type 0
IsSearchedBeside (Some both) searched = IsSearchedFor both.own (Some both.new) searched
IsSearchedBeside None searched = searched ≡ NoneShorter

-- so it is, where one is found
abbrev pub IsShorterFor : Conclusion → (id : ℕ) → PlainStatement → Compared → Type 0
IsShorterFor c id s both = IsShorterOf c id s both.own both.new

-- ---- the list of them

-- the size of a proof
abbrev pub plain_size : Sizes → ProofSize
plain_size size = record { bytes = size.bytes; steps = size.steps }

-- the line of a theorem
abbrev pub line_of : (label : List ℕ) → Compared → (newly : List ℕ) → ShorterLine
line_of label both newly = record {
  id = both.new.theorem.id.0;
  label = label;
  duplicate = both.new.is_duplicate;
  own = record { bytes = length both.own.text.items; steps = both.own.steps };
  new = record { bytes = length both.new.proof.text.items; steps = both.new.proof.steps };
  newly = newly;
}

-- what the other proof uses has labels, and is in order
pub record MayBeListed (c : Conclusion) (both : Compared) : Type 0 where
  pub statements : List PlainStatement
  pub reads : Reads c.files statements None
  pub rising : AreRising both.new.used
  pub in_range : AllByRecursion (λ n. n < length c.labels) both.new.used

-- the sizes were added to the sums
pub record AddsSizes (old : Sums) (own new : ProofSize) (now : Sums) : Type 0 where
  pub proofs : now.proofs ≡ old.proofs + 1
  pub own_bytes : now.own.bytes ≡ min most_sum (old.own.bytes + own.bytes)
  pub own_steps : now.own.steps ≡ min most_sum (old.own.steps + own.steps)
  pub new_bytes : now.new.bytes ≡ min most_sum (old.new.bytes + new.bytes)
  pub new_steps : now.new.steps ≡ min most_sum (old.new.steps + new.steps)

-- the line of the theorem with a label was put, and its sizes were added
pub record PutsLine (c : Conclusion) (label : List ℕ) (both : Compared)
    (old now : Listing) : Type 0 where
  pub newly : List ℕ
  pub are_new : AreNewlyUsed c.files both.new.theorem.id.0 both.new.used newly
  pub put : now.text.items
      ≡ old.text.items ++ shorter_line_text c.labels (line_of label both newly)
  pub sums : AddsSizes old.sums (line_of label both newly).own (line_of label both newly).new
      now.sums

-- these are the sums over the lines
pub record AreSums (lines : List ShorterLine) (sums : Sums) : Type 0 where
  pub proofs : sums.proofs ≡ length lines
  pub own : plain_size sums.own ≡ sum_of (λ l. l.own) lines
  pub new : plain_size sums.new ≡ sum_of (λ l. l.new) lines

-- the line tells of a shorter proof, in any reading of the files
abbrev pub IsLineIn : Conclusion → ShorterLine → Type 0
IsLineIn c line =
    (statements : List PlainStatement) → Reads c.files statements None
    → IsShorterLine c.profile c.files statements line

-- a line of the theorem with this number was put, and its sizes were added
pub record ListsLine (c : Conclusion) (id : ℕ) (old new : Listing) : Type 0 where
  pub line : ShorterLine
  pub number : line.id ≡ id
  pub holds : IsLineIn c line
  pub text : new.text.items ≡ old.text.items ++ shorter_line_text c.labels line
  pub sums : AddsSizes old.sums line.own line.new new.sums

-- it was, or all is as it was
abbrev pub ListsNext : Conclusion → (id : ℕ) → (old new : Listing) → Type 0
ListsNext c id old new = ListsLine c id old new ⊎ (new ≡ old)

-- the lines of the theorems among these statements are put
pub record IsListedSoFar (c : Conclusion) (taken : List PlainStatement)
    (list : Listing) : Type 0 where
  pub lines : List ShorterLine
  pub rising : AreRising (map (λ l. l.id) lines)
  pub each : AllByRecursion (IsLineIn c) lines
  pub below : AllByRecursion (λ l. l.id < label_count taken) lines
  pub few : length lines ≤ label_count taken
  pub text : list.text.items ≡ shorter_lines_text c.labels lines
  pub sums : AreSums lines list.sums

-- those of all statements are
pub record IsAllListed (c : Conclusion) (list : Listing) : Type 0 where
  pub statements : List PlainStatement
  pub reads : Reads c.files statements None
  pub so_far : IsListedSoFar c statements list
