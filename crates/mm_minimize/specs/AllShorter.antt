-- A file in which each proof that became shorter is replaced, and all else is kept; and the list of
-- the proofs that become shorter. Proofs are those of the Metamath book, sections 4.1.4, 4.3 and
-- 4.4.3 and appendix B; which of them are shorter, and how they are told, is this project's own.
use Rattle.std.specs.Prelude.{◌≡◌, ◌⊎◌, ◌↔◌, ◌++◌, ℕ, List, [], take, length, map}
use Rattle.std.specs.Prelude.{Bool, true, slice_get, Some, codes, decimal, false, min}
use Rattle.std.specs.Prelude.{◌^◌, ◌-◌}
use Rattle.std.specs.List.{flat_map, sum_by}
use Rattle.mm_base.specs.Statement.{PlainStatement}
use Rattle.mm_text.specs.Files.{PlainFile}
use Rattle.mm_text.specs.Replaced.{with_span}
use Rattle.mm_frame.specs.Numbers.{IsNumbered}
use Rattle.mm_frame.specs.Sentence.{Sentence, sentence_of, IsLabelled}
use Rattle.mm_step.specs.declared.profile.Profile.{Profile}
use Rattle.mm_step.specs.Tree.{Trees}
use Rattle.mm_proof.specs.Used.{IsUsedNumber}
use Rattle.mm_rules.specs.declared.ask.AskFault.{AskFault}
use Rattle.mm_verdict.specs.declared.form.Form.TheVariants.{Small}
use Rattle.mm_save.specs.AllSaved.{IsRewriteFault, IsRewritten, Replacement}
use Rattle.mm_rules.specs.Answer.{labels_at}
use Rattle.mm_render.specs.Forms.{IsSmallOf}
use Rattle.mm_rules.specs.Rests.{AreInOrder, AreRising, Uses}
use Rattle.mm_render.specs.Saved.{IsSpanText, within_span}
use Rattle.mm_render.specs.Shorter.{IsShorterTree}
use Rattle.mm_rules.specs.Verdict.{is_proof, labels_of, sentences}

-- ---- duplicates

-- both have the same type code
abbrev pub AreOfOneKind : Sentence → Sentence → Type 0
AreOfOneKind s a = take 1 s.symbols ≡ take 1 a.symbols

-- an assertion with this number stands in the tree, and has the type code of the statement
abbrev pub IsUsedOfKind : List Sentence → Sentence → Trees → ℕ → Type 0
IsUsedOfKind before s t n =
    (index : ℕ) × (a : Sentence) × IsUsedNumber before t n × IsNumbered before n index a
    × AreOfOneKind s a

-- The tree uses one earlier assertion alone, once or more, besides those of other type codes, as
-- are those of syntax: where it is used once, and the others are of syntax, the theorem is an
-- instance of it.
pub record IsByOneAlone (before : List Sentence) (s : Sentence) (t : Trees) : Type 0 where
  pub number : ℕ
  pub used : IsUsedOfKind before s t number
  pub only : (n : ℕ) → IsUsedOfKind before s t n → n ≡ number

-- ---- a file with shorter proofs

-- The text is put in place of the old bytes of the proof of the theorem with the label: the small
-- proof of a shorter tree, with their indent, where it has fewer bytes than they. The tree isn't
-- one assertion alone, unless such duplicates are replaced too.
pub record IsPutShorter (profile : Profile) (duplicates : Bool) (files : List PlainFile)
    (statements : List PlainStatement) (label old put : List ℕ) : Type 0 where
  pub own : List ℕ
  pub is_own : IsSmallOf statements label own
  pub t : Trees
  pub text : List ℕ
  pub shorter : IsShorterTree profile files statements label (length own) t text
  pub chosen : (duplicates ≡ true)
      ⊎ ¬ (IsByOneAlone (sentences (take shorter.index statements)) (sentence_of shorter.s) t)
  pub laid : IsSpanText Small (sentences (take shorter.index statements)) (sentence_of shorter.s) t
      old put

-- in a file of these bytes, the proof of the theorem is kept as it stands there, or a shorter one
-- is put in its place
abbrev pub IsShortened : Profile → (duplicates : Bool) → List PlainFile → List PlainStatement
    → (bytes : List ℕ) → PlainStatement → Replacement → Type 0
IsShortened profile duplicates files statements bytes s new =
    (new.span ≡ s.span)
    × ((new.text ≡ within_span bytes s.span)
    ⊎ ((label : List ℕ) × IsLabelled label (sentence_of s)
    × IsPutShorter profile duplicates files statements label (within_span bytes s.span) new.text))

-- These are the bytes of the file in which the theorem with the label stands, whose proof is
-- complete: with a shorter proof in place of its own, a duplicate too, or as they are. That one is
-- found isn't said.
pub record IsOneShortened (profile : Profile) (files : List PlainFile)
    (statements : List PlainStatement) (label bytes : List ℕ) : Type 0 where
  pub index : ℕ
  pub s : PlainStatement
  pub there : slice_get statements index ≡ Some s
  pub named : IsLabelled label (sentence_of s)
  pub complete : is_proof s ≡ true
  pub file : PlainFile
  pub handed : slice_get files s.first.file ≡ Some file
  pub new : Replacement
  pub shortened : IsShortened profile true files statements file.bytes s new
  pub whole : bytes ≡ with_span file.bytes s.span new.text

-- These are the bytes of the file with the number in which some theorems, or none, have shorter
-- proofs: that each shorter proof is found isn't said.
abbrev pub IsAllShortened : Profile → (duplicates : Bool) → List PlainFile → List PlainStatement
    → (number : ℕ) → (bytes : List ℕ) → Type 0
IsAllShortened profile duplicates files statements number bytes =
    IsRewritten (IsShortened profile duplicates files statements) files statements number bytes

-- why the file isn't written, where nothing is at fault
abbrev pub IsAllShorterFault : Profile → (duplicates : Bool) → List PlainFile → List PlainStatement
    → (number : ℕ) → AskFault → Type 0
IsAllShorterFault profile duplicates files statements number fault =
    IsRewriteFault (IsShortened profile duplicates files statements) files statements number fault

-- ---- the list of shorter proofs

-- the bytes of a small proof, and the steps of the fully shared one
pub record ProofSize : Type 0 where
  pub bytes : ℕ
  pub steps : ℕ

-- a line: of a theorem the sizes of its own proof and of a shorter one, and what that newly uses
pub record ShorterLine : Type 0 where
  pub id : ℕ
  pub label : List ℕ
  pub duplicate : Bool
  pub own : ProofSize
  pub new : ProofSize
  pub newly : List ℕ

-- the line tells of a shorter proof of the theorem with its label and number
pub record IsShorterLine (profile : Profile) (files : List PlainFile)
    (statements : List PlainStatement) (line : ShorterLine) : Type 0 where
  pub own : List ℕ
  pub is_own : IsSmallOf statements line.label own
  pub t : Trees
  pub text : List ℕ
  pub shorter : IsShorterTree profile files statements line.label (length own) t text
  pub number : line.id ≡ shorter.id
  pub own_bytes : line.own.bytes ≡ length own
  pub own_steps : line.own.steps ≡ shorter.steps
  pub new_bytes : line.new.bytes ≡ length text
  pub new_steps : line.new.steps ≡ shorter.count
  pub newly : AreInOrder
      (λ n. IsUsedNumber (sentences (take shorter.index statements)) t n
      × ¬ (Uses statements shorter.id n)) line.newly
  pub alone : line.duplicate ≡ true
      ↔ IsByOneAlone (sentences (take shorter.index statements)) (sentence_of shorter.s) t

-- the lines are of different theorems, in database order
pub record AreShorterLines (profile : Profile) (files : List PlainFile)
    (statements : List PlainStatement) (lines : List ShorterLine) : Type 0 where
  pub rising : AreRising (map (λ l. l.id) lines)
  pub each : (line : ShorterLine) (at : ℕ) → slice_get lines at ≡ Some line
      → IsShorterLine profile files statements line

-- ---- its text

-- a number behind a space
abbrev pub behind : ℕ → List ℕ
behind n = codes " " ++ decimal n

-- the sizes before and after
abbrev pub sizes_text : (own new : ProofSize) → List ℕ
sizes_text own new = behind own.bytes ++ behind new.bytes ++ behind own.steps ++ behind new.steps

-- words, each behind a space
abbrev pub words_behind : List (List ℕ) → List ℕ
words_behind words = flat_map (λ word. codes " " ++ word) words

-- the line of a duplicate begins with that word
abbrev pub mark_text : Bool → List ℕ
mark_text true = codes "duplicate: "
mark_text false = []

-- the text of a line
abbrev pub shorter_line_text : (labels : List (List ℕ)) → ShorterLine → List ℕ
shorter_line_text labels line =
    mark_text line.duplicate ++ line.label
    ++ sizes_text line.own line.new ++ words_behind (labels_at labels line.newly) ++ codes "\n"

-- the texts of the lines, one after the other
abbrev pub shorter_lines_text : (labels : List (List ℕ)) → List ShorterLine → List ℕ
shorter_lines_text labels lines = flat_map (shorter_line_text labels) lines

-- the greatest sum that is told: a greater one is told as this
abbrev pub most_sum : ℕ
most_sum = 2 ^ 64 - 1

-- the sums of sizes
abbrev pub sum_of : (ShorterLine → ProofSize) → List ShorterLine → ProofSize
sum_of size lines = record {
  bytes = min most_sum (sum_by (λ l. (size l).bytes) lines);
  steps = min most_sum (sum_by (λ l. (size l).steps) lines);
}

-- the last line: how many proofs become shorter, and the sums of their sizes, duplicates among them
abbrev pub sums_text : List ShorterLine → List ℕ
sums_text lines =
    decimal (length lines) ++ codes " proofs"
    ++ sizes_text (sum_of (λ l. l.own) lines) (sum_of (λ l. l.new) lines) ++ codes "\n"

-- the text of the list
abbrev pub shorter_text : List PlainStatement → List ShorterLine → List ℕ
shorter_text statements lines =
    shorter_lines_text (labels_of statements) lines ++ sums_text lines
