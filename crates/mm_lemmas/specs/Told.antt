-- What `mm lemmas --list` tells: theorems that a database lacks, as a search found them. That they
-- follow, that they are the best and what they save isn't said here: no lemma is judged. How they
-- are told is this project's own.
use Rattle.std.specs.Prelude.{◌≡◌, ℕ, ◌+◌, ◌^◌, ◌-◌, ◌<◌, ◌≤◌, List, [], ◌∷◌, ◌++◌, length, min}
use Rattle.std.specs.Prelude.{Option, Some, None, codes, decimal}
use Rattle.std.specs.List.{flat_map, sum_by}
use Rattle.mm_base.specs.Statement.{PlainStatement}
use Rattle.mm_frame.specs.Sentence.{IsAssertion}
use Rattle.mm_rules.specs.Rests.{IsNamed}
use Rattle.mm_rules.specs.Shown.{symbols_text}
use Rattle.mm_find.specs.Found.{premises}

-- ---- a lemma

-- an assertion, or a lemma: by its label, or by the number of its line, from 1 on
pub data Name : Type 0 where
  Label : List ℕ → Name
  Line : ℕ → Name

-- a line: how many bytes the lemma saves, how many steps are by it, and in how many proofs; the
-- assertion of which an essential hypothesis is proved, which one, from 1 on, and what proves it;
-- what says the lemma already; its essential hypotheses, and its own expression
pub record LemmaLine : Type 0 where
  pub saved : ℕ
  pub uses : ℕ
  pub proofs : ℕ
  pub upper : Name
  pub place : ℕ
  pub lower : Name
  pub known : Option Name
  pub hypotheses : List (List (List ℕ))
  pub expression : List (List ℕ)

-- an assertion of the database has the label; or the line is one of so many
abbrev pub IsThere : List PlainStatement → (before : ℕ) → Name → Type 0
IsThere statements before (Label label) =
    (id : ℕ) × IsNamed statements label (λ s. IsAssertion s.kind) id
IsThere statements before (Line number) = (0 < number) × (number ≤ before)

-- if anything says a lemma already, it is there
abbrev pub IsKnownThere : List PlainStatement → (before : ℕ) → Option Name → Type 0
IsKnownThere statements before (Some name) = IsThere statements before name
IsKnownThere statements before None = Unit {0}

-- the line may stand behind so many others: it saves enough, and what it names is there
pub record IsLemmaLine (least : ℕ) (statements : List PlainStatement) (before : ℕ)
    (line : LemmaLine) : Type 0 where
  pub saves : least ≤ line.saved
  pub upper : IsThere statements before line.upper
  pub lower : IsThere statements before line.lower
  pub known : IsKnownThere statements before line.known

-- so may each of the lines, the first of them behind so many others
abbrev pub AreLemmaLines : (least : ℕ) → List PlainStatement → (before : ℕ) → List LemmaLine
    → Type 0
AreLemmaLines least statements before [] = Unit {0}
AreLemmaLines least statements before (line ∷ lines) =
    IsLemmaLine least statements before line × AreLemmaLines least statements (before + 1) lines

-- ---- its text

abbrev pub name_text : Name → List ℕ
name_text (Label label) = label
name_text (Line number) = codes "#" ++ decimal number

-- a number behind a space
abbrev pub behind : ℕ → List ℕ
behind n = codes " " ++ decimal n

abbrev pub gain_text : (saved uses proofs : ℕ) → List ℕ
gain_text saved uses proofs = decimal saved ++ behind uses ++ behind proofs

abbrev pub made_text : (upper : Name) → (place : ℕ) → (lower : Name) → List ℕ
made_text upper place lower =
    codes " " ++ name_text upper ++ behind place ++ codes " " ++ name_text lower

abbrev pub known_text : Option Name → List ℕ
known_text (Some name) = codes " is " ++ name_text name
known_text None = []

-- the line: `SAVED USES PROOFS UPPER PLACE LOWER : HYPOTHESES & .. => EXPRESSION`, the statement as
-- `mm find` writes it
abbrev pub lemma_text : LemmaLine → List ℕ
lemma_text l =
    gain_text l.saved l.uses l.proofs
    ++ made_text l.upper l.place l.lower ++ known_text l.known
    ++ symbols_text (codes ":" ∷ premises l.hypotheses ++ l.expression)
    ++ codes "\n"

-- the greatest sum that is told: a greater one is told as this
abbrev pub most_sum : ℕ
most_sum = 2 ^ 64 - 1

abbrev pub sum_of : (LemmaLine → ℕ) → List LemmaLine → ℕ
sum_of number lines = min most_sum (sum_by number lines)

-- the last line: how many lemmas are told, what they save, and how many steps are by them
abbrev pub sums_text : List LemmaLine → List ℕ
sums_text lines =
    decimal (length lines) ++ codes " lemmas"
    ++ behind (sum_of (λ l. l.saved) lines) ++ behind (sum_of (λ l. l.uses) lines) ++ codes "\n"

-- ---- the list

-- the text lists lemmas, so many at most, each of which saves so many bytes or more
abbrev pub ListsLemmas : (most least : ℕ) → List PlainStatement → (text : List ℕ) → Type 0
ListsLemmas most least statements text =
    (lines : List LemmaLine) × (length lines ≤ most) × AreLemmaLines least statements 0 lines
    × (text ≡ flat_map lemma_text lines ++ sums_text lines)
