-- What is told of the statement with a label: where it stands, what its frame holds, and what it says
-- (the Metamath book, section 4.2.7). The text is this project's own.
use Rattle.std.specs.Prelude.{◌≡◌, ℕ, List, [], ◌∷◌, ◌++◌, take, slice_get, unwrap_or, Some, codes}
use Rattle.std.specs.List.{flat_map}
use Rattle.mm_base.specs.declared.statement.Kind.{Kind}
use Rattle.mm_base.specs.declared.statement.Kind.TheVariants.{Axiom, Provable}
use Rattle.mm_text.specs.Files.{PlainFile}
use Rattle.mm_base.specs.Statement.{PlainStatement, keyword_of}
use Rattle.mm_frame.specs.Sentence.{Sentence, sentence_of, IsLabelled}
use Rattle.mm_frame.specs.Frame.{AreMandatory, AreFurther}
use Rattle.mm_rules.specs.declared.ask.AskFault.{AskFault}
use Rattle.mm_rules.specs.declared.ask.AskFault.TheVariants.{Rule, Memory}
use Rattle.mm_rules.specs.declared.rule.AskRule.TheVariants.{A1}
use Rattle.mm_rules.specs.Explained.{AreMandatoryPairs}
use Rattle.mm_rules.specs.Places.{place_of, place_text}
use Rattle.mm_rules.specs.Rests.{IsNamed}
use Rattle.mm_rules.specs.Shown.{symbols_text}
use Rattle.mm_rules.specs.Verdict.{sentences}

-- the line of a labelled statement: it stands as in its file, without its end
abbrev pub statement_line : Sentence → List ℕ
statement_line s =
    unwrap_or s.label [] ++ symbols_text (keyword_of s.kind ∷ s.symbols) ++ codes "\n"

-- the line of a mandatory pair
abbrev pub pair_line : List ℕ × List ℕ → List ℕ
pair_line p = codes "$d" ++ symbols_text (p.0 ∷ p.1 ∷ []) ++ codes "\n"

-- the line of a `$d` that says more than mandatory pairs
abbrev pub further_line : Sentence → List ℕ
further_line d = codes "also $d" ++ symbols_text d.symbols ++ codes "\n"

-- The lines of the frame of an assertion: its mandatory hypotheses, in database order; its mandatory
-- pairs, in one order; and these `$d`.
pub record IsFrameText (before : List Sentence) (s : Sentence) (further : List Sentence)
    (lines : List ℕ) : Type 0 where
  pub hypotheses : List Sentence
  pub mandatory : AreMandatory before s hypotheses
  pub pairs : List (List ℕ × List ℕ)
  pub distinct : AreMandatoryPairs before s pairs
  pub told : lines
      ≡ flat_map statement_line hypotheses ++ flat_map pair_line pairs
      ++ flat_map further_line further

-- the lines before that of a statement of this kind: of an assertion those of its frame; of a `$p`
-- with the `$d` that say more than mandatory pairs, which hold in its proof
abbrev pub IsTextBefore : Kind → List Sentence → Sentence → List ℕ → Type 0
IsTextBefore Axiom before s lines = IsFrameText before s [] lines
IsTextBefore Provable before s lines =
    (further : List Sentence) × AreFurther before s further × IsFrameText before s further lines
IsTextBefore kind before s lines = lines ≡ []

-- what is told of the statement with a label: its place, the lines before its own, and its own
pub record TellsStatement (files : List PlainFile) (statements : List PlainStatement)
    (label text : List ℕ) : Type 0 where
  pub index : ℕ
  pub s : PlainStatement
  pub there : slice_get statements index ≡ Some s
  pub named : IsLabelled label (sentence_of s)
  pub lines : List ℕ
  pub before : IsTextBefore s.kind (sentences (take index statements)) (sentence_of s) lines
  pub said : text
      ≡ place_text files (place_of files s.first.file s.first.at) ++ codes "\n" ++ lines
      ++ statement_line (sentence_of s)

-- Why nothing is told of the statement with a label: no statement has it. A refused growth says
-- nothing of the statements.
abbrev pub IsStatementFault : List PlainStatement → List ℕ → AskFault → Type 0
IsStatementFault statements label (Rule A1) =
    (id : ℕ) → ¬ (IsNamed statements label (λ s. Unit {0}) id)
IsStatementFault statements label Memory = Unit {0}
IsStatementFault statements label fault = ⊥
