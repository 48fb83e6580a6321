-- One theorem alone, over the statements before it, whatever their proofs: what stands at its
-- label, what a text is as its proof, and what its own proof is (the Metamath book, sections 4.1.4,
-- 4.2, 4.3 and 4.4.4, appendix B). That a theorem may be asked for alone is this project's own.
use Rattle.std.specs.Prelude.{◌≡◌, ◌≢◌, ◌⊎◌, ℕ, ◌≤◌, List, [], ◌∷◌, ◌++◌, length}
use Rattle.std.specs.Prelude.{Option, Some, None}
use Rattle.mm_base.specs.declared.statement.Kind.TheVariants.{Provable}
use Rattle.mm_text.specs.Files.{PlainFile}
use Rattle.mm_base.specs.MostBytes.{most_bytes}
use Rattle.mm_text.specs.Reading.{PlainFault, Reads}
use Rattle.mm_base.specs.Statement.{PlainStatement}
use Rattle.mm_frame.specs.Rules.{AllMeant}
use Rattle.mm_frame.specs.Sentence.{SomeSentence, sentence_of, IsLabelled}
use Rattle.mm_rules.specs.declared.rule.AskRule.{AskRule}
use Rattle.mm_rules.specs.declared.rule.AskRule.TheVariants.{A1, A2}
use Rattle.mm_rules.specs.ProofText.{broken_in}
use Rattle.mm_verdict.specs.Faults.{IsMeaningRefusal}
use Rattle.mm_rules.specs.Verdict.{CanBeRead, PlainRefusal, sentences, text_refusal}

-- ---- what stands at a label

-- none of the statements has the label
abbrev pub LackLabel : List ℕ → List PlainStatement → Type 0
LackLabel label statements = ¬ (SomeSentence (sentences statements) (IsLabelled label))

-- The reading of the files begins with the statements before and then this one, which has the
-- label; none of them breaks a rule of meaning.
pub record IsReadTo (files : List PlainFile) (label : List ℕ) (before : List PlainStatement)
    (s : PlainStatement) : Type 0 where
  pub readable : CanBeRead files
  pub after : List PlainStatement
  pub ending : Option PlainFault
  pub reads : Reads files (before ++ s ∷ after) ending
  pub named : IsLabelled label (sentence_of s)
  pub meant : AllMeant (sentences (before ++ s ∷ []))

-- The files hold the statements before and then those that are left, and end with this fault or
-- with none. Those before break no rule of meaning, and none of them has the label.
pub record IsReadPast (files : List PlainFile) (label : List ℕ) (before left : List PlainStatement)
    (ending : Option PlainFault) : Type 0 where
  pub readable : CanBeRead files
  pub reads : Reads files (before ++ left) ending
  pub lack : LackLabel label before
  pub meant : AllMeant (sentences before)

-- The files are refused before it is known what stands at the label: for the first rule of meaning
-- that a statement breaks, or for the fault of the text.
abbrev pub IsRefusedBefore : List PlainFile → (label : List ℕ) → PlainRefusal → Type 0
IsRefusedBefore files label refusal =
    (before : List PlainStatement)
    × (((s : PlainStatement) × (after : List PlainStatement) × (ending : Option PlainFault)
    × IsReadPast files label before (s ∷ after) ending × IsMeaningRefusal files before s refusal)
    ⊎ ((fault : PlainFault) × IsReadPast files label before [] (Some fault)
    × (refusal ≡ text_refusal files fault)))

-- no theorem stands at the label: no statement of the files has it, or one other than a `$p`
abbrev pub IsNoTheorem : List PlainFile → (label : List ℕ) → AskRule → Type 0
IsNoTheorem files label A1 =
    (statements : List PlainStatement) × IsReadPast files label statements [] None
IsNoTheorem files label A2 =
    (before : List PlainStatement) × (s : PlainStatement) × IsReadTo files label before s
    × (s.kind ≢ Provable)
IsNoTheorem files label rule = ⊥

-- the theorem with the label, after those before it
abbrev pub IsTheoremAt : List PlainFile → (label : List ℕ) → (before : List PlainStatement)
    → PlainStatement → Type 0
IsTheoremAt files label before s = IsReadTo files label before s × (s.kind ≡ Provable)

-- ---- a text as a proof

-- The text may be taken, and its tokens may stand in a proof, with unknown steps or without.
pub record HasProofTokens (text : List ℕ) : Type 0 where
  pub taken : length text ≤ most_bytes
  pub faultless : broken_in text ≡ None
