-- Where the hypotheses stand that help to mend a proof at fault: one that isn't active any more,
-- and those of the theorem itself. That they are told is this project's own.
use Rattle.std.specs.Prelude.{◌≡◌, ◌≢◌, ℕ, ◌+◌, List, [], ◌∷◌, ◌++◌, drop, map, slice_get, ◌⊎◌}
use Rattle.std.specs.Prelude.{Bool, true, false, Option, Some, None}
use Rattle.std.specs.List.{AllZip}
use Rattle.std.specs.Option.{option_to_list}
use Rattle.mm_base.specs.declared.statement.Kind.TheVariants.{Closing}
use Rattle.mm_base.specs.Statement.{PlainStatement}
use Rattle.mm_base.specs.Blocks.{AreBalanced, AreClosed}
use Rattle.mm_text.specs.Files.{PlainFile}
use Rattle.mm_frame.specs.Sentence.{Sentence, SomeSentence, sentence_of, IsLabelled}
use Rattle.mm_frame.specs.Frame.{AreMandatory}
use Rattle.mm_step.specs.declared.fault.ProofRule.{ProofRule}
use Rattle.mm_step.specs.declared.fault.ProofRule.TheVariants.{P3, P8, P9, P10, P13, P14}
use Rattle.mm_places.specs.WholePlaces.{IsWholePlace}
use Rattle.mm_facts.specs.Explained.{Detail, stated_at, block_ended_at, its_hypotheses}
use Rattle.mm_facts.specs.Explained.{hypothesis_at, judged_tokens, told_of}
use Rattle.mm_rules.specs.Places.{token_place}
use Rattle.mm_rules.specs.Verdict.{sentences, proof_of}

-- ---- a hypothesis that isn't active

-- The `$}` closes the block in which the statement at an index stands (the Metamath book, section
-- 4.2.8): it stands behind that statement, and each block that is opened in between is closed in
-- between.
pub record ClosesBlock (statements : List PlainStatement) (index : ℕ)
    (closing : PlainStatement) : Type 0 where
  pub within : List PlainStatement
  pub after : List PlainStatement
  pub behind : drop (index + 1) statements ≡ within ++ closing ∷ after
  pub closes : closing.kind ≡ Closing
  pub balanced : AreBalanced within
  pub closed : AreClosed within

-- the `$}` that closes it, if one does
abbrev pub IsBlockEnd : List PlainStatement → (index : ℕ) → Option PlainStatement → Type 0
IsBlockEnd statements index None = AreBalanced (drop (index + 1) statements)
IsBlockEnd statements index (Some closing) = ClosesBlock statements index closing

-- The facts of the statement with a label, if there is one: where it is stated, and where the block
-- ends in which it stands.
abbrev pub AreScopeFacts : List PlainFile → List PlainStatement → (label : List ℕ) → List Detail
    → Type 0
AreScopeFacts files statements label details =
    (¬ (SomeSentence (sentences statements) (IsLabelled label)) × (details ≡ []))
    ⊎ ((index : ℕ) × (h : PlainStatement) × (slice_get statements index ≡ Some h)
    × IsLabelled label (sentence_of h)
    × (end : Option PlainStatement) × IsBlockEnd statements index end
    × (details ≡ stated_at (token_place files h.first)
    ∷ map (λ c. block_ended_at (token_place files c.first)) (option_to_list end)))

-- the facts of a token at which the rule over the whole of a proof is broken
abbrev pub AreTokenPlaces : List PlainFile → (before : List PlainStatement) → ProofRule
    → (text : List ℕ) → List Detail → Type 0
AreTokenPlaces files before P3 text details = AreScopeFacts files before text details
AreTokenPlaces files before rule text details = details ≡ []

-- ---- the hypotheses of the theorem

-- the fact of a hypothesis: its label, and the place of the statement that has it
abbrev pub IsHypothesisFact : List PlainFile → List PlainStatement → Sentence → Detail → Type 0
IsHypothesisFact files before h detail =
    (label : List ℕ) × IsLabelled label h
    × (index : ℕ) × (stated : PlainStatement) × (slice_get before index ≡ Some stated)
    × IsLabelled label (sentence_of stated)
    × (detail ≡ hypothesis_at (token_place files stated.first) label)

-- those of the mandatory hypotheses of the `$p`, in order, if it has some
abbrev pub AreOwnHypotheses : List PlainFile → (before : List PlainStatement) → PlainStatement
    → List Detail → Type 0
AreOwnHypotheses files before s details =
    (hypotheses : List Sentence) × AreMandatory (sentences before) (sentence_of s) hypotheses
    × (each : List Detail) × AllZip (IsHypothesisFact files before) hypotheses each
    × (details ≡ told_of hypotheses (its_hypotheses ∷ each))

-- whether they are told where the rule is broken
abbrev pub tells_own : ProofRule → Bool
tells_own P8 = true
tells_own P9 = true
tells_own P10 = true
tells_own P13 = true
tells_own P14 = true
tells_own rule = false

-- the facts of moves that stop by the rule
abbrev pub AreStopPlaces : List PlainFile → (before : List PlainStatement) → PlainStatement
    → ProofRule → List Detail → Type 0
AreStopPlaces files before s rule details =
    ((tells_own rule ≡ true) × AreOwnHypotheses files before s details)
    ⊎ ((tells_own rule ≡ false) × (details ≡ []))

-- ---- the fault of a proof

-- The facts of where hypotheses stand, for the first fault of the proof of the `$p`: for P3 of the
-- one that isn't active, and for P8 to P10, P13 and P14 of its own.
abbrev pub AreHypothesisPlaces : List PlainFile → (before : List PlainStatement) → PlainStatement
    → ProofRule → (step : ℕ) → List Detail → Type 0
AreHypothesisPlaces files before s rule step details =
    ((step ≡ 0) × (token : ℕ) × (byte : ℕ) × (text : List ℕ)
    × IsWholePlace (sentences before) (sentence_of s) (judged_tokens (proof_of s)) rule token byte
    × (slice_get (proof_of s) token ≡ Some text)
    × AreTokenPlaces files before rule text details)
    ⊎ ((step ≢ 0) × AreStopPlaces files before s rule details)
