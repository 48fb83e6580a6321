-- Whether a text is a proof of a theorem that spells the same tree as its own: what is wrong with
-- the text, and the answer (the Metamath book, sections 4.1.1, 4.3, 4.4.3 and 4.4.4, appendix B).
use Rattle.std.specs.Prelude.{◌≡◌, ◌⊎◌, ℕ, ◌<◌, ◌≤◌, ◌==◌, Bool, true, false, List, take}
use Rattle.std.specs.Prelude.{length, slice_get, Some}
use Rattle.std.specs.List.{list_any, list_all}
use Rattle.mm_text.specs.declared.fault.LoadRule.TheVariants.{F3}
use Rattle.mm_text.specs.declared.fault.TextRule.TheVariants.{X1, X9}
use Rattle.mm_base.specs.Token.{is_printable}
use Rattle.mm_base.specs.MostBytes.{most_bytes}
use Rattle.mm_base.specs.Statement.{PlainStatement}
use Rattle.mm_code.specs.Words.{tokens_in}
use Rattle.mm_frame.specs.Sentence.{Sentence, sentence_of, IsLabelled}
use Rattle.mm_step.specs.declared.fault.ProofRule.{ProofRule}
use Rattle.mm_step.specs.declared.fault.ProofFault.{ProofFault}
use Rattle.mm_step.specs.declared.fault.ProofFault.TheVariants as proof_faults
use Rattle.mm_step.specs.declared.profile.Profile.{Profile}
use Rattle.mm_proof.specs.Tokens.{is_incomplete}
use Rattle.mm_proof.specs.UnderProfile.{IsFaultUnder}
use Rattle.mm_rules.specs.declared.rule.Rule.{Rule}
use Rattle.mm_rules.specs.declared.rule.AskRule.TheVariants.{A3}
use Rattle.mm_rules.specs.declared.ask.AskFault.{AskFault}
use Rattle.mm_rules.specs.declared.ask.AskFault.TheVariants.{Text, Memory}
use Rattle.mm_rules.specs.declared.rule.Rule.TheVariants as rules
use Rattle.mm_rules.specs.Verdict.{is_proof, sentences}
use Rattle.mm_rules.specs.Rests.{IsAskFault}

-- each token holds only bytes that a token may hold
abbrev pub are_printable : List (List ℕ) → Bool
are_printable tokens = list_all (list_all is_printable) tokens

-- some token holds a `$`
abbrev pub hold_dollar : List (List ℕ) → Bool
hold_dollar tokens = list_any (list_any (λ b. b == 36)) tokens

-- The text may be taken, and its tokens may stand in a proof with no unknown step.
pub record IsProofText (text : List ℕ) : Type 0 where
  pub taken : length text ≤ most_bytes
  pub printable : are_printable (tokens_in text) ≡ true
  pub plain : hold_dollar (tokens_in text) ≡ false
  pub complete : is_incomplete (tokens_in text) ≡ false

-- The first of these rules that the text breaks, whatever it is to prove: it is too long; a token
-- holds a byte that none may hold; or one that holds a `$`; or one that holds a `?`.
abbrev pub BreaksText : Rule → (text : List ℕ) → Type 0
BreaksText (rules.Load F3) text = most_bytes < length text
BreaksText (rules.Text X1) text = (length text ≤ most_bytes) × (are_printable (tokens_in text) ≡ false)
BreaksText (rules.Text X9) text =
    (length text ≤ most_bytes) × (are_printable (tokens_in text) ≡ true)
    × (hold_dollar (tokens_in text) ≡ true)
BreaksText (rules.Ask A3) text =
    (length text ≤ most_bytes) × (are_printable (tokens_in text) ≡ true)
    × (hold_dollar (tokens_in text) ≡ false) × (is_incomplete (tokens_in text) ≡ true)
BreaksText rule text = ⊥

-- the first fault of the text as a proof of the statement under the profile: one of the text alone,
-- at step 0; else that of the proof that its tokens are
abbrev pub IsTextFault : Profile → (before : List Sentence) → Sentence → (text : List ℕ) → Rule
    → (step : ℕ) → Type 0
IsTextFault profile before s text rule step =
    ((step ≡ 0) × BreaksText rule text)
    ⊎ (IsProofText text
    × (broken : ProofRule) × (rule ≡ rules.Proof broken)
    × IsFaultUnder profile before s (tokens_in text) broken step)

-- the fault that a fault of the handed proof is answered with
abbrev pub text_fault : ProofFault → AskFault
text_fault (proof_faults.Rule rule step) = Text (rules.Proof rule) step
text_fault proof_faults.Memory = Memory

-- a theorem with the label, whose proof is complete, stands at this index
pub record IsTheorem (statements : List PlainStatement) (label : List ℕ) (index : ℕ)
    (s : PlainStatement) : Type 0 where
  pub there : slice_get statements index ≡ Some s
  pub named : IsLabelled label (sentence_of s)
  pub complete : is_proof s ≡ true

-- Why the text is not compared with the theorem's proof: a fault of the question, or else of the
-- text as a proof of the theorem under the profile.
abbrev pub IsSameFault : Profile → List PlainStatement → (label text : List ℕ) → AskFault → Type 0
IsSameFault profile statements label text (Text rule step) =
    (index : ℕ) × (s : PlainStatement) × IsTheorem statements label index s
    × IsTextFault profile (sentences (take index statements)) (sentence_of s) text rule step
IsSameFault profile statements label text fault = IsAskFault statements label fault
