-- The reply to a command: its text and its status, which are this project's own.
use Rattle.std.specs.Prelude.{◌≡◌, ℕ, ◌<◌, ◌≤◌, List, [], ◌∷◌, ◌++◌, length}
use Rattle.std.specs.Prelude.{true, false, None, Some}
use Rattle.std.specs.Prelude.{◌⊎◌, codes}
use Rattle.mm_base.specs.MostBytes.{most_bytes}
use Rattle.mm_base.specs.Token.{PlainToken}
use Rattle.mm_text.specs.Files.{PlainFile}
use Rattle.mm_text.specs.declared.fault.LoadRule.TheVariants.{F3}
use Rattle.mm_text.specs.declared.fault.TextRule.{TextRule}
use Rattle.mm_frame.specs.Sentence.{Sentence}
use Rattle.mm_step.specs.declared.fault.ProofRule.{ProofRule}
use Rattle.mm_proof.specs.Tokens.{is_incomplete}
use Rattle.mm_proof.specs.UnderProfile.{IsProvedUnder, IsPrefixAllowedUnder}
use Rattle.mm_step.specs.declared.profile.Profile.TheVariants.{Lenient}
use Rattle.mm_rules.specs.declared.rule.Rule.TheVariants as rules
use Rattle.mm_rules.specs.declared.rule.AskRule.TheVariants.{A3}
use Rattle.mm_rules.specs.declared.ask.AskFault.TheVariants as ask
use Rattle.mm_rules.specs.ProofText.{broken_in, proof_tokens, proof_words}
use Rattle.mm_verdict.specs.Alone.{HasProofTokens}
use Rattle.mm_facts.specs.Explained.{Detail, IsTokensFault, AreDetails, AreLeftOver, details_text}
use Rattle.mm_facts.specs.Explained.{token_at_fault}
use Rattle.mm_explain.specs.Why.{IsTextPlace, head_at}
use Rattle.mm_verdict.specs.Reply.{IsAskReply, line_with}

-- the text begins with these lines, which the text of the facts follows
abbrev pub IsExplained : (lines : List ℕ) → List Detail → (text : List ℕ) → Type 0
IsExplained lines details text = text ≡ lines ++ details_text details

-- The text in a file is at fault itself: the line of its fault, and what explains it: the first line,
-- with the place in that file, and the token there.
pub record IsTextFault (proof : PlainFile) (text : List ℕ) (status : ℕ) : Type 0 where
  pub taken : length proof.bytes ≤ most_bytes
  pub rule : TextRule
  pub token : PlainToken
  pub broken : broken_in proof.bytes ≡ Some (rule, token)
  pub line : List ℕ
  pub told : IsAskReply (ask.Text (rules.Text rule) 0) [] line status
  pub said : IsExplained
      (line ++ head_at (proof ∷ []) 0 token.at (rules.Text rule) None 0)
      (token_at_fault token.text ∷ []) text

-- The proof in the text, or what is known of it where it is incomplete, is at fault as one of the
-- `$p`: the line of the first fault, and what explains it: the first line, with the place in that
-- file, and the facts.
pub record IsTriedFault (proof : PlainFile) (before : List Sentence) (s : Sentence)
    (text : List ℕ) (status : ℕ) : Type 0 where
  pub rule : ProofRule
  pub step : ℕ
  pub fault : IsTokensFault Lenient before s (proof_words proof.bytes) rule step
  pub line : List ℕ
  pub told : IsAskReply (ask.Text (rules.Proof rule) step) [] line status
  pub at : ℕ
  pub place : IsTextPlace Lenient before s proof.bytes rule step at
  pub details : List Detail
  pub explained : AreDetails (proof ∷ []) Lenient before s (proof_tokens proof.bytes) rule step
      details
  pub said : IsExplained
      (line ++ head_at (proof ∷ []) 0 at (rules.Proof rule) None step) details text

-- Its tokens are incomplete, and their known prefix breaks no rule: the line of that, and what the
-- prefix leaves on the stack.
pub record IsTriedPrefix (proof : PlainFile) (before : List Sentence) (s : Sentence)
    (text : List ℕ) (status : ℕ) : Type 0 where
  pub incomplete : is_incomplete (proof_words proof.bytes) ≡ true
  pub allowed : IsPrefixAllowedUnder Lenient before s (proof_words proof.bytes)
  pub line : List ℕ
  pub told : IsAskReply (ask.Text (rules.Ask A3) 0) [] line status
  pub details : List Detail
  pub left : AreLeftOver (proof ∷ []) Lenient before s (proof_tokens proof.bytes) details
  pub said : IsExplained line details text

-- the reply what the tokens of the text in a file are as a proof of the `$p`
abbrev pub IsTokensReply : (proof : PlainFile) → (before : List Sentence) → Sentence → List ℕ → ℕ
    → Type 0
IsTokensReply proof before s text status =
    ((is_incomplete (proof_words proof.bytes) ≡ false)
    × IsProvedUnder Lenient before s (proof_words proof.bytes)
    × (text ≡ line_with (codes "proof") []) × (status ≡ 0))
    ⊎ (IsTriedPrefix proof before s text status
    ⊎ IsTriedFault proof before s text status)

-- the reply where the text in a file has no tokens of a proof: it is too long, or at fault itself
abbrev pub IsUntried : (proof : PlainFile) → List ℕ → ℕ → Type 0
IsUntried proof text status =
    ((most_bytes < length proof.bytes) × IsAskReply (ask.Text (rules.Load F3) 0) [] text status)
    ⊎ IsTextFault proof text status

-- the reply whether the text in a file is a proof of the `$p`
abbrev pub IsTryReply : (proof : PlainFile) → (before : List Sentence) → Sentence → List ℕ → ℕ
    → Type 0
IsTryReply proof before s text status =
    IsUntried proof text status
    ⊎ (HasProofTokens proof.bytes × IsTokensReply proof before s text status)
