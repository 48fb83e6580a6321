-- What the code of `same` knows on its way. This file mirrors the code, and is cited by private
-- contracts alone.
use Rattle.std.specs.Prelude.{◌≡◌, ◌⊎◌, ℕ, ◌+◌, ◌-◌, ◌≤◌, List, ◌++◌}
use Rattle.std.specs.Prelude.{length, true, false}
use Rattle.std.specs.List.{sum_by}
use Rattle.mm_base.specs.MostBytes.{most_bytes}
use Rattle.mm_base.specs.Token.{PlainToken, tokens_from}
use Rattle.mm_code.specs.Words.{texts_of, tokens_in}
use Rattle.mm_rules.specs.declared.rule.AskRule.TheVariants.{A3}
use Rattle.mm_rules.specs.declared.rule.Rule.TheVariants as rules
use Rattle.mm_rules.specs.declared.rule.Rule.{Rule}
use Rattle.mm_rules.specs.declared.ask.AskFault.{AskFault}
use Rattle.mm_rules.specs.declared.ask.AskFault.TheVariants as ask
use Rattle.mm_rules.specs.Compared.{are_printable, hold_dollar, BreaksText}

-- the tokens of the prefix of a text, where those of the rest complete them
pub record ArePrefixTokens (text : List ℕ) (tokens : List PlainToken) (rest : List ℕ) : Type 0 where
  pub whole : tokens ++ tokens_from 0 (length text - length rest) rest ≡ tokens_from 0 0 text
  pub room : sum_by length (texts_of tokens) + length rest ≤ length text

-- the fault is one of the text alone, or a refused growth
abbrev pub IsIllegal : List ℕ → AskFault → Type 0
IsIllegal text fault =
    (fault ≡ ask.Memory) ⊎ ((rule : Rule) × BreaksText rule text × (fault ≡ ask.Text rule 0))

-- the text may be taken, and its tokens may stand in a proof, with unknown steps or without
pub record HasBareTokens (text : List ℕ) : Type 0 where
  pub taken : length text ≤ most_bytes
  pub printable : are_printable (tokens_in text) ≡ true
  pub plain : hold_dollar (tokens_in text) ≡ false

-- the first of the rules of a text that it breaks, where its steps may be unknown
abbrev pub BreaksTokens : Rule → (text : List ℕ) → Type 0
BreaksTokens (rules.Ask A3) text = ⊥
BreaksTokens rule text = BreaksText rule text

-- the fault is such a one, or a refused growth
abbrev pub HasNoBareTokens : List ℕ → AskFault → Type 0
HasNoBareTokens text fault =
    (fault ≡ ask.Memory) ⊎ ((rule : Rule) × BreaksTokens rule text × (fault ≡ ask.Text rule 0))
