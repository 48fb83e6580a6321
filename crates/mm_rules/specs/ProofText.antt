-- A text that is handed in as a proof: its tokens, where they end, and what is wrong with it (the
-- Metamath book, sections 4.1.1, 4.1.2, 4.3 and 4.4.1). Comments are those of a file. That the `$=`
-- before a proof and the `$.` behind it may stand in the text too is this project's own.
use Rattle.std.specs.Prelude.{ℕ, List, [], ◌∷◌, length, if◌then◌else◌, codes, Option, Some, None}
use Rattle.std.specs.Prelude.{option_map}
use Rattle.mm_base.specs.Spelling.{spells}
use Rattle.mm_base.specs.Token.{PlainToken}
use Rattle.mm_text.specs.Items.{holds_dollar}
use Rattle.mm_text.specs.Shown.{clear_tokens, first_broken, shown_in}
use Rattle.mm_text.specs.declared.fault.TextRule.{TextRule}
use Rattle.mm_text.specs.declared.fault.TextRule.TheVariants.{X9}
use Rattle.mm_code.specs.Words.{texts_of}

-- the tokens without the first one, if that is `$=`
abbrev pub behind_equals : List PlainToken → List PlainToken
behind_equals [] = []
behind_equals (t ∷ tokens) = if spells t.text (codes "$=") then tokens else t ∷ tokens

-- the tokens without the last one, if that is `$.`
abbrev pub before_stop : List PlainToken → List PlainToken
before_stop [] = []
before_stop (t ∷ []) = if spells t.text (codes "$.") then [] else t ∷ []
before_stop (t ∷ u ∷ tokens) = t ∷ before_stop (u ∷ tokens)

-- where the proof ends: at the last token, if that is `$.`, else at the end of so many bytes
abbrev pub end_before : (size : ℕ) → List PlainToken → ℕ
end_before size [] = size
end_before size (t ∷ []) = if spells t.text (codes "$.") then t.at else size
end_before size (t ∷ u ∷ tokens) = end_before size (u ∷ tokens)

-- the tokens of the text outside comments, without a `$=` that begins it
abbrev pub begun_tokens : List ℕ → List PlainToken
begun_tokens text = behind_equals (clear_tokens (shown_in text))

-- those of the proof, and where it ends
unfoldable pub proof_tokens : List ℕ → List PlainToken
proof_tokens text = before_stop (begun_tokens text)

unfoldable pub proof_end : List ℕ → ℕ
proof_end text = end_before (length text) (begun_tokens text)

-- the bytes of these tokens
abbrev pub proof_words : List ℕ → List (List ℕ)
proof_words text = texts_of (proof_tokens text)

-- the first token that holds a `$`
abbrev pub first_dollar : List PlainToken → Option PlainToken
first_dollar [] = None
first_dollar (t ∷ tokens) = if holds_dollar t.text then Some t else first_dollar tokens

-- a fault of the bytes or the comments, if there is one; else X9 at a token that holds a `$`
abbrev pub fault_or_dollar : Option (TextRule × PlainToken) → (dollar : Option PlainToken)
    → Option (TextRule × PlainToken)
fault_or_dollar (Some fault) dollar = Some fault
fault_or_dollar None dollar = option_map (λ t. (X9, t)) dollar

-- the rule that the text breaks, and the token at which it does: the first one of X1 to X4, by its
-- bytes and comments; else X9 at the first token of the proof that holds a `$`
unfoldable pub broken_in : List ℕ → Option (TextRule × PlainToken)
broken_in text =
    fault_or_dollar (first_broken (shown_in text)) (first_dollar (proof_tokens text))
