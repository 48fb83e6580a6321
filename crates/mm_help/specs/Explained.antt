-- Which rule `mm explain` is asked for, and what it prints.
use Rattle.std.specs.Prelude.{◌≡◌, ℕ, ◌-◌, ◌==◌, ◌||◌, List, [], ◌∷◌, length, slice_get, Contains}
use Rattle.std.specs.Prelude.{Option, None, Some, unwrap_or, if◌then◌else◌, codes, ◌++◌, nat_eq}
use Rattle.std.specs.Prelude.{Bool}
use Rattle.std.specs.Borrow.{Bor}
use Rattle.std.specs.List.{AllByRecursion, flat_map, join_by, slice_split, starts_with}
use Rattle.std.specs.Str.{bytes_eq, str_to_ascii_uppercase}
use Rattle.clap.specs.Words.{Text}
use Rattle.mm_help.specs.declared.rule_text.RuleText.{RuleText}
use Rattle.mm_help.specs.declared.texts.Texts.{Texts}
use Rattle.mm_words.specs.declared.stop.Stop.{Stop}
use Rattle.mm_words.specs.declared.stop.Stop.TheVariants.{Usage, Memory}

-- the rules of some chapters, in their order
abbrev pub rules_in : List (Bor (List RuleText)) → List RuleText
rules_in chapters = flat_map (λ chapter. chapter.now) chapters

-- ---- the code that words ask for

-- the words on one line, with a blank between two of them
abbrev pub line_of : List Text → Text
line_of words = join_by (λ word. word) (codes " ") words

-- the code that a reply names, by its words: the last but one of `no FILE LINE LABEL CODE STEP` and
-- of `limit FILE LINE LABEL CODE STEP`; the second of `load CODE`, of `ask CODE LABEL` and of
-- `text CODE STEP`; and `incomplete N` is of the rule A3, on asked proofs that are incomplete
abbrev pub code_in_reply : List Text → Option Text
code_in_reply [] = None
code_in_reply (first ∷ others) =
    if bytes_eq first (codes "no") || bytes_eq first (codes "limit")
    then slice_get (first ∷ others) (length others - 1)
    else if bytes_eq first (codes "load") || bytes_eq first (codes "ask")
    || bytes_eq first (codes "text")
    then slice_get others 0
    else if bytes_eq first (codes "incomplete") then Some (codes "A3") else None

-- the code that a line asks for: the one in the reply that it is, cut at each blank; of any other
-- line the line itself
abbrev pub asked_code : Text → Text
asked_code line = unwrap_or (code_in_reply (slice_split (λ b. b == 32) line)) line

-- The rule's code is the one that the words ask for, in capitals.
abbrev pub IsAskedFor : List Text → RuleText → Type 0
IsAskedFor words rule = rule.code.now ≡ str_to_ascii_uppercase (asked_code (line_of words))

-- ---- what is printed

-- the line is a refusal, pasted
abbrev pub is_refusal : Text → Bool
is_refusal line =
    starts_with nat_eq line (codes "no ") || starts_with nat_eq line (codes "limit ")

-- what is said after the text of the rule that a line asks for: after that of a refusal, how to see
-- the fault explained
abbrev pub advice_on : Text → List ℕ
advice_on line = if is_refusal line
    then codes "This is the rule; `mm why FILES..` explains the fault.\n" else []

-- This is the text of the rule that the words ask for, and what is said after it; without words,
-- the list of the codes.
abbrev pub IsExplanation : Texts → List Text → List ℕ → Type 0
IsExplanation texts [] text = text ≡ texts.codes.now
IsExplanation texts (word ∷ others) text =
    (rule : RuleText) × Contains (rules_in texts.chapters.now) rule
    × IsAskedFor (word ∷ others) rule
    × (text ≡ rule.text.now ++ advice_on (line_of (word ∷ others)))

-- The words ask for a rule that isn't there.
abbrev pub IsUnknownCode : Texts → List Text → Type 0
IsUnknownCode texts [] = ⊥
IsUnknownCode texts (word ∷ others) =
    AllByRecursion (λ rule. ¬ IsAskedFor (word ∷ others) rule) (rules_in texts.chapters.now)

-- why there is no explanation
abbrev pub IsExplanationFault : Texts → List Text → Stop → Type 0
IsExplanationFault texts asked (Usage text) = IsUnknownCode texts asked
IsExplanationFault texts asked Memory = Unit {0}
IsExplanationFault texts asked other = ⊥
