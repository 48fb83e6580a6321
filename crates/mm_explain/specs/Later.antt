-- Where the label that breaks P2 is stated: further down, if a later statement has it. The fact is
-- this project's own.
use Rattle.std.specs.Prelude.{◌≡◌, ℕ, List, [], map, find, slice_get, Option, Some, None}
use Rattle.std.specs.List.{flat_map}
use Rattle.std.specs.Option.{option_to_list}
use Rattle.std.specs.Str.{bytes_eq}
use Rattle.mm_base.specs.Token.{PlainToken}
use Rattle.mm_base.specs.Statement.{PlainStatement}
use Rattle.mm_text.specs.Files.{PlainFile}
use Rattle.mm_frame.specs.Sentence.{Sentence}
use Rattle.mm_step.specs.declared.fault.ProofRule.{ProofRule}
use Rattle.mm_step.specs.declared.fault.ProofRule.TheVariants.{P2}
use Rattle.mm_places.specs.WholePlaces.{IsUnknownLabel, IsFirstLabel}
use Rattle.mm_facts.specs.Explained.{Detail, judged_tokens, stated_later_at}
use Rattle.mm_rules.specs.Places.{token_place}

-- The label at which a proof of these tokens, whose first fault is by the rule, breaks P2; none
-- where that is another rule.
abbrev pub IsUnknownIn : (before : List Sentence) → (tokens : List (List ℕ)) → ProofRule
    → Option (List ℕ) → Type 0
IsUnknownIn before tokens P2 None = ⊥
IsUnknownIn before tokens P2 (Some label) =
    (token : ℕ) × IsFirstLabel (IsUnknownLabel before) (judged_tokens tokens) token
    × (slice_get tokens token ≡ Some label)
IsUnknownIn before tokens rule label = label ≡ None

-- the first of the labels that is this one
abbrev pub first_stated : (label : List ℕ) → (labels : List (Option PlainToken)) → Option PlainToken
first_stated label labels = find (λ t. bytes_eq t.text label) (flat_map option_to_list labels)

-- where the label is stated first among later statements, if it is stated there
abbrev pub stated_later : List PlainFile → (label : Option (List ℕ)) → (later : List PlainStatement)
    → List Detail
stated_later files None later = []
stated_later files (Some label) later =
    map (λ t. stated_later_at (token_place files t))
    (option_to_list (first_stated label (map (λ s. s.label) later)))
