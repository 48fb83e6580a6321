-- What faulty proofs share. One slip, as a lost `$}`, makes many proofs faulty, and what these share
-- leads to it: a hypothesis of their theorems, or a label that they name. That it is told is this
-- project's own.
use Rattle.std.specs.Prelude.{◌≡◌, ◌⊎◌, ℕ, ◌+◌, ◌-◌, ◌*◌, ◌<◌, ◌≤◌, if◌then◌else◌, List, [], ◌∷◌, ◌++◌}
use Rattle.std.specs.Prelude.{map, filter, length, slice_get, codes, decimal}
use Rattle.std.specs.Prelude.{Bool, false, not, Option, Some, None, option_map}
use Rattle.std.specs.List.{AllZip, flat_map, list_any, list_all, take_while}
use Rattle.std.specs.Option.{option_to_list}
use Rattle.std.specs.Str.{bytes_eq}
use Rattle.mm_base.specs.Spelling.{spells}
use Rattle.mm_base.specs.Statement.{PlainStatement, is_provable}
use Rattle.mm_text.specs.Files.{PlainFile}
use Rattle.mm_text.specs.Reading.{PlainFault, Reads}
use Rattle.mm_frame.specs.Frame.{AreMandatory}
use Rattle.mm_frame.specs.Sentence.{Sentence, sentence_of, is_essential}
use Rattle.mm_proof.specs.Tokens.{opening_token, closing_token, is_unknown}
use Rattle.mm_rules.specs.Verdict.{PlainRefusal, sentences, proof_of}

-- ---- the labels of one proof

-- the token is `)`
abbrev pub is_closing : List ℕ → Bool
is_closing token = spells token closing_token

-- the labels that a proof of these tokens names: the list of a compressed one, all of a normal one
abbrev pub named_labels : List (List ℕ) → List (List ℕ)
named_labels [] = []
named_labels (token ∷ tokens) =
    if spells token opening_token
    then take_while (λ t. not (is_closing t)) tokens
    else (token ∷ tokens)

-- the token stands for no unknown step
abbrev pub is_known : List ℕ → Bool
is_known token = not (is_unknown token)

-- the label of a `$p` and those that its proof names; none of another statement
abbrev pub labels_in : PlainStatement → List (List ℕ)
labels_in s =
    if is_provable s.kind
    then (option_to_list (option_map (λ t. t.text) s.label)
    ++ filter is_known (named_labels (proof_of s)))
    else []

-- These are the labels of the statement's essential hypotheses, in database order.
pub record AreEssentials (before : List Sentence) (s : Sentence)
    (labels : List (List ℕ)) : Type 0 where
  pub hypotheses : List Sentence
  pub mandatory : AreMandatory before s hypotheses
  pub listed : map Some labels ≡ map (λ h. h.label) (filter (λ h. is_essential h.kind) hypotheses)

-- the labels of a `$p`: of its essential hypotheses; and its own, with those that its proof names
pub record Labels : Type 0 where
  pub hypotheses : List (List ℕ)
  pub names : List (List ℕ)

pub record AreLabelsOf (before : List Sentence) (s : PlainStatement) (labels : Labels) : Type 0 where
  pub hypotheses : AreEssentials before (sentence_of s) labels.hypotheses
  pub names : labels.names ≡ labels_in s

-- they are those of the `$p` for the proof of which the files are refused
pub record AreLabelsAt (files : List PlainFile) (refusal : PlainRefusal)
    (labels : Labels) : Type 0 where
  pub before : List PlainStatement
  pub s : PlainStatement
  pub after : List PlainStatement
  pub ending : Option PlainFault
  pub reads : Reads files (before ++ s ∷ after) ending
  pub place : refusal.statement ≡ length before + 1
  pub are : AreLabelsOf (sentences before) s labels

-- ---- what several lists share

abbrev pub is_in : List (List ℕ) → (label : List ℕ) → Bool
is_in labels label = list_any (bytes_eq label) labels

-- the labels of the first list that are in each other list too, in order
abbrev pub shared_in : List (List (List ℕ)) → List (List ℕ)
shared_in [] = []
shared_in (labels ∷ others) = filter (λ label. list_all (λ o. is_in o label) others) labels

-- the last of them, if there is one
abbrev pub last_in : List (List ℕ) → Option (List ℕ)
last_in labels = slice_get labels (length labels - 1)

-- ---- how rare a label is

-- how often the label stands in a list
abbrev pub times_in : List (List ℕ) → (label : List ℕ) → ℕ
times_in labels label = length (filter (bytes_eq label) labels)

-- how often proofs name it; being its proof counts as naming it
abbrev pub times : List PlainStatement → (label : List ℕ) → ℕ
times statements label = times_in (flat_map labels_in statements) label

-- The label counts least of these, and less than the limit; it is the first such label.
pub record IsRarest (limit : ℕ) (count : List ℕ → ℕ) (labels : List (List ℕ))
    (label : List ℕ) : Type 0 where
  pub index : ℕ
  pub there : slice_get labels index ≡ Some label
  pub few : count label < limit
  pub first :
      (i : ℕ) (other : List ℕ) → slice_get labels i ≡ Some other → i < index
      → count label < count other
  pub least :
      (i : ℕ) (other : List ℕ) → slice_get labels i ≡ Some other → count label ≤ count other

-- that label; none, where each counts as much as the limit or more
abbrev pub IsRarestIn : (limit : ℕ) → (count : List ℕ → ℕ) → List (List ℕ) → Option (List ℕ)
    → Type 0
IsRarestIn limit count labels None =
    (i : ℕ) (other : List ℕ) → slice_get labels i ≡ Some other → limit ≤ count other
IsRarestIn limit count labels (Some label) = IsRarest limit count labels label

-- ---- the line

-- of how many proofs at least it is told what they share
abbrev pub fewest_of_group : ℕ
fewest_of_group = 3

abbrev pub hypothesis_line : (count : ℕ) → (label : List ℕ) → List ℕ
hypothesis_line count label =
    codes "all " ++ decimal count ++ codes " faulty proofs have the hypothesis " ++ label
    ++ codes "\n"

-- own: whether one of the proofs is that of the label
abbrev pub named_line : (count : ℕ) → (label : List ℕ) → (own : Bool) → List ℕ
named_line count label own =
    codes "all " ++ decimal count ++ codes " faulty proofs name " ++ label
    ++ (if own then codes " or prove it\n" else codes "\n")

abbrev pub is_same : (label : List ℕ) → Option (List ℕ) → Bool
is_same label None = false
is_same label (Some own) = bytes_eq own label

-- the files are refused for the proof of the label
abbrev pub is_of_label : (label : List ℕ) → PlainRefusal → Bool
is_of_label label refusal = is_same label refusal.label

abbrev pub line_of_named : List PlainRefusal → Option (List ℕ) → List ℕ
line_of_named refusals None = []
line_of_named refusals (Some label) =
    named_line (length refusals) label (list_any (is_of_label label) refusals)

-- The line of the rarest of the labels that the proofs name, if fewer other proofs name it than are
-- refused: each of these names it, so that is less than twice as often as they are many.
pub record TellsNamed (files : List PlainFile) (refusals : List PlainRefusal)
    (names : List (List ℕ)) (line : List ℕ) : Type 0 where
  pub statements : List PlainStatement
  pub ending : Option PlainFault
  pub reads : Reads files statements ending
  pub label : Option (List ℕ)
  pub rarest : IsRarestIn (2 * length refusals) (times statements) names label
  pub said : line ≡ line_of_named refusals label

-- the line of the last shared hypothesis, or else of what the proofs name
abbrev pub TellsLabel : List PlainFile → List PlainRefusal → (hypothesis : Option (List ℕ))
    → (names : List (List ℕ)) → (line : List ℕ) → Type 0
TellsLabel files refusals None names line = TellsNamed files refusals names line
TellsLabel files refusals (Some label) names line =
    line ≡ hypothesis_line (length refusals) label

-- The line says what the proofs share for which the files are refused; it is empty, where it isn't
-- told.
abbrev pub IsSharedLine : List PlainFile → List PlainRefusal → (line : List ℕ) → Type 0
IsSharedLine files refusals line =
    ((length refusals < fewest_of_group) × (line ≡ []))
    ⊎ ((fewest_of_group ≤ length refusals)
    × (each : List Labels) × AllZip (AreLabelsAt files) refusals each
    × TellsLabel files refusals (last_in (shared_in (map (λ l. l.hypotheses) each)))
    (shared_in (map (λ l. l.names) each)) line)
