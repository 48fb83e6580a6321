-- Tokens and labels without where they lie in memory.
use Rattle.std.specs.Prelude.{ℕ, List, map}
use Rattle.mm_base.specs.declared.token.Token.{Token}
use Rattle.mm_frame.specs.declared.hypothesis.Hypothesis.{Hypothesis}
use Rattle.mm_frame.specs.declared.number.LabelId.{LabelId}

-- the bytes of the tokens
abbrev pub token_texts : List Token → List (List ℕ)
token_texts tokens = map (λ t. t.text.now) tokens

-- the numbers of labels
abbrev pub ids_in : List LabelId → List ℕ
ids_in ids = map (λ i. i.0) ids

-- the numbers of the labels of hypotheses
abbrev pub label_ids : List Hypothesis → List ℕ
label_ids hypotheses = map (λ h. h.id.0) hypotheses
