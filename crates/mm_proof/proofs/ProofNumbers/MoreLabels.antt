-- Prefixes and lists of labels, with one more.
use Rattle.std.proofs.Common.{◌≡◌, ℕ, ◌+◌, List, [], ◌∷◌}
use Rattle.std.proofs.Common.{◌++◌, length, take, ap, ◌∙◌}
use Rattle.std.proofs.Common.{◌<◌, get_or}
use Rattle.std.proofs.lemmas.List.{map-append, take_more}
use Rattle.mm_frame.specs.declared.hypothesis.Hypothesis.{Hypothesis}
use Rattle.mm_step.specs.Plain.{label_ids}

-- ==== what is known of the labels and the codes of the steps so far

-- ---- a prefix with one more

pub one_more : {X : Type 0} (xs : List X) (i : ℕ) (d x : X) → i < length xs → get_or xs i d ≡ x → take (i + 1) xs ≡ take i xs ++ x ∷ []
one_more xs i d x less is = take_more xs i d less ∙ ap (λ y. take i xs ++ y ∷ []) is

pub label_ids-more : (hypotheses : List Hypothesis) (h : Hypothesis) → label_ids (hypotheses ++ h ∷ []) ≡ label_ids hypotheses ++ h.id.0 ∷ []
label_ids-more hypotheses h = map-append (λ (i : Hypothesis). i.id.0) hypotheses (h ∷ [])
