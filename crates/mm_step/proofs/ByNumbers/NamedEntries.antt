-- The names of the symbols of entries, with one entry more.
use Rattle.std.proofs.Common.{◌≡◌, ℕ, List, [], ◌∷◌, ◌++◌}
use Rattle.std.proofs.lemmas.List.{map-append}
use Rattle.mm_frame.specs.Sentence.{Sentence}
use Rattle.mm_step.specs.Mirror.CodeVerify.{names_at}
use Rattle.mm_step.specs.Mirror.CodeVerify.{all_names_at}

pub named_push : (st : List Sentence) (entries : List (List ℕ)) (e : List ℕ) → all_names_at st (entries ++ e ∷ []) ≡ all_names_at st entries ++ names_at st e ∷ []
named_push st entries e = map-append (names_at st) entries (e ∷ [])
