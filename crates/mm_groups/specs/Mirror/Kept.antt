-- What is kept of the labels of proofs. This file mirrors the code, and is cited by private contracts
-- alone.
use Rattle.std.specs.Prelude.{◌≡◌, List, [], ◌∷◌, map, Bool, true, false}
use Rattle.mm_code.specs.Layout.{texts}
use Rattle.mm_groups.specs.Shared.{Labels, shared_in}
use Rattle.mm_groups.specs.declared.shared.Shared.{Shared}

-- whether there is one
abbrev pub some_labels : List Labels → Bool
some_labels [] = false
some_labels (one ∷ others) = true

-- it has what these share, of which note was taken
pub record HasShared (each : List Labels) (shared : Shared) : Type 0 where
  pub begun : shared.begun ≡ some_labels each
  pub hypotheses : texts shared.hypotheses.items ≡ shared_in (map (λ l. l.hypotheses) each)
  pub names : texts shared.names.items ≡ shared_in (map (λ l. l.names) each)
