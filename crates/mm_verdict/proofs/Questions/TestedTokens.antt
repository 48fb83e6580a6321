-- A test of each token of a text.
use Rattle.std.proofs.Common.{◌≡◌, ℕ, ◌<◌, Bool, false, List, map}
use Rattle.std.proofs.Common.{length, get_or, ap, ◌∙◌, arith}
use Rattle.std.specs.List.{list_all}
use Rattle.std.proofs.lemmas.List.{length-map, get_or-map}
use Rattle.std.proofs.lemmas.List.Folds.{list_all_at}

-- ==== a test of each token

pub all_fail : {T X : Type 0} (f : T → X) (p : X → Bool) (ts : List T) (i : ℕ) (d : T)
    → i < length ts → p (f (get_or ts i d)) ≡ false → list_all p (map f ts) ≡ false
all_fail f p ts i d less one =
    list_all_at p (map f ts) i (f d) (omega (arith, length-map ts f))
    (ap p (get_or-map f ts i d (f d) less) ∙ one)
