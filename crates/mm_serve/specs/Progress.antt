-- The line that tells how far a long reply has come.
use Rattle.std.specs.Prelude.{◌≡◌, ℕ, ◌%◌, List, ◌++◌, codes, decimal, ◌⊎◌}
use Rattle.mm_verdict.specs.declared.watch.SoFar.{SoFar}
use Rattle.mm_serve.specs.declared.progress_line.TheConstants.{THEOREMS_A_LINE}

-- what the line says: how many theorems of how many were tried, and how many bytes were saved
abbrev pub progress_text : SoFar → List ℕ
progress_text so_far =
    (codes "\rmm: " ++ decimal so_far.theorems) ++ (codes " of " ++ decimal so_far.of)
    ++ (codes " theorems, " ++ decimal so_far.bytes) ++ codes " bytes saved"

-- it is written anew after so many theorems, and after the last one
abbrev pub IsTold : SoFar → Type 0
IsTold so_far = (so_far.theorems % THEOREMS_A_LINE ≡ 0) ⊎ (so_far.theorems ≡ so_far.of)
