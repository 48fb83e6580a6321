-- What the code knows of a theorem that it reads again. This file mirrors the code, and is cited by
-- private contracts alone.
use Rattle.std.specs.Prelude.{◌≡◌, ℕ, List}
use Rattle.mm_frame.specs.Sentence.{Sentence}
use Rattle.mm_step.specs.Moves.{Move}
use Rattle.mm_proof.specs.Parsed.{OfProof, SaySteps}
use Rattle.mm_listing.specs.Listing.{ListedStep, AreListed}
use Rattle.mm_render.specs.Shown.{listing_text}

-- the same, where the tokens break no rule that is judged over the whole proof
abbrev pub SayWholeSteps : List Sentence → (id : ℕ) → (tokens : List (List ℕ)) → List (Move ℕ)
    → Type 0
SayWholeSteps statements id tokens steps =
    OfProof statements id (λ index s. SaySteps statements index s tokens steps)

-- the text is that of the listing of the moves
abbrev pub IsListingOf : (before : List Sentence) → List (Move (List ℕ)) → List ℕ → Type 0
IsListingOf before moves text =
    (steps : List ListedStep) × AreListed before moves steps × (text ≡ listing_text steps)
