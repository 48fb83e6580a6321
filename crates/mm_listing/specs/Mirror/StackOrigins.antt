-- What the code that tells where moves stop knows on its way: it mirrors the code.
use Rattle.std.specs.Prelude.{◌≡◌, ℕ, List, [], ◌∷◌, ◌++◌, take, length, slice_get, Some}
use Rattle.mm_frame.specs.Sentence.{Sentence}
use Rattle.mm_frame.specs.Rules.{AllMeant}
use Rattle.mm_step.specs.declared.fault.ProofRule.{ProofRule}
use Rattle.mm_step.specs.declared.fault.ProofFault.{ProofFault}
use Rattle.mm_step.specs.declared.fault.ProofFault.TheVariants as faults
use Rattle.mm_listing.specs.declared.origins.Stop.{Stop}
use Rattle.mm_listing.specs.declared.origins.Stop.TheVariants as stops
use Rattle.mm_listing.specs.declared.origins.Tracker.{Tracker}
use Rattle.mm_step.specs.Moves.{Move}
use Rattle.mm_step.specs.Proof.{IsWithin}
use Rattle.mm_step.specs.Steps.{AreNumberedMoves}
use Rattle.mm_listing.specs.Halted.{AreOrigins}
use Rattle.mm_step.specs.Mirror.CodeVerify.{all_names_at}
use Rattle.mm_step.specs.Mirror.CodeRun.{MayBeMade}
use Rattle.mm_proof.specs.Mirror.Judges.{HasJudged, BreaksRun}
use Rattle.mm_step.specs.Mirror.Sites.{ProofSite}

-- why the move after so many doesn't pass, where this is its fault
abbrev pub stop_after : ProofFault → ℕ → Stop
stop_after (faults.Rule rule step) passed = stops.Rule rule passed
stop_after faults.Memory passed = stops.Memory

-- the move after these doesn't pass: it breaks the rule, and as many are told to have passed
abbrev pub StopsAfter : ProofSite → List (Move ℕ) → Move ℕ → Stop → Type 0
StopsAfter site prefix move (stops.Rule rule passed) =
    (passed ≡ length prefix) × (step : ℕ) × BreaksRun site prefix move rule step
StopsAfter site prefix move stops.Memory = Unit {0}

-- so many of the moves passed, and the next one breaks the rule
pub record BreaksAfter (site : ProofSite) (moves : List (Move ℕ)) (rule : ProofRule)
    (passed : ℕ) : Type 0 where
  pub move : Move ℕ
  pub there : slice_get moves passed ≡ Some move
  pub step : ℕ
  pub broken : BreaksRun site (take passed moves) move rule step

-- these steps made the entries of the stack that the moves by numbers left, whatever names they
-- stand for
abbrev pub AreOriginsAt : (limit : ℕ) → List Sentence → (index : ℕ) → List (Move ℕ)
    → (stack : List (List ℕ)) → (origins : List ℕ) → Type 0
AreOriginsAt limit statements index prefix stack origins =
    (moves : List (Move (List ℕ))) → AreNumberedMoves statements prefix moves
    → AreOrigins (IsWithin limit) (take index statements) moves (all_names_at statements stack)
    origins

-- the moves are judged since the first state, and these steps made the entries of the stack
pub record HasTracked {S : Type 0} (stack kept : S → List (List ℕ)) (first now : Tracker S)
    (prefix : List (Move ℕ)) : Type 0 where
  pub same_origins : now.origins.ghost_name ≡ first.origins.ghost_name
  pub judged : HasJudged stack kept first.judge now.judge prefix
  pub made : let site = first.judge.table.now.site in
      AreOriginsAt site.limit site.statements site.index prefix
      (stack now.judge.store.now) now.origins.now.items

-- the move may be made after these, which stand for names, and the statements before the `$p` break
-- no rule of meaning
abbrev pub MayBeTracked : ProofSite → List (Move ℕ) → Move ℕ → Type 0
MayBeTracked site prefix move =
    MayBeMade site.statements site.index move
    × ((names : List (Move (List ℕ)))
    × AreNumberedMoves site.statements (prefix ++ move ∷ []) names)
    × AllMeant (take site.index site.statements)
