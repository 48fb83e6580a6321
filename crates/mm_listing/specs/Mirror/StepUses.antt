-- What the code that tells what steps use knows on its way: it mirrors the code.
use Rattle.std.specs.Prelude.{◌≡◌, ℕ, ◌+◌, ◌-◌, ◌<◌, ◌≤◌, List, map, take, slice_get, Some, None}
use Rattle.std.specs.Prelude.{slice_index_or, length, Bool, true, false, Contains, ◌⊎◌, ◌↔◌}
use Rattle.mm_frame.specs.Sentence.{Sentence}
use Rattle.mm_frame.specs.Rules.{AllMeant}
use Rattle.mm_frame.specs.declared.hypothesis.Hypothesis.{Hypothesis}
use Rattle.mm_step.specs.declared.call.Call.{Call}
use Rattle.mm_step.specs.declared.call.Call.TheVariants as calls
use Rattle.mm_listing.specs.declared.lines.Line.{Line}
use Rattle.mm_listing.specs.declared.uses.Linker.{Linker}
use Rattle.mm_step.specs.Moves.{Move}
use Rattle.mm_step.specs.Proof.{IsWithin}
use Rattle.mm_proof.specs.Proof.{Prove}
use Rattle.mm_step.specs.Steps.{AreNumberedMoves}
use Rattle.mm_listing.specs.Uses.{AreSources, AreUses, AreLinked, IsReached, rows_of}
use Rattle.mm_proof.specs.Verified.{OfMoves}
use Rattle.mm_listing.specs.Mirror.CodeLines.{HasListed, MayBeListed}
use Rattle.mm_listing.specs.Mirror.StackOrigins.{AreOriginsAt}
use Rattle.mm_step.specs.Mirror.Sites.{ProofSite}

-- what the steps with these numbers stand for
abbrev pub sources_of : (sources origins : List ℕ) → List ℕ
sources_of sources origins = map (λ origin. slice_index_or sources (origin - 1) 0) origins

-- it is asked who gives the hypothesis at an index of what a label stands for
abbrev pub IsAskedOf : (essential : Bool) → Call → (index : ℕ) → Type 0
IsAskedOf false call index = Unit {0}
IsAskedOf true (calls.Hypothesis symbols) index = ⊥
IsAskedOf true (calls.Assertion signature) index =
    (h : Hypothesis) × (slice_get signature.hypotheses.now index ≡ Some h) × (h.typing ≡ None)

-- the step is one of the first so many
abbrev pub IsAmong : (count step : ℕ) → Type 0
IsAmong count step = (0 < step) × (step ≤ count)

-- each step stands for itself or an earlier one
abbrev pub AreNoLater : (sources : List ℕ) → Type 0
AreNoLater sources =
    (index source : ℕ) → slice_get sources index ≡ Some source → IsAmong (index + 1) source

-- each step uses earlier ones
abbrev pub AreEarlier : (rows : List (List ℕ)) → Type 0
AreEarlier rows =
    (index : ℕ) (row : List ℕ) (used : ℕ) → slice_get rows index ≡ Some row → Contains row used
    → IsAmong index used

-- the flags have those that were set, and those of the steps
abbrev pub AreSet : (old new : List Bool) → (used : List ℕ) → Type 0
AreSet old new used =
    (length new ≡ length old)
    × ((index : ℕ) → index < length old
    → IsReached new index ↔ (IsReached old index ⊎ Contains used (index + 1)))

-- these are what the steps stand for, whatever names the moves by numbers stand for
abbrev pub AreSourcesAt : List Sentence → List (Move ℕ) → List ℕ → Type 0
AreSourcesAt statements prefix sources =
    (moves : List (Move (List ℕ))) → AreNumberedMoves statements prefix moves
    → AreSources moves sources

-- these are the uses of their steps
abbrev pub AreUsesAt : (essential : Bool) → List Sentence → (index : ℕ) → List (Move ℕ)
    → List (List ℕ) → Type 0
AreUsesAt essential statements index prefix rows =
    (moves : List (Move (List ℕ))) → AreNumberedMoves statements prefix moves
    → AreUses essential (take index statements) moves rows

-- The moves are listed since the first state, these steps made the entries of the stack, this is
-- what each step stands for, and these are its uses.
pub record HasLinked {S : Type 0} (stack kept : S → List (List ℕ)) (first now : Linker S)
    (prefix : List (Move ℕ)) : Type 0 where
  pub same_origins : now.origins.ghost_name ≡ first.origins.ghost_name
  pub same_sources : now.sources.ghost_name ≡ first.sources.ghost_name
  pub same_uses : now.uses.ghost_name ≡ first.uses.ghost_name
  pub same_choice : now.essential ≡ first.essential
  pub listed : HasListed stack kept first.lister now.lister prefix
  pub made : let site = first.lister.judge.table.now.site in
      AreOriginsAt site.limit site.statements site.index prefix
      (stack now.lister.judge.store.now) now.origins.now.items
  pub resolved : let site = first.lister.judge.table.now.site in
      AreSourcesAt site.statements prefix now.sources.now.items
  pub no_later : AreNoLater now.sources.now.items
  pub used : let site = first.lister.judge.table.now.site in
      AreUsesAt first.essential site.statements site.index prefix (rows_of now.uses.now.items)
  pub earlier : AreEarlier (rows_of now.uses.now.items)

-- the move may be listed after these, and the statements before the `$p` break no rule of meaning
abbrev pub MayBeLinked : ProofSite → List (Move ℕ) → Move ℕ → Type 0
MayBeLinked site prefix move =
    MayBeListed site prefix move × AllMeant (take site.index site.statements)

-- the moves prove the `$p` with the number, and so their steps are linked
abbrev pub LinksProof : (limit : ℕ) → (essential : Bool) → List Sentence → (id : ℕ)
    → List (Move ℕ) → List Line → List (List ℕ) → (roots : List ℕ) → Type 0
LinksProof limit essential statements id steps lines rows roots =
    OfMoves statements id steps (λ index s moves.
    Prove (IsWithin limit) (take index statements) s moves
    × AreLinked essential statements (take index statements) moves lines rows roots)
