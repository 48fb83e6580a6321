-- What the code of `minimize` knows on its way. This file mirrors the code, and is cited by private
-- contracts alone.
use Rattle.std.specs.Prelude.{◌≡◌, ℕ, List, false, take}
use Rattle.mm_frame.specs.Sentence.{Sentence}
use Rattle.mm_step.specs.declared.profile.Profile.{Profile}
use Rattle.mm_step.specs.Moves.{Move}
use Rattle.mm_forms.specs.Packing.{OfTree}
use Rattle.mm_forms.specs.Sharing.{HasSteps}
use Rattle.mm_step.specs.Profiles.{limit_of}
use Rattle.mm_proof.specs.ReadSteps.{ReadSteps}
use Rattle.mm_step.specs.Steps.{AreSteps}
use Rattle.mm_proof.specs.Verified.{OfMoves, ProvesUsing}
use Rattle.mm_render.specs.declared.forms.OwnProof.{OwnProof}
use Rattle.mm_render.specs.Forms.{IsSmallText}
use Rattle.mm_verdict.specs.Mirror.Theorems.{AreProvedSteps}

-- ---- shorter proofs

-- the steps prove the `$p` with this number under the profile, and these are the numbers of the
-- assertions of their tree
pub record AreHanded (profile : Profile) (statements : List Sentence) (id : ℕ) (steps : ReadSteps)
    (used : List ℕ) : Type 0 where
  pub usable : AreSteps statements id steps.moves
  pub proved : AreProvedSteps statements id steps
  pub whole : steps.prefix ≡ false
  pub uses : OfMoves statements id steps.moves (λ index s moves.
      ProvesUsing (limit_of profile) statements index s moves used)

-- the small proof of the tree that the steps of the theorem with this number make, and its size
pub record IsOwnProof (statements : List Sentence) (id : ℕ) (numbered : List (Move ℕ))
    (own : OwnProof) : Type 0 where
  pub text : OfMoves statements id numbered (λ index s moves. OfTree (take index statements) moves
      (λ t. IsSmallText (take index statements) s t own.text.items))
  pub steps : OfMoves statements id numbered (λ index s moves. OfTree (take index statements) moves
      (λ t. HasSteps (take index statements) s t own.steps))
