-- What is known of the next of the moves that a machine of this crate takes.
use Rattle.std.proofs.Common.{◌≡◌, ℕ, ◌<◌, ◌^◌, List, [], ◌∷◌, ◌++◌, length, take, slice_get, Some}
use Rattle.std.proofs.Common.{arith}
use Rattle.std.specs.List.{AllByRecursion}
use Rattle.std.proofs.lemmas.Option.{slice_get_within}
use Rattle.std.proofs.lemmas.List.{length-map, length-take-le}
use Rattle.mm_base.proofs.Lists.{all_at, zip_take}
use Rattle.mm_code.specs.declared.code.Code.{Code}
use Rattle.mm_step.specs.Moves.{Move}
use Rattle.mm_step.specs.Steps.{IsNumberedMove, AreNumberedMoves}
use Rattle.mm_step.specs.Mirror.CodeRun.{MayBeMade}
use Rattle.mm_step.specs.Mirror.Sites.{ProofSite}
use Rattle.mm_proof.specs.Mirror.CodeSteps.{code_move, code_moves}
use Rattle.mm_proof.proofs.ProofVerdicts.JudgedMoves.{first_up_to}
use Rattle.mm_listing.specs.Mirror.CodeLines.{MayBeListed}

module _ (site : ProofSite) (ids : List ℕ) (said : List Code)
    (usable : AllByRecursion (MayBeMade site.statements site.index) (code_moves ids said))
    (named : (names : List (Move (List ℕ)))
    × AreNumberedMoves site.statements (code_moves ids said) names)
    (at : ℕ) (move : Move ℕ) (there : slice_get (code_moves ids said) at ≡ Some move) where
  -- it may be made
  pub next_made : MayBeMade site.statements site.index move
  next_made = all_at (MayBeMade site.statements site.index) (code_moves ids said) at move usable there

  -- and the moves up to it stand for names
  pub next_named : (names : List (Move (List ℕ)))
      × AreNumberedMoves site.statements (take at (code_moves ids said) ++ move ∷ []) names
  next_named =
      let moves = code_moves ids said in
      let prefix = take at moves ++ move ∷ [] in (
        take (length prefix) named.0,
        rw (first_up_to moves at move there) at
            (zip_take (IsNumberedMove site.statements) moves named.0 (length prefix) named.1),
      )

  -- it may be listed, where numbers of steps fit 32 bits
  pub next_listed : length said < 2 ^ 32 → MayBeListed site (take at (code_moves ids said)) move
  next_listed room =
      let moves = code_moves ids said in
      let within = slice_get_within moves at move there in (
        next_made,
        next_named,
        omega (
          arith,
          within,
          length-map said (code_move ids),
          length-take-le at moves (omega (arith, within)),
          room,
        ),
      )
