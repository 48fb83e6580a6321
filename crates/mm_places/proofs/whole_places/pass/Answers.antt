-- What the letter does to the number that is begun.
use Rattle.std.proofs.Common.{◌≡◌, ◌++◌, ◌∷◌, [], ℕ, Option, Some, subst, sym, arith}
use Rattle.mm_places.specs.Mirror.CodeWhole.{IsBegun}
use Rattle.mm_places.proofs.ProofPlaces.WholePlaces.{begun_last, begun_leading, begun_tag}
use Rattle.mm_places.proofs.whole_places.pass.Goals as goal
use Rattle.mm_places.proofs.whole_places.pass.Goals.{in_default-via-then-letter-lt65}
use Rattle.mm_places.proofs.whole_places.pass.Goals.{in_default-via-else-letter-lt65+else-letter-lt85+else-letter-lt90}

pub returns-in-65-to-84 : goal.returns-in-65-to-84
returns-in-65-to-84 c letters long begun =
    begun_last letters c.args.letter c.args.begun begun (omega (arith, c.in-65-to-84))
    (omega (arith, c.in-65-to-84))

pub returns-in-85-to-89 : goal.returns-in-85-to-89
returns-in-85-to-89 c letters long begun =
    subst (λ (n : ℕ). IsBegun (letters ++ c.args.letter ∷ []) (Some n)) (sym c.unwrap_or.ensures)
    (begun_leading letters c.args.letter c.args.index c.args.begun long begun
    (omega (arith, c.in-85-to-89), omega (arith, c.in-85-to-89)))

pub returns-in-None : goal.returns-in-None
returns-in-None c letters long begun =
    let is : c.args.letter ≡ 90 = elim c.in_default.branch [
      | in_default-via-then-letter-lt65 w ↦ omega (arith, c.requires)
      | in_default-via-else-letter-lt65+else-letter-lt85+else-letter-lt90 w ↦
          omega (arith, c.requires)
    ] in
    begun_tag letters c.args.letter
    (subst (λ (b : Option ℕ). IsBegun letters b) c.in-None.is begun) is
