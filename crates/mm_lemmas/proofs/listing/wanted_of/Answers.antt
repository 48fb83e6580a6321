-- What is told is of the source that was found, and saves enough.
use Rattle.std.proofs.Common.{◌≡◌, arith, subst, sym}
use Rattle.mm_lemmas.specs.declared.told.Source.{Source}
use Rattle.mm_lemmas.specs.Mirror.Listing.{AreNamesOf}
use Rattle.mm_lemmas.proofs.listing.wanted_of.Goals as goal

pub returns-in-Some-3 : goal.returns-in-Some-3
returns-in-Some-3 c =
    let same : c.in-Some-3.told.source ≡ c.in-Some.source =
    rw c.in-Some-3.is at c.in_ok-told.ensures in
    let saves = c.if-branch-least.true in (
      omega (arith, saves),
      λ statements reads. subst (λ (s : Source). AreNamesOf statements c.args.before s) (sym same)
          (c.in-Some.ensures statements reads),
    )
