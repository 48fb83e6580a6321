-- The proofs stand once each, so what is found is all that is kept of the number.
use Rattle.std.proofs.Common.{◌≡◌, List, Some, slice_get, refl, arith}
use Rattle.std.proofs.lemmas.List.{length-map}
use Rattle.std.proofs.lemmas.Option.{slice_get_within}
use Rattle.mm_rules.specs.Conclusion.{ProofUses, numbers_of}
use Rattle.mm_rules.proofs.KeptNumbers.KeptUses.{uses_found, uses_missed}
use Rattle.mm_rules.proofs.kept.Kept.used_by.Goals as goal

pub used-requires : goal.used-requires
used-requires c =
    let uses : List ProofUses = c.args.self.now in
    let at : slice_get (numbers_of uses) c.in-Some.at ≡ Some c.args.id.0 = c.in-Some.ensures.found in
    let within = slice_get_within (numbers_of uses) c.in-Some.at c.args.id.0 at in
    omega (arith, within, length-map uses (λ (u : ProofUses). u.number))

pub returns-in-Some : goal.returns-in-Some
returns-in-Some c =
    uses_found c.args.self.now c.args.id.0 c.in-Some.at c.requires c.in-Some.ensures.found _
    c.used.ensures

pub returns-in-None : goal.returns-in-None
returns-in-None c = uses_missed c.args.self.now c.args.id.0 _ refl (c.index_of.ensures.none c.in-None.is)
