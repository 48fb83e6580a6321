-- The index that is found is one of the proofs.
use Rattle.std.proofs.Common.{List, arith}
use Rattle.std.proofs.lemmas.List.{length-map}
use Rattle.std.proofs.lemmas.Option.{slice_get_within}
use Rattle.mm_rules.specs.Conclusion.{ProofUses, numbers_of}
use Rattle.mm_minimize.proofs.library_search.LibrarySearch.rests.Goals as goal

pub used-requires : goal.used-requires
used-requires c =
    let uses : List ProofUses = c.args.self.now.kept.now in
    let within = slice_get_within (numbers_of uses) c.in-Some.at _ c.in-Some.ensures.found in
    omega (arith, within, length-map uses (λ (u : ProofUses). u.number))
