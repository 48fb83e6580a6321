use Rattle.std.proofs.Common.{◌≡◌, Some, slice_get, Contains, sym, ap, subst, ◌∙◌, is_some}
use Rattle.std.proofs.lemmas.Bool.{false≢true}
use Rattle.mm_proof.proofs.ProofNumbers.Insertions.{any_contains, index_there, numbers_told}
use Rattle.mm_proof.proofs.label_set.LabelSet.index.Goals as goal

pub returns-clause-there : goal.returns-clause-there
returns-clause-there c =
    subst (λ keys. slice_get keys c.in-Some.index ≡ Some c.args.id.0) c.self.view_is
    (index_there _ numbers_told c.self.inside.set.keys c.args.id.0 c.in-Some.index (sym c.get_index_of.ensures.index ∙ c.in-Some.is))

pub unreachable-requires : goal.unreachable-requires
unreachable-requires c =
    let h = any_contains _ numbers_told c.self.inside.set.keys c.args.id.0 in
    absurd (false≢true (sym (ap is_some c.in-None.is) ∙ c.get_index_of.ensures.found ∙ h.1 (subst (λ keys. Contains keys c.args.id.0) (sym c.self.view_is) c.requires)))
