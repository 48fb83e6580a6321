use Rattle.std.proofs.Common.{sym, ap, ◌∙◌, is_some}
use Rattle.std.proofs.lemmas.Bool.{false≢true}
use Rattle.mm_proof.proofs.ProofNumbers.Insertions.{any_contains, index_there}
use Rattle.mm_forms.proofs.PackedProofs.SubtreeNumbers.{fields_told}
use Rattle.mm_forms.proofs.subtree_set.SubtreeSet.index.Goals as goal

pub returns-clause-there : goal.returns-clause-there
returns-clause-there c =
    rw (← c.self.view_is) (index_there _ fields_told _ c.args.tree c.in-Some.index (sym c.get_index_of.ensures.index ∙ c.in-Some.is))

pub unreachable-requires : goal.unreachable-requires
unreachable-requires c =
    let h = any_contains _ fields_told c.self.inside.set.keys c.args.tree in
    absurd (false≢true (sym (ap is_some c.in-None.is) ∙ c.get_index_of.ensures.found ∙ h.1 (rw (← c.self.view_is) at c.requires)))
