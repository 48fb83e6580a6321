use Rattle.std.proofs.Common.{sym, ◌∙◌}
use Rattle.mm_proof.proofs.ProofNumbers.Insertions.{any_contains}
use Rattle.mm_forms.proofs.PackedProofs.SubtreeNumbers.{fields_told}
use Rattle.mm_forms.proofs.subtree_set.SubtreeSet.has.Goals as goal

pub returns : goal.returns
returns c =
    let h = any_contains _ fields_told c.self.inside.set.keys c.args.tree in
    rw (← c.self.view_is) (λ e. h.0 (sym c.contains.ensures ∙ e), λ m. c.contains.ensures ∙ h.1 m)
