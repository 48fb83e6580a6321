use Rattle.std.proofs.Common.{rules, subst}
use Rattle.mm_forms.specs.Mirror.Subtrees.{KeepNumbers}
use Rattle.mm_forms.proofs.PackedProofs.SubtreeNumbers.{once_of_distinct, kept_inserted}
use Rattle.mm_forms.proofs.subtrees.Subtrees.number.Goals as goal

pub invariant_of-self-2 : goal.invariant_of-self-2
invariant_of-self-2 c = once_of_distinct _ (λ r. search rules) c.insert_full.new.self.keys c.insert_full.ensures.unique

pub returns-clause-kept : goal.returns-clause-kept
returns-clause-kept c =
    subst (λ rows. KeepNumbers rows c.insert_full.new.self.keys) c.self.view_is
    (kept_inserted _ c.args.row c.self.inside.rows.keys c.insert_full.new.self.keys c.in_ok-index.ensures.keys)

pub returns-clause-once : goal.returns-clause-once
returns-clause-once c = once_of_distinct _ (λ r. search rules) c.insert_full.new.self.keys c.insert_full.ensures.unique
