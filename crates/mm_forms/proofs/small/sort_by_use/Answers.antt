use Rattle.std.proofs.Common.{rules}
use Rattle.std.proofs.lemmas.List.Sorted.{answers_always}
use Rattle.mm_forms.proofs.SmallProofs.UseLoops.{sorted_by_use}
use Rattle.mm_forms.proofs.small.sort_by_use.Goals as goal

pub returns-clause-ordered : goal.returns-clause-ordered
returns-clause-ordered c =
    sorted_by_use _ _ c.requires c.sort_unstable_by_key.ensures.sorted
    c.sort_unstable_by_key.ensures.permutation (answers_always _ _ _ (λ f a r g h. search rules))
