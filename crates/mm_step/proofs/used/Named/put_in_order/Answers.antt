use Rattle.std.proofs.lemmas.Cmp.{nat_cmp_total, nat_eq_equiv, on_total, on_equiv}
use Rattle.std.proofs.lemmas.Bool.Decides.{nat_tests}
use Rattle.std.proofs.lemmas.List.Filters.{dedup_is}
use Rattle.std.proofs.lemmas.List.Kept.{Contains-dedup, Contains-from_dedup, IsStrictlySortedBy-dedup}
use Rattle.std.proofs.lemmas.List.Sorted.{Contains-permutation, IsPermutation-sym}
use Rattle.std.proofs.Common.{arith}
use Rattle.mm_frame.specs.declared.number.LabelId.{LabelId}
use Rattle.mm_step.proofs.ByNumbers.CalledAssertions.{numbers_rise, same_numbers}
use Rattle.mm_step.proofs.used.Named.put_in_order.Goals as goal

pub returns-clause-rising : goal.returns-clause-rising
returns-clause-rising c =
    let is = dedup_is _ _ _ c.dedup.ensures.filtered in
    numbers_rise _ (rw is (IsStrictlySortedBy-dedup (on_total (λ (x : LabelId). x.0) nat_cmp_total) (λ x y. grind (arith, nat_tests)) _ c.sort_unstable.ensures.sorted))

pub returns-clause-same : goal.returns-clause-same
returns-clause-same c =
    let is = dedup_is _ _ _ c.dedup.ensures.filtered in
    let moved = c.sort_unstable.ensures.permutation in
    same_numbers c.args.self.now.ids.items _
    (λ x h. rw is (Contains-dedup (on_equiv (λ (x : LabelId). x.0) nat_eq_equiv) (λ x y e. grind (arith, nat_tests)) _ x (Contains-permutation _ _ x moved h)))
    (λ x h. Contains-permutation _ _ x (IsPermutation-sym _ _ moved) (Contains-from_dedup _ _ x (rw is at h)))
