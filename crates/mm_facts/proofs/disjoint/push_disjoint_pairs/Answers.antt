-- What is told of the pairs in order is told of all.
use Rattle.std.proofs.Common.{sym, subst, length, ◌≡◌, slice_get, Some, List}
use Rattle.std.proofs.lemmas.Result.{on_ok_weaker}
use Rattle.mm_base.proofs.Lists.{contains_from_at}
use Rattle.mm_frame.specs.declared.distinct.DistinctPair.{DistinctPair}
use Rattle.mm_distinct.specs.InOrder.{AreInOrder}
use Rattle.mm_distinct.proofs.TurnedPairs.{holds_ordered}
use Rattle.mm_facts.specs.Mirror.Explaining.{IsPairWithin}
use Rattle.mm_facts.proofs.disjoint.push_disjoint_pairs.Goals as goal

pub push_each_pair-requires-clause-pairs : goal.push_each_pair-requires-clause-pairs
push_each_pair-requires-clause-pairs c = λ i p there.
    let st = c.args.book.now.statements in
    let count = length c.args.entries.now in
    let own : slice_get c.in_ok-ordered.ordered.items i ≡ Some p =
    subst (λ (ps : List DistinctPair). slice_get ps i ≡ Some p) c.deref.ensures.value there in
    holds_ordered c.args.pairs.now c.in_ok-ordered.ordered.items c.in_ok-ordered.ensures
    (λ q. IsPairWithin st count q)
    (λ j q at.
    let w = c.requires.pairs j q at in
    (w, record { x = w.y; y = w.x; first = w.second; second = w.first }))
    p (contains_from_at c.in_ok-ordered.ordered.items p (i, own))

pub returns : goal.returns
returns c =
    on_ok_weaker c.push_each_pair.result
    (λ added. (
      c.deref.result.now,
      subst (AreInOrder c.args.pairs.now) (sym c.deref.ensures.value) c.in_ok-ordered.ensures,
      added,
    ))
    c.push_each_pair.ensures
