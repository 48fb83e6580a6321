-- The line of what is newly used is put, and the sizes are added.
use Rattle.std.proofs.Common.{ℕ, List, map, subst}
use Rattle.mm_frame.specs.declared.number.LabelId.{LabelId}
use Rattle.mm_minimize.specs.Mirror.Shortening.{AreNewlyUsed}
use Rattle.mm_minimize.proofs.ShorterTheorems.ShorterLists.{newly_in_range, sizes_added}
use Rattle.mm_minimize.proofs.shorter_list.Listing.push.Goals as goal

pub push_line-requires : goal.push_line-requires
push_line-requires c =
    let newly : List ℕ = map (λ (l : LabelId). l.0) c.in_ok-newly.newly.items in
    rw c.deref.ensures.value (newly_in_range c.args.shortening.now.checked.now c.args.both.now newly
    c.requires.may (subst (λ (us : List ℕ).
    AreNewlyUsed c.args.shortening.now.checked.now.files c.args.both.now.new.theorem.id.0 us newly)
    c.ids.ensures c.in_ok-newly.ensures))

pub returns : goal.returns
returns c =
    let newly : List ℕ = map (λ (l : LabelId). l.0) c.in_ok-newly.newly.items in
    record {
      newly = newly;
      are_new = subst (λ (us : List ℕ).
          AreNewlyUsed c.args.shortening.now.checked.now.files c.args.both.now.new.theorem.id.0 us
          newly) c.ids.ensures c.in_ok-newly.ensures;
      put = rw c.deref.ensures.value at c.in_ok-push_line.ensures;
      sums = sizes_added c.args.self.now.sums c.with-self.result c.of.result c.of-2.result _ _
          c.of.ensures.bytes c.of.ensures.steps c.of-2.ensures.bytes c.of-2.ensures.steps
          c.with-self.ensures;
    }
