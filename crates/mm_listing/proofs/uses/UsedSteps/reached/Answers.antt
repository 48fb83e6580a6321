use Rattle.std.proofs.Common.{◌≡◌, ℕ, ◌+◌, ◌-◌, ◌<◌, List, [], length, slice_get, Some, arith, refl}
use Rattle.std.proofs.Common.{vec_len, rules, ap, sym, subst, ◌∙◌}
use Rattle.std.proofs.lemmas.Bool.{false≢true}
use Rattle.std.proofs.lemmas.List.{length-map}
use Rattle.std.proofs.lemmas.Option.{slice_get_read, none-some}
use Rattle.mm_listing.specs.Uses.{rows_of}
use Rattle.mm_listing.proofs.Machines.ReachedSteps.{HasReached, reached_roots, reached_skipped}
use Rattle.mm_listing.proofs.Machines.ReachedSteps.{reached_more, reached_all, row_there, row_among}
use Rattle.mm_listing.proofs.Machines.ReachedSteps.{flag_read}
use Rattle.mm_listing.proofs.uses.UsedSteps.reached.Goals.{After-deref-then-index}
use Rattle.mm_listing.proofs.uses.UsedSteps.reached.Goals as goal

pub loop-index-init : goal.loop-index-init
loop-index-init c =
    let uses = c.args.self.now.uses in
    let long : vec_len uses ≡ length uses.items = search rules in
    let rows : length (rows_of uses.items) ≡ length uses.items =
    length-map uses.items (λ l. l.items) in
    let all : length (rows_of uses.items) ≡ c.len-index.result =
    rows ∙ sym long ∙ sym c.len-index.ensures in
    let roots = c.args.self.now.roots.items in
    subst (HasReached roots (rows_of uses.items) _) all
    (reached_roots roots (rows_of uses.items) c.args.self.now.earlier c.unmark.new.marks.items _
    (c.in_ok-unmark.ensures.long ∙ c.len.ensures ∙ long ∙ sym rows)
    (λ index is. let m = (c.in_ok-unmark.ensures.none []).named index is in
    absurd (none-some _ m.3))
    (rw c.deref.ensures.value at c.reach.ensures))

pub loop-index-preserved : goal.loop-index-preserved
loop-index-preserved c =
    let roots = c.args.self.now.roots.items in
    let uses = c.args.self.now.uses in
    let rows = rows_of uses.items in
    let flags = c.loop-index.reached.items in
    let index = c.loop-index.index - 1 in
    let long : vec_len uses ≡ length uses.items = search rules in
    let many : length rows ≡ length uses.items = length-map uses.items (λ l. l.items) in
    let next : c.loop-index.index ≡ index + 1 = omega (arith, c.loop-index-test.true) in
    let within : index < length flags = omega (
      arith,
      next,
      c.loop-index.invariant.count,
      many,
      long,
      c.len-index.ensures,
      c.loop-index.auto.index,
    ) in
    let read = flag_read flags index c.index.result.now within c.index.ensures in
    reached_skipped roots rows c.args.self.now.earlier flags index
    (subst (HasReached roots rows flags) next c.loop-index.invariant)
    (λ is. false≢true (sym c.if-index.false ∙ sym read ∙ is))

-- the row that is at hand
row : (c : After-deref-then-index)
    → slice_get (rows_of c.args.self.now.uses.items) (c.loop-index.index - 1)
    ≡ Some c.deref-then-index.result.now
row c =
    let uses = c.args.self.now.uses in
    let long : vec_len uses ≡ length uses.items = search rules in
    let within : c.loop-index.index - 1 < length uses.items = omega (
      arith,
      c.loop-index-test.true,
      long,
      c.len-index.ensures,
      c.loop-index.auto.index,
    ) in
    row_there uses.items (c.loop-index.index - 1) c.index-then-index.result.now
    (slice_get_read uses.items _ (c.loop-index.index - 1) _ refl within c.index-then-index.ensures)
    ∙ ap (λ (l : List ℕ). Some l) (sym c.deref-then-index.ensures.value)

pub reach-requires-then-index : goal.reach-requires-then-index
reach-requires-then-index c =
    let flags = c.loop-index.reached.items in
    row_among (rows_of c.args.self.now.uses.items) flags (c.loop-index.index - 1)
    c.deref-then-index.result.now c.args.self.now.earlier c.loop-index.invariant.count (row c)

pub loop-index-preserved-then-index : goal.loop-index-preserved-then-index
loop-index-preserved-then-index c =
    let roots = c.args.self.now.roots.items in
    let uses = c.args.self.now.uses in
    let rows = rows_of uses.items in
    let flags = c.loop-index.reached.items in
    let index = c.loop-index.index - 1 in
    let next : c.loop-index.index ≡ index + 1 = omega (arith, c.loop-index-test.true) in
    let long : vec_len uses ≡ length uses.items = search rules in
    let many : length rows ≡ length uses.items = length-map uses.items (λ l. l.items) in
    let within : index < length flags = omega (
      arith,
      next,
      c.loop-index.invariant.count,
      many,
      long,
      c.len-index.ensures,
      c.loop-index.auto.index,
    ) in
    let read = flag_read flags index c.index.result.now within c.index.ensures in
    reached_more roots rows c.args.self.now.earlier flags c.reach-then-index.new.reached.items index
    c.deref-then-index.result.now (subst (HasReached roots rows flags) next c.loop-index.invariant)
    (read ∙ c.if-index.true) (row (goal.at.loop-index-preserved-then-index c).After-deref-then-index)
    c.reach-then-index.ensures

pub returns : goal.returns
returns c =
    let roots = c.args.self.now.roots.items in
    let rows = rows_of c.args.self.now.uses.items in
    let at : c.loop-index.index ≡ 0 = omega (arith, c.loop-index-test.false) in
    reached_all roots rows c.args.self.now.earlier c.loop-index.reached.items
    (subst (HasReached roots rows c.loop-index.reached.items) at c.loop-index.invariant)
