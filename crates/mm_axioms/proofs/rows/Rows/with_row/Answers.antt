-- One more row stands at the end, or none is needed.
use Rattle.std.proofs.Common.{◌≡◌, ◌≤◌, ◌+◌, ◌∙◌, List, ℕ, Vec, Global, length, ap, sym, subst}
use Rattle.std.proofs.Common.{arith}
use Rattle.mm_axioms.specs.declared.bits.SetWord.{SetWord}
use Rattle.mm_axioms.specs.Mirror.Bits.{words_from}
use Rattle.mm_axioms.specs.Mirror.Rows.{PlainRows, AreBounds, IsRowPut}
use Rattle.mm_axioms.proofs.RowBounds.{put_bounds, kept_bounds}
use Rattle.mm_axioms.proofs.rows.Rows.with_row.Goals as goal
use Rattle.mm_axioms.proofs.rows.Rows.with_row.Goals.{then-start-len+in_ok-pad+in_ok-push}
use Rattle.mm_axioms.proofs.rows.Rows.with_row.Goals.{else-start-len}

-- both facts of what is made
both : (c : goal.Joined-start-len)
    → AreBounds c.drain.new.out.items c.if-start-len.bounds.items
    × IsRowPut (record { words = c.self.inside.words.items; bounds = c.self.inside.bounds.items })
    c.args.number.0 (words_from 0 c.args.set.now)
    (record { words = c.drain.new.out.items; bounds = c.if-start-len.bounds.items })
both c =
    let words : List SetWord = c.self.inside.words.items in
    let new : List SetWord = c.drain.new.out.items in
    let bounds : List ℕ = c.self.inside.bounds.items in
    let number : ℕ = c.args.number.0 in
    let few : length bounds ≤ number + 1 = subst (λ (r : PlainRows). length r.bounds ≤ number + 1)
    (sym c.self.view_is) c.requires in
    let start : c.len-start.result ≡ length words = (let l = c.len-start.ensures in omega arith) in
    let end : c.len.result ≡ length new = (let l = c.len.ensures in omega arith) in
    elim c.if-start-len.branch [
      | then-start-len+in_ok-pad+in_ok-push w ↦
          put_bounds words (words_from 0 c.args.set.now) new bounds w.pad.new.bounds.items
          c.if-start-len.bounds.items number c.len-start.result w.len-then-start-len.result
          c.self.invariant few w.in_ok-pad.ensures start c.in_ok-drain.ensures.words
          (ap (λ (b : Vec ℕ Global). b.items) w.bounds-is ∙ w.in_ok-push.ensures.items)
          (let l = w.len-then-start-len.ensures in omega arith) c.in_ok-drain.ensures.row
      | else-start-len w ↦
          let same : length new ≤ length words = (let more = w.if-start-len.false in omega arith) in
          subst (λ (b : Vec ℕ Global). AreBounds new b.items
          × IsRowPut (record { words = words; bounds = bounds }) number
          (words_from 0 c.args.set.now) (record { words = new; bounds = b.items }))
          (sym w.bounds-is)
          (kept_bounds words (words_from 0 c.args.set.now) new bounds number c.self.invariant few
          c.in_ok-drain.ensures.words same)
    ]

pub invariant_of-result : goal.invariant_of-result
invariant_of-result c = (both c).0

pub returns-clause-put : goal.returns-clause-put
returns-clause-put c =
    subst (λ (r : PlainRows). IsRowPut r c.args.number.0 (words_from 0 c.args.set.now)
    (record { words = c.drain.new.out.items; bounds = c.if-start-len.bounds.items }))
    c.self.view_is (both c).1
