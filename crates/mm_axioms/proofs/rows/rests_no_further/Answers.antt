-- What the row of the assertion holds is in that of the theorem, and so is its own index.
use Rattle.std.proofs.Common.{◌≡◌, ℕ, List, map, slice_get, Some, true, sym, subst}
use Rattle.mm_frame.specs.declared.number.LabelId.{LabelId}
use Rattle.mm_axioms.specs.declared.bits.SetWord.{SetWord}
use Rattle.mm_axioms.specs.Mirror.Bits.{has_number}
use Rattle.mm_axioms.specs.Mirror.Rows.{row_in}
use Rattle.mm_axioms.proofs.Resting.RowNumbers.{rests_on_no_more}
use Rattle.mm_axioms.proofs.rows.rests_no_further.Goals as goal

pub returns-then-is_entered : goal.returns-then-is_entered
returns-then-is_entered c = λ uses told.
    let ids : List ℕ = map (λ (l : LabelId). l.0) c.args.numbers.now in
    let mine : List SetWord = row_in c.args.rows.now c.args.theorem.0 in
    let own = c.row-row.ensures.row in
    let other = c.row.ensures.row in
    let both = rests_on_no_more uses ids c.args.rows.now c.args.theorem.0 c.args.used.0 told in (
      (λ t. both.0 (
        (subst (λ (r : List SetWord). (k : ℕ) → slice_get ids k ≡ Some c.args.used.0
            → has_number r k ≡ true) own (c.is_entered.ensures.0 c.if-is_entered.true)),
        (subst (λ (r : List SetWord). (k : ℕ) → has_number r k ≡ true → has_number mine k ≡ true)
            other
            (subst (λ (r : List SetWord). (k : ℕ) → has_number c.row.result.now k ≡ true
            → has_number r k ≡ true) own (c.is_within.ensures.0 t))),
      )),
      λ further. c.is_within.ensures.1
          (subst (λ (r : List SetWord). (k : ℕ) → has_number r k ≡ true
          → has_number c.row-row.result.now k ≡ true) (sym other)
          (subst (λ (r : List SetWord). (k : ℕ)
          → has_number (row_in c.args.rows.now c.args.used.0) k ≡ true → has_number r k ≡ true)
          (sym own) (both.1 further).1)),
    )

pub returns-else-is_entered : goal.returns-else-is_entered
returns-else-is_entered c = λ uses told.
    let ids : List ℕ = map (λ (l : LabelId). l.0) c.args.numbers.now in
    let both = rests_on_no_more uses ids c.args.rows.now c.args.theorem.0 c.args.used.0 told in (
      (λ t. absurd (let f = c.if-is_entered.false in cc)),
      λ further. c.is_entered.ensures.1
          (subst (λ (r : List SetWord). (k : ℕ) → slice_get ids k ≡ Some c.args.used.0
          → has_number r k ≡ true) (sym c.row-row.ensures.row) (both.1 further).0),
    )
