-- Its own index, and then its row.
use Rattle.std.proofs.Common.{◌≡◌, List, length, true, inl, inr, sym, subst, arith}
use Rattle.mm_axioms.specs.declared.bits.SetWord.{SetWord}
use Rattle.mm_axioms.specs.Mirror.Bits.{has_number}
use Rattle.mm_axioms.proofs.ScratchWords.{word_within}
use Rattle.mm_axioms.proofs.rows.enter.Goals as goal

pub join-requires : goal.join-requires
join-requires c = λ w among.
    let below = word_within c.row.result.now w (length c.args.numbers.now) c.row.ensures.words
    (λ k has. c.requires.narrow c.args.number.0 k
    (subst (λ (r : List SetWord). has_number r k ≡ true) c.row.ensures.row has)) among in
    let same = c.enter_index.ensures.length in
    let width = c.requires.width in
    omega arith

pub returns-clause-entered : goal.returns-clause-entered
returns-clause-entered c k =
    let joined = c.join.ensures.joined k in
    let entered = c.enter_index.ensures.entered k in
    let row = c.row.ensures.row in (
      (λ t. elim (joined.0 t) [
        | inl before ↦ elim (entered.0 before) [ inl old ↦ inl old | inr at ↦ inr (inl at) ]
        | inr has ↦ inr (inr (subst (λ (r : List SetWord). has_number r k ≡ true) row has))
      ]),
      λ t. joined.1 (elim t [
        | inl old ↦ inl (entered.1 (inl old))
        | inr reached ↦ elim reached [
          | inl at ↦ inl (entered.1 (inr at))
          | inr has ↦ inr (subst (λ (r : List SetWord). has_number r k ≡ true) (sym row) has)
        ]
      ]),
    )
