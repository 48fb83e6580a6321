-- The number stands once.
use Rattle.std.proofs.Common.{List, ℕ, map, inl, inr, arith, ◌<◌, ◌/◌, length}
use Rattle.std.proofs.lemmas.List.{length-map}
use Rattle.std.proofs.lemmas.Option.{slice_get_within}
use Rattle.mm_base.proofs.Lists.{contains_from_at}
use Rattle.mm_frame.specs.declared.number.LabelId.{LabelId}
use Rattle.mm_axioms.proofs.ScratchWords.{index_put}
use Rattle.mm_axioms.proofs.rows.enter_index.Goals as goal

pub returns-in-Some-clause-entered : goal.returns-in-Some-clause-entered
returns-in-Some-clause-entered c =
    let ids : List ℕ = map (λ (l : LabelId). l.0) c.args.numbers.now in
    let at = c.in-Some.ensures.found in
    let less : c.in-Some.at / 64 < length c.args.set.now =
    (let within = slice_get_within ids c.in-Some.at c.args.number.0 at in let long = length-map
    c.args.numbers.now (λ (l : LabelId). l.0) in let width = c.requires.width in omega arith) in
    rw c.put.ensures
    (index_put c.args.set.now ids c.in-Some.at c.args.number.0 c.requires.rising at less)

pub returns-in-None-clause-entered : goal.returns-in-None-clause-entered
returns-in-None-clause-entered c k = (
  (λ h. inl h),
  λ h. elim h [
    | inl old ↦ old
    | inr at ↦ absurd
        (c.index_of.ensures.none c.in-None.is
        (contains_from_at (map (λ (l : LabelId). l.0) c.args.numbers.now) c.args.number.0 (k, at)))
  ],
)
