-- One more number was entered.
use Rattle.std.proofs.Common.{◌≤◌, ℕ, List, map, length, get_or, refl, subst, ◌∙◌}
use Rattle.std.proofs.lemmas.List.{take_all}
use Rattle.std.proofs.lemmas.Option.{slice_get-get_or}
use Rattle.mm_frame.specs.declared.number.LabelId.{LabelId}
use Rattle.mm_axioms.proofs.Resting.SettledTheorems.{IsRowOf, row_starts, row_more}
use Rattle.mm_axioms.proofs.rows.fill.Goals as goal

pub loop-number-init : goal.loop-number-init
loop-number-init c = (
  refl,
  row_starts c.args.rows.now (map (λ (l : LabelId). l.0) c.args.numbers.now) c.args.set.now _
      c.requires.empty,
)

pub loop-number-preserved : goal.loop-number-preserved
loop-number-preserved c =
    let used : List LabelId = c.args.used.now in
    let k : ℕ = c.loop-number.number-index in
    let zero : LabelId = record { 0 = 0 } in (
      c.enter.ensures.length ∙ c.loop-number.invariant.0,
      row_more c.args.rows.now (map (λ (l : LabelId). l.0) c.args.numbers.now) c.loop-number.set
          c.enter.new.set used k (get_or used k zero)
          c.loop-number.invariant.1 (slice_get-get_or used k zero c.loop-number-test.true)
          c.enter.ensures.entered,
    )

pub returns-clause-reached : goal.returns-clause-reached
returns-clause-reached c =
    let used : List LabelId = c.args.used.now in
    let all : length used ≤ c.loop-number.number-index = c.loop-number-test.false in
    subst (λ (xs : List LabelId). IsRowOf c.args.rows.now
    (map (λ (l : LabelId). l.0) c.args.numbers.now) (map (λ (l : LabelId). l.0) xs)
    c.loop-number.set)
    (take_all c.loop-number.number-index used all) c.loop-number.invariant.1
