use Rattle.std.proofs.Common.{◌≡◌, None, inl, inr, arith, subst, sym, ◌∙◌, is_some, get_or, true}
use Rattle.std.proofs.lemmas.Option.{slice_get_within, same_Some}
use Rattle.std.proofs.lemmas.Bool.{false≢true, cases_lt}
use Rattle.mm_frame.specs.Pieces.{variables_of}
use Rattle.mm_frame.proofs.Frames.VariableIndices.{variables_counted}
use Rattle.mm_step.proofs.ByNumbers.NumberedSymbols.{hypothesis_at, typing_some, entry_at}
use Rattle.mm_step.proofs.ByNumbers.NumberedSymbols.{entry_below, each_more, as_many}
use Rattle.mm_step.proofs.ByNumbers.NumberedSymbols.{no_hypothesis}
use Rattle.mm_step.proofs.step.typing_of.Goals as goal
use Rattle.mm_step.proofs.step.typing_of.Goals.{then-floating, else-floating}

pub loop-index-init : goal.loop-index-init
loop-index-init g c = (λ st have below hs are i h entry less p q. absurd (omega arith), λ all k less. absurd (omega arith))

pub returns-then-not-is_typed-clause-codes : goal.returns-then-not-is_typed-clause-codes
returns-then-not-is_typed-clause-codes g c st have below hs are =
    let stack = g.S.Store.stack c.args.store.now in
    let at = hypothesis_at st _ hs _ no_hypothesis have are c.loop-index-test.true in (
      _,
      at.0,
      _,
      at.1,
      entry_at st stack c.args.base _ _ c.at.ensures,
      c.if-not-is_typed.ensures st at.0 at.3
          (entry_below st stack c.args.base _ _ below c.at.ensures),
    )

pub loop-index-preserved : goal.loop-index-preserved
loop-index-preserved g c = (
  λ st have below hs are.
      let stack = g.S.Store.stack c.args.store.now in
      let at = hypothesis_at st _ hs _ no_hypothesis have are c.loop-index-test.true in
      each_more hs _ _ _ at.0 _ at.1 (entry_at st stack c.args.base _ _ c.at.ensures)
      (c.if-not-is_typed.ensures st at.0 at.3
      (entry_below st stack c.args.base _ _ below c.at.ensures))
      (c.loop-index.invariant.0 st have below hs are),
  λ all k less. elim c.if-floating.branch [
    | then-floating w ↦ elim (cases_lt k c.loop-index.index) [
      | inl before ↦ c.loop-index.invariant.1 w.if-floating.true k before
      | inr from ↦
          let at : k ≡ c.loop-index.index = omega arith in
          subst (λ n. is_some (get_or (variables_of c.args.hypotheses.now) n None) ≡ true) (sym at)
          (typing_some c.args.hypotheses.now c.loop-index.index _ c.loop-index-test.true (sym w.is_some-floating.ensures ∙ sym w.floating-is ∙ all))
    ]
    | else-floating w ↦ absurd (false≢true (sym w.if-floating.false ∙ sym w.floating-is ∙ all))
  ],
)

pub returns-clause-codes : goal.returns-clause-codes
returns-clause-codes g c st have below hs are i h entry p q =
    c.loop-index.invariant.0 st have below hs are i h entry (omega (arith, slice_get_within hs i h p, as_many st c.args.hypotheses.now hs are, c.loop-index-test.false)) p q

pub returns-clause-floating : goal.returns-clause-floating
returns-clause-floating g c floating is all k less =
    c.loop-index.invariant.1 (same_Some c.loop-index.floating floating is ∙ all) k (omega (arith, variables_counted c.args.hypotheses.now, c.loop-index-test.false))
