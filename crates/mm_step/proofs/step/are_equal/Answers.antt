use Rattle.std.proofs.lemmas.Bool.{MatchBool-at_true, MatchBool-at_false}
use Rattle.std.proofs.Common.{◌≡◌, ◌+◌, ◌<◌, ℕ, [], Some, length, drop, not, ap, ◌∙◌, arith}
use Rattle.std.proofs.Common.{slice_get, get_or}
use Rattle.std.proofs.lemmas.Option.{slice_get_within, slice_get-get_or}
use Rattle.std.proofs.lemmas.List.{length-drop}
use Rattle.mm_frame.specs.Pieces.{variables_of}
use Rattle.mm_frame.proofs.Frames.VariableIndices.{variables_counted}
use Rattle.mm_step.proofs.ByNumbers.NumberedSymbols.{hypothesis_at, entry_at, entry_below}
use Rattle.mm_step.proofs.ByNumbers.NumberedSymbols.{each_next, each_more, as_many, typed_equal}
use Rattle.mm_step.proofs.ByNumbers.NumberedSymbols.{floating_equal, variable_typed}
use Rattle.mm_step.proofs.ByNumbers.NumberedSymbols.{typed_variables, untyped_essential}
use Rattle.mm_step.proofs.ByNumbers.NumberedSymbols.{no_hypothesis, pattern_found, part_within}
use Rattle.mm_step.proofs.ByNumbers.NumberedSymbols.{said_told}
use Rattle.mm_step.proofs.step.are_equal.Goals.{else-is_none-via-then-is_none+else-not-is_said_at, else-is_none-via-else-is_none}
use Rattle.mm_step.proofs.step.are_equal.Given.{Over}
use Rattle.mm_step.proofs.step.are_equal.Goals.{Start}
use Rattle.mm_step.proofs.step.are_equal.Goals as goal

-- there are as many entries as variables
paired : (g : Over) (c : Start g) → length (variables_of c.args.signature.now.hypotheses.now)
    ≡ length (drop c.args.base (g.S.Store.stack c.args.store.now))
paired g c =
    let many = variables_counted c.args.signature.now.hypotheses.now in
    omega (arith, length-drop c.args.base (g.S.Store.stack c.args.store.now), c.requires.entries)

pub is_said_at-requires-clause-within : goal.is_said_at-requires-clause-within
is_said_at-requires-clause-within g c =
    let size = paired g (goal.at.is_said_at-requires-clause-within g c).Start in
    rw c.loop-index.invariant.0 (part_within _ _ _ _ _ _ _ no_hypothesis size c.requires.patterns
    c.loop-index-test.true (c.is_none.ensures ∙ ap not c.if-is_none.true) c.pattern.ensures)

pub returns-then-floating-clause-equal : goal.returns-then-floating-clause-equal
returns-then-floating-clause-equal g c σ replaces hs are i h entry p q =
    let st = c.args.book.now.statements in
    let xs = c.args.signature.now.hypotheses.now in
    floating_equal st σ h entry _
    (c.requires.floating c.if-floating.true i (omega (arith, slice_get_within hs i h p, as_many st xs hs are, variables_counted xs)))
    (variable_typed st (variables_of xs) hs i h (typed_variables st xs hs c.requires.typed are) p)

-- the entry at an index behind the base
entry_there : (g : Over) (c : Start g) (index : ℕ)
    → index < length c.args.signature.now.hypotheses.now
    → slice_get (g.S.Store.stack c.args.store.now) (c.args.base + index)
    ≡ Some (get_or (g.S.Store.stack c.args.store.now) (c.args.base + index) [])
entry_there g c index less =
    slice_get-get_or (g.S.Store.stack c.args.store.now) (c.args.base + index) []
    (omega (arith, c.requires.entries, less))

pub returns-then-not-is_said_at-clause-equal : goal.returns-then-not-is_said_at-clause-equal
returns-then-not-is_said_at-clause-equal g c σ replaces hs are =
    let start = (goal.at.returns-then-not-is_said_at-clause-equal g c).Start in
    let size = paired g start in
    let there = entry_there g start c.loop-index.index c.loop-index-test.true in
    let told = (rw c.loop-index.invariant.0 at c.is_said_at.ensures.said) _ there in
    let xs = c.args.signature.now.hypotheses.now in
    let stack = g.S.Store.stack c.args.store.now in
    let at = hypothesis_at _ xs hs _ no_hypothesis c.requires.typed are c.loop-index-test.true in
    let none = c.is_none.ensures ∙ ap not c.if-is_none.true in
    let its = pattern_found _ _ _ _ _ _ no_hypothesis at.0 c.requires.patterns
    c.loop-index-test.true none c.pattern.ensures at.2 in (
      _,
      at.0,
      _,
      at.1,
      entry_at _ stack c.args.base _ _ there,
      MatchBool-at_false _ _ c.if-not-is_said_at.true
          (said_told c.one_number.ensures _ σ _ _ at.0 _ _ c.is_said_at.result size replaces
          c.requires.below (entry_below _ stack c.args.base _ _ c.requires.below there) its
          (untyped_essential _ at.0 _ none at.3) told.0 told.1),
    )

pub loop-index-preserved : goal.loop-index-preserved
loop-index-preserved g c =
    let start = (goal.at.loop-index-preserved g c).Start in
    let size = paired g start in
    let xs = c.args.signature.now.hypotheses.now in
    let stack = g.S.Store.stack c.args.store.now in
    let there = entry_there g start c.loop-index.index c.loop-index-test.true in
    elim c.else-is_none.branch [
      | else-is_none-via-then-is_none+else-not-is_said_at w ↦ (
        ap g.S.Store.stack w.store-is ∙ w.is_said_at.ensures.stack ∙ c.loop-index.invariant.0,
        ap g.S.Store.kept w.store-is ∙ w.is_said_at.ensures.kept ∙ c.loop-index.invariant.1,
        λ σ replaces hs are.
            let at = hypothesis_at _ xs hs _ no_hypothesis c.requires.typed are
            c.loop-index-test.true in
            let none = c.is_none.ensures ∙ ap not w.if-is_none.true in
            let its = pattern_found _ _ _ _ _ _ no_hypothesis at.0 c.requires.patterns
            c.loop-index-test.true none w.pattern.ensures at.2 in
            let told = (rw c.loop-index.invariant.0 at w.is_said_at.ensures.said) _ there in
            each_more hs _ _ _ at.0 _ at.1 (entry_at _ stack c.args.base _ _ there)
            (MatchBool-at_true _ _ w.if-not-is_said_at.false
            (said_told c.one_number.ensures _ σ _ _ at.0 _ _ w.is_said_at.result size replaces
            c.requires.below (entry_below _ stack c.args.base _ _ c.requires.below there) its
            (untyped_essential _ at.0 _ none at.3) told.0 told.1))
            (c.loop-index.invariant.2 σ replaces hs are),
      )
      | else-is_none-via-else-is_none w ↦ (
        ap g.S.Store.stack w.store-is ∙ c.loop-index.invariant.0,
        ap g.S.Store.kept w.store-is ∙ c.loop-index.invariant.1,
        λ σ replaces hs are.
            let at = hypothesis_at _ xs hs _ no_hypothesis c.requires.typed are
            c.loop-index-test.true in
            each_next hs _ _ _ at.0 at.1 (λ entry there.
            typed_equal _ σ at.0 entry _ (c.is_none.ensures ∙ ap not w.if-is_none.false) at.3)
            (c.loop-index.invariant.2 σ replaces hs are),
      )
    ]

pub returns-clause-equal : goal.returns-clause-equal
returns-clause-equal g c σ replaces hs are i h entry p q = c.loop-index.invariant.2 σ replaces hs are i h entry (omega (arith, slice_get_within hs i h p, as_many c.args.book.now.statements c.args.signature.now.hypotheses.now hs are, c.loop-index-test.false)) p q
