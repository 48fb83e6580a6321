-- Lines that tell steps, some without their expressions.
use Rattle.std.proofs.Common.{◌≡◌, ℕ, ◌-◌, List, [], ◌∷◌, ◌++◌, length, slice_get, Some, Bool}
use Rattle.std.proofs.Common.{true, false, not, ◌||◌, get_or, suc, inl, inr, refl, sym, subst, ◌∙◌, arith}
use Rattle.std.specs.List.{AllZip}
use Rattle.std.proofs.lemmas.Option.{slice_get_within, same_Some, none-some}
use Rattle.std.proofs.lemmas.List.{length-append}
use Rattle.mm_base.proofs.Lists.{pushed_cases}
use Rattle.mm_frame.specs.Sentence.{Sentence}
use Rattle.mm_frame.specs.Numbers.{AreNumbers}
use Rattle.mm_step.specs.Moves.{Move}
use Rattle.mm_listing.specs.declared.lines.Line.{Line}
use Rattle.mm_listing.specs.Listing.{ListedStep, IsNameOf, TellsStep, TellsStepWith, TellSteps}
use Rattle.mm_listing.specs.Listing.{AreLinesOf, AreLinesWith}
use Rattle.mm_listing.specs.Mirror.CodeLines.{IsLastWhere}

-- ---- one line more

-- no line tells no step
pub none_told : (st : List Sentence) (expressed : ℕ → Bool) → TellSteps st expressed [] []
none_told st expressed = record {
  count = refl;
  each = λ index line step there here. absurd (none-some line there);
}

-- one more
pub one_more_told : (st : List Sentence) (expressed : ℕ → Bool) (lines : List Line)
    (steps : List ListedStep) (line : Line) (step : ListedStep)
    → TellSteps st expressed lines steps
    → TellsStepWith st (expressed (length lines)) line step
    → TellSteps st expressed (lines ++ line ∷ []) (steps ++ step ∷ [])
one_more_told st expressed lines steps line step was tells = record {
  count = omega (
    arith,
    was.count,
    length-append lines (line ∷ []),
    length-append steps (step ∷ []),
  );
  each = λ index l s there here. elim (pushed_cases lines line index l there) [
    | inl old ↦ elim (pushed_cases steps step index s here) [
      | inl older ↦ was.each index l s old older
      | inr last ↦ absurd (omega (
        arith,
        slice_get_within lines index l old,
        last.0,
        was.count,
      ))
    ]
    | inr new ↦ elim (pushed_cases steps step index s here) [
      | inl old ↦ absurd (omega (
        arith,
        slice_get_within steps index s old,
        new.0,
        was.count,
      ))
      | inr last ↦ rw (new.0, ← new.1, ← last.1) tells
    ]
  ];
}

-- the line of the step that left this entry
pub last_told : (st : List Sentence) (expressed : Bool) (stack : List (List ℕ)) (line : Line)
    (step : ListedStep) (e : List ℕ) → slice_get stack (length stack - 1) ≡ Some e
    → IsLastWhere expressed stack line.expression.items → IsNameOf st line.name step.called
    → AreNumbers st e step.expression → TellsStepWith st expressed line step
last_told st true stack line step e there last called pushed = record {
  called = called;
  pushed = subst (λ (l : List ℕ). AreNumbers st l step.expression)
      (same_Some e _ (sym there ∙ last)) pushed;
}
last_told st false stack line step e there last called pushed = (called, last)

-- ---- all of them

-- those with all expressions
every_told : (st : List Sentence) (lines : List Line) (steps : List ListedStep)
    → TellSteps st (λ step. true) lines steps → AllZip (TellsStep st) lines steps
every_told st [] [] told = tt
every_told st [] (s ∷ steps) told = absurd (omega (arith, told.count))
every_told st (l ∷ lines) [] told = absurd (omega (arith, told.count))
every_told st (l ∷ lines) (s ∷ steps) told = (
  told.each 0 l s refl refl,
  every_told st lines steps (record {
    count = omega (arith, told.count);
    each = λ index line step there here. told.each (suc index) line step there here;
  }),
)

-- their listing
pub every_line : (st before : List Sentence) (moves : List (Move (List ℕ))) (lines : List Line)
    → AreLinesWith st before moves (λ step. true) lines → AreLinesOf st before moves lines
every_line st before moves lines told = (told.0, told.1, every_told st lines told.0 told.2)

-- all or none, as it is asked for
pub lines_unless : (essential : Bool) (st before : List Sentence) (moves : List (Move (List ℕ)))
    (lines : List Line)
    → AreLinesWith st before moves (λ step. not essential || get_or [] step false) lines
    → AreLinesWith st before moves (λ step. not essential) lines
lines_unless true st before moves lines told = told
lines_unless false st before moves lines told = told
