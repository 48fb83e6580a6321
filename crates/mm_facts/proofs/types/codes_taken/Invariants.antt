-- The codes so far are those of the hypotheses so far, whatever they state.
use Rattle.std.proofs.Common.{List, take, map}
use Rattle.mm_frame.specs.Sentence.{Sentence}
use Rattle.mm_frame.specs.Numbers.{AreNumbers}
use Rattle.mm_step.specs.Stores.{numbers_in}
use Rattle.mm_step.specs.Mirror.CodeVerify.{AreHypothesesOf}
use Rattle.mm_facts.specs.Explained.{type_codes}
use Rattle.mm_facts.proofs.types.codes_taken.Given as goal

abbrev pub invariant-loop-hypothesis : goal.invariant-loop-hypothesis
invariant-loop-hypothesis l =
    (stated : List Sentence) → AreHypothesesOf l.book.statements (map (λ h. h.id.0) l.hypotheses)
    stated
    → AreNumbers l.book.statements (numbers_in l.codes.items)
    (type_codes (map (λ h. h.symbols) (take l.hypothesis-index stated)))
