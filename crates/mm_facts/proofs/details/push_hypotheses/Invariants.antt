-- The text so far is that of the hypotheses so far, whatever they state.
use Rattle.std.proofs.Common.{◌≡◌, ◌++◌, List, take, map}
use Rattle.mm_frame.specs.Sentence.{Sentence}
use Rattle.mm_step.specs.Mirror.CodeVerify.{AreHypothesesOf}
use Rattle.mm_facts.specs.Explained.{details_text, hypotheses_stated}
use Rattle.mm_facts.proofs.details.push_hypotheses.Given as goal

abbrev pub invariant-loop-hypothesis : goal.invariant-loop-hypothesis
invariant-loop-hypothesis l =
    (stated : List Sentence) → AreHypothesesOf l.book.statements (map (λ h. h.id.0) l.hypotheses) stated
    → l.out.items ≡ l.fn.out.items ++ details_text (hypotheses_stated (take l.hypothesis-index stated))
