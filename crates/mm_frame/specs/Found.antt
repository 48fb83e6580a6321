-- What stands under a label.
use Rattle.std.specs.Prelude.{ℕ, List, IsTrue, ◌↔◌}
use Rattle.mm_frame.specs.declared.answer.Found.{Found}
use Rattle.mm_frame.specs.declared.answer.Found.TheVariants as found
use Rattle.mm_frame.specs.Sentence.{Sentence, SomeSentence, IsLabelled, IsHypothesis, IsAssertion}
use Rattle.mm_frame.specs.Active.{IsActive}
use Rattle.mm_frame.specs.Numbers.{IsNumbered}

-- no statement has the label; or a hypothesis, active or not; or an assertion
abbrev pub Finds : List Sentence → List ℕ → Found → Type 0
Finds statements label found.None = ¬ (SomeSentence statements (IsLabelled label))
Finds statements label (found.Hypothesis id active) =
    (index : ℕ) × (s : Sentence) × IsNumbered statements id.0 index s × IsLabelled label s
    × IsHypothesis s.kind
    × (IsTrue active ↔ IsActive statements index)
Finds statements label (found.Assertion id) =
    (index : ℕ) × (s : Sentence) × IsNumbered statements id.0 index s × IsLabelled label s
    × IsAssertion s.kind
