-- What the code of the moves knows on its way: it mirrors the code.
use Rattle.std.specs.Prelude.{ℕ, ◌<◌, List, take}
use Rattle.std.specs.Prelude.{◌⊎◌}
use Rattle.mm_frame.specs.Sentence.{Sentence, IsLabelled, IsHypothesis, IsAssertion}
use Rattle.mm_frame.specs.Active.{IsActive}
use Rattle.mm_frame.specs.Numbers.{IsNumbered}

-- the statement with this number stands before an index, has the label, and is an assertion or an
-- active hypothesis
pub record MayBeUsed (statements : List Sentence) (index : ℕ) (label : List ℕ)
    (id : ℕ) : Type 0 where
  pub at : ℕ
  pub s : Sentence
  pub numbered : IsNumbered statements id at s
  pub named : IsLabelled label s
  pub before : at < index
  pub kind : (IsHypothesis s.kind × IsActive (take index statements) at) ⊎ IsAssertion s.kind
