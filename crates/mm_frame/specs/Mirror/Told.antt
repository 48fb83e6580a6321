-- Whether a statement repeats a symbol. This file mirrors the code, and is cited by private
-- contracts alone.
use Rattle.std.specs.Prelude.{◌≡◌, ◌↔◌, Bool, IsTrue, ◌⊎◌}
use Rattle.mm_base.specs.declared.statement.Kind.{Kind}
use Rattle.mm_base.specs.declared.statement.Kind.TheVariants.{Constants, Variables, Distinct}
use Rattle.mm_frame.specs.Sentence.{Sentence, StandsTwice}
use Rattle.mm_frame.specs.Rules.{SomeSymbol}

-- statements of this kind state each symbol once
abbrev pub StatesOnce : Kind → Type 0
StatesOnce kind = (kind ≡ Constants) ⊎ (kind ≡ Variables) ⊎ (kind ≡ Distinct)

-- it is known whether the statement, which is to state each symbol once, states one twice
pub record IsTold (repeats : Bool) (s : Sentence) : Type 0 where
  pub told : StatesOnce s.kind → IsTrue repeats ↔ SomeSymbol s (StandsTwice s.symbols)
