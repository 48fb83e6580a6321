-- What a frame answers, of the assertion at an index in its book (the Metamath book, section
-- 4.2.7).
use Rattle.std.specs.Prelude.{◌≡◌, ℕ, List, map, take, slice_get, Option, Some, None, Contains}
use Rattle.std.specs.Prelude.{◌⊎◌}
use Rattle.mm_base.specs.declared.statement.Kind.TheVariants.{Essential}
use Rattle.mm_frame.specs.declared.number.Sym.{Sym}
use Rattle.mm_frame.specs.declared.hypothesis.Hypothesis.{Hypothesis}
use Rattle.mm_frame.specs.Sentence.{Sentence, Types}
use Rattle.mm_frame.specs.Frame.{AreMandatory, IsMandatoryPair, AreFurther}
use Rattle.mm_frame.specs.Numbers.{labelled_sentences, IsNumberOf, AreNumbers}

-- the statements of a book, and the index of the assertion
pub record FrameIndex : Type 0 where
  pub statements : List Sentence
  pub index : ℕ

-- the statements before the assertion
abbrev pub before_it : FrameIndex → List Sentence
before_it frame = take frame.index frame.statements

-- these are the numbers of the mandatory hypotheses, in database order
pub record AreHypotheses (frame : FrameIndex) (numbers : List ℕ) : Type 0 where
  pub assertion : Sentence
  pub there : slice_get frame.statements frame.index ≡ Some assertion
  pub hypotheses : List Sentence
  pub mandatory : AreMandatory (before_it frame) assertion hypotheses
  pub numbered : map (slice_get (labelled_sentences frame.statements)) numbers ≡ map Some hypotheses

-- the numbers of the type code and the variable of a `$f`, or nothing of a `$e`
abbrev pub IsTypingOf : List Sentence → Option (Sym × Sym) → Sentence → Type 0
IsTypingOf statements None h = h.kind ≡ Essential
IsTypingOf statements (Some typing) h =
    (code : List ℕ) × (x : List ℕ) × Types code x h × IsNumberOf statements code typing.0.0
    × IsNumberOf statements x typing.1.0

-- the typing that stands with the number of a label is that of the statement with this number
abbrev pub HasTyping : List Sentence → Hypothesis → Type 0
HasTyping statements hypothesis =
    (h : Sentence) × (slice_get (labelled_sentences statements) hypothesis.id.0 ≡ Some h)
    × IsTypingOf statements hypothesis.typing h

abbrev pub HaveTypings : List Sentence → List Hypothesis → Type 0
HaveTypings statements hypotheses =
    (i : ℕ) (hypothesis : Hypothesis) → slice_get hypotheses i ≡ Some hypothesis
    → HasTyping statements hypothesis

-- the same pair in one order or the other
abbrev pub IsSamePair : ℕ × ℕ → ℕ × ℕ → Type 0
IsSamePair p q = (p ≡ q) ⊎ (p ≡ (q.1, q.0))

-- these are the mandatory distinct pairs, by the numbers of their variables, each in one order and
-- once
pub record ArePairs (frame : FrameIndex) (pairs : List (ℕ × ℕ)) : Type 0 where
  pub assertion : Sentence
  pub there : slice_get frame.statements frame.index ≡ Some assertion
  pub only :
      (pair : ℕ × ℕ) → Contains pairs pair
      → (x : List ℕ) × (y : List ℕ) × IsNumberOf frame.statements x pair.0
      × IsNumberOf frame.statements y pair.1
      × IsMandatoryPair (before_it frame) assertion x y
  pub each :
      (x y : List ℕ) → IsMandatoryPair (before_it frame) assertion x y
      → (pair : ℕ × ℕ) × IsNumberOf frame.statements x pair.0 × IsNumberOf frame.statements y pair.1
      × (Contains pairs pair ⊎ Contains pairs (pair.1, pair.0))
  pub once :
      (i j : ℕ) (p q : ℕ × ℕ) → slice_get pairs i ≡ Some p → slice_get pairs j ≡ Some q
      → IsSamePair p q → i ≡ j

-- these are the indices of the `$d` that say more than mandatory pairs, in database order
pub record AreFurtherIndices (frame : FrameIndex) (indices : List ℕ) : Type 0 where
  pub assertion : Sentence
  pub there : slice_get frame.statements frame.index ≡ Some assertion
  pub further : List Sentence
  pub are_further : AreFurther (before_it frame) assertion further
  pub indexed : map (slice_get frame.statements) indices ≡ map Some further

-- these are the numbers of the assertion's symbols
pub record AreItsSymbols (frame : FrameIndex) (numbers : List ℕ) : Type 0 where
  pub assertion : Sentence
  pub there : slice_get frame.statements frame.index ≡ Some assertion
  pub numbered : AreNumbers frame.statements numbers assertion.symbols
