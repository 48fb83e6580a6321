-- What the step by an assertion knows by numbers: it mirrors the code.
use Rattle.std.specs.Prelude.{ℕ, ◌<◌, List, take, Option}
use Rattle.mm_frame.specs.Sentence.{Sentence, IsAssertion, IsHypothesis}
use Rattle.mm_frame.specs.Frame.{AreMandatory}
use Rattle.mm_frame.specs.Numbers.{IsNumbered, AreNumbers}
use Rattle.mm_frame.specs.FrameIndex.{ArePairs, AreHypotheses, HaveTypings}
use Rattle.mm_frame.specs.Pieces.{variables_of, AreItsPieces, HavePatterns, HaveIndices}
use Rattle.mm_frame.specs.declared.piece.Piece.{Piece}
use Rattle.mm_frame.specs.declared.signature.Signature.{Signature}
use Rattle.mm_step.specs.declared.call.Call.{Call}
use Rattle.mm_step.specs.declared.call.Call.TheVariants as calls
use Rattle.mm_step.specs.Stores.{numbers_in}
use Rattle.mm_step.specs.Plain.{label_ids}
use Rattle.mm_step.specs.Mirror.CodeSteps.{MayBeUsed}
use Rattle.mm_step.specs.Substitution.{Substitution}
use Rattle.mm_step.specs.Tree.{AreDistinct}
use Rattle.mm_step.specs.Mirror.CodeVerify.{names_at, all_names_at, value_of, IsRightCode, IsEqual}
use Rattle.mm_step.specs.Mirror.CodeVerify.{EachEntry, pairs_in}
use Rattle.mm_step.specs.Mirror.CodeVerify.{Replaces, EachPairValues, AreHypothesesOf, AreVariablesOf}

-- the number is that of an assertion before the index of the proof, and these are its hypotheses,
-- with their numbers
pub record IsAppliedAssertion (statements : List Sentence) (index id at : ℕ) (ids : List ℕ)
    (hs : List Sentence) : Type 0 where
  pub s : Sentence
  pub numbered : IsNumbered statements id at s
  pub kind : IsAssertion s.kind
  pub before : at < index
  pub mandatory : AreMandatory (take at statements) s hs
  pub known : AreHypothesesOf statements ids hs

-- the entries match the hypotheses, and the pairs stay apart
pub record IsMatched (statements : List Sentence) (index : ℕ) (hs : List Sentence)
    (variables : List (Option ℕ)) (entries : List (List ℕ)) (pairs : List (ℕ × ℕ)) : Type 0 where
  pub codes : EachEntry hs (all_names_at statements entries) IsRightCode
  pub equal : (σ : Substitution) → Replaces statements σ variables entries
      → EachEntry hs (all_names_at statements entries) (IsEqual σ)
  pub apart : EachPairValues (value_of variables entries) pairs
      (λ e f. AreDistinct (take index statements) (names_at statements e) (names_at statements f))

-- only the limit is left to judge
pub record IsReady (statements : List Sentence) (index id at : ℕ) (variables : List (Option ℕ))
    (entries : List (List ℕ)) (conclusion : List Piece) : Type 0 where
  pub ids : List ℕ
  pub hs : List Sentence
  pub pairs : List (ℕ × ℕ)
  pub called : IsAppliedAssertion statements index id at ids hs
  pub typed : AreVariablesOf statements variables hs
  pub mandatory : ArePairs (record { statements = statements; index = at }) pairs
  pub matched : IsMatched statements index hs variables entries pairs
  pub concluded : AreItsPieces statements variables called.s conclusion

-- the signature is that of the assertion with the number, which stands before the index
pub record IsEarlierSignature (statements : List Sentence) (index id : ℕ)
    (signature : Signature) : Type 0 where
  pub at : ℕ
  pub s : Sentence
  pub numbered : IsNumbered statements id at s
  pub kind : IsAssertion s.kind
  pub before : at < index
  pub hypotheses : AreHypotheses (record { statements = statements; index = at })
      (label_ids signature.hypotheses.now)
  pub typed : HaveTypings statements signature.hypotheses.now
  pub pairs : ArePairs (record { statements = statements; index = at }) (pairs_in signature.pairs.now)
  pub indexed : HaveIndices (variables_of signature.hypotheses.now) signature.pairs.now
  pub concluded : AreItsPieces statements (variables_of signature.hypotheses.now) s
      signature.conclusion.now
  pub patterned : HavePatterns statements (variables_of signature.hypotheses.now) signature.pieces.now
      signature.hypotheses.now

-- the call is of an assertion
abbrev pub IsOfAssertion : Call → Type 0
IsOfAssertion (calls.Hypothesis symbols) = ⊥
IsOfAssertion (calls.Assertion signature) = Unit {0}

-- the call is what the label with the number stands for in a proof at the index
abbrev pub IsCallOf : List Sentence → (index id : ℕ) → Call → Type 0
IsCallOf statements index id (calls.Hypothesis symbols) =
    (label : List ℕ) × (used : MayBeUsed statements index label id)
    × IsHypothesis used.s.kind × AreNumbers statements (numbers_in symbols.now) used.s.symbols
IsCallOf statements index id (calls.Assertion signature) = IsEarlierSignature statements index id signature

-- it is, if the label may be used there
abbrev pub MayBeCalled : List Sentence → (index id : ℕ) → Call → Type 0
MayBeCalled statements index id call =
    (label : List ℕ) → MayBeUsed statements index label id → IsCallOf statements index id call
