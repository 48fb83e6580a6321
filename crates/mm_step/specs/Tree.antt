-- Proof trees, what they derive and how they are spelled (the Metamath book, sections 4.1.4 and
-- 4.3).
use Rattle.std.specs.Prelude.{◌≡◌, ℕ, suc, List, [], ◌∷◌, ◌++◌, length, map, take, slice_get}
use Rattle.std.specs.Prelude.{Contains, Some, ◌⊎◌}
use Rattle.mm_frame.specs.Sentence.{Sentence, IsHypothesis, IsAssertion, IsLabelled}
use Rattle.mm_frame.specs.Active.{SomeActive, IsVariable}
use Rattle.mm_frame.specs.Frame.{IsMandatory, AreMandatory, IsDistinct, IsMandatoryPair}
use Rattle.mm_step.specs.Substitution.{Substitution, IsOn, instance_of}

-- Trees side by side. A tree is a label with the trees below it; a tree with none below is a leaf,
-- or an assertion that has no hypotheses: its label tells.
pub data Trees : Type 0 where
  none : Trees
  tree : (label : List ℕ) (below right : Trees) → Trees

-- the labels of the trees, those below a label before it
abbrev pub spelling : Trees → List (List ℕ)
spelling none = []
spelling (tree label below right) = spelling below ++ label ∷ spelling right

-- trees side by side, and others to their right
abbrev pub beside : Trees → Trees → Trees
beside none others = others
beside (tree label below right) others = tree label below (beside right others)

-- how many stand side by side
abbrev pub roots : Trees → ℕ
roots none = 0
roots (tree label below right) = suc (roots right)

-- The label is that of the assertion at an earlier index, with these mandatory hypotheses there.
pub record Names (before : List Sentence) (label : List ℕ) (index : ℕ) (assertion : Sentence)
    (hypotheses : List Sentence) : Type 0 where
  pub there : slice_get before index ≡ Some assertion
  pub named : IsLabelled label assertion
  pub kind : IsAssertion assertion.kind
  pub mandatory : AreMandatory (take index before) assertion hypotheses

-- The label may stand over these trees: it is that of an active hypothesis, and they are none; or
-- it is that of an earlier assertion, and they are as many as its mandatory hypotheses.
abbrev pub MayStandOver : List Sentence → List ℕ → Trees → Type 0
MayStandOver before label below =
    ((below ≡ none) × SomeActive before (λ h. IsLabelled label h × IsHypothesis h.kind))
    ⊎ ((index : ℕ) × (assertion : Sentence) × (hypotheses : List Sentence)
    × Names before label index assertion hypotheses
    × (roots below ≡ length hypotheses))

-- the trees fit after the statements before: each label may stand over the trees below it
abbrev pub TreesFit : List Sentence → Trees → Type 0
TreesFit before none = Unit {0}
TreesFit before (tree label below right) =
    MayStandOver before label below × TreesFit before below × TreesFit before right

-- no variable stands in both expressions
abbrev pub ShareNoVariable : List Sentence → List (List ℕ) → List (List ℕ) → Type 0
ShareNoVariable before e f = (u : List ℕ) → IsVariable before u → Contains e u → Contains f u → ⊥

-- each variable of the one and each of the other are an active pair
abbrev pub AreDistinct : List Sentence → List (List ℕ) → List (List ℕ) → Type 0
AreDistinct before e f =
    (u v : List ℕ) → IsVariable before u → IsVariable before v → Contains e u → Contains f v
    → IsDistinct before u v

-- What replaces the members of each mandatory pair of the assertion at an index shares no variable,
-- and its variables are active pairs after all the statements.
abbrev pub KeepsApart : List Sentence → ℕ → Sentence → Substitution → Type 0
KeepsApart before index assertion σ =
    (x y : List ℕ) (e f : List (List ℕ)) → IsMandatoryPair (take index before) assertion x y
    → σ x ≡ Some e → σ y ≡ Some f
    → ShareNoVariable before e f × AreDistinct before e f

-- The trees derive these expressions, in order, after the statements before; and of each expression
-- that one of their steps makes, Fits holds. A leaf derives the expression of the active hypothesis
-- that it names. An assertion's tree derives its expression under a substitution of its mandatory
-- variables, if the trees below derive its mandatory hypotheses under it, and its distinct
-- variables stay apart.
abbrev pub DeriveAll : (List (List ℕ) → Type 0) → List Sentence → Trees → List (List (List ℕ))
    → Type 0
DeriveAll Fits before none expressions = expressions ≡ []
DeriveAll Fits before (tree label below right) expressions =
    (e : List (List ℕ)) × (others : List (List (List ℕ))) × (expressions ≡ e ∷ others) × Fits e
    × (((below ≡ none)
    × SomeActive before (λ h. IsLabelled label h × IsHypothesis h.kind × (e ≡ h.symbols)))
    ⊎ ((index : ℕ) × (assertion : Sentence) × (hypotheses : List Sentence)
    × (σ : Substitution)
    × Names before label index assertion hypotheses
    × IsOn (IsMandatory (take index before) assertion) σ
    × DeriveAll Fits before below (map (λ h. instance_of σ h.symbols) hypotheses)
    × KeepsApart before index assertion σ
    × (e ≡ instance_of σ assertion.symbols)))
    × DeriveAll Fits before right others

-- any expression fits
abbrev pub AnyExpression : List (List ℕ) → Type 0
AnyExpression e = Unit {0}

-- The tree with this label and these trees below derives the expression.
abbrev pub Derives : List Sentence → List ℕ → Trees → List (List ℕ) → Type 0
Derives before label below e = DeriveAll AnyExpression before (tree label below none) (e ∷ [])
