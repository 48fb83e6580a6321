-- The frame of an assertion (the Metamath book, section 4.2.7): its mandatory variables, hypotheses
-- and distinct pairs.
use Rattle.std.specs.Prelude.{◌≡◌, ◌≢◌, ℕ, ◌+◌, List, [], ◌∷◌, Contains, ◌⊎◌}
use Rattle.mm_base.specs.declared.statement.Kind.TheVariants.{Distinct, Essential}
use Rattle.mm_frame.specs.Sentence.{Sentence, Types}
use Rattle.mm_frame.specs.Active.{IsActive, SomeActive, IsVariable}

-- a mandatory variable: it stands in the assertion, or in an active `$e`
abbrev pub IsMandatory : List Sentence → Sentence → List ℕ → Type 0
IsMandatory before s x =
    IsVariable before x
    × (Contains s.symbols x ⊎ SomeActive before (λ e. (e.kind ≡ Essential) × Contains e.symbols x))

-- a mandatory hypothesis: an active `$e`, or the active `$f` of a mandatory variable
abbrev pub IsMandatoryAt : List Sentence → Sentence → ℕ → Sentence → Type 0
IsMandatoryAt before s index h =
    IsActive before index
    × ((h.kind ≡ Essential)
    ⊎ ((code : List ℕ) × (x : List ℕ) × Types code x h × IsMandatory before s x))

-- the second list has those elements of the first, from an index on and in their order, of which P
-- holds
abbrev pub AreThose : {X : Type 0} → (ℕ → X → Type 0) → ℕ → List X → List X → Type 0
AreThose P index [] those = those ≡ []
AreThose {X} P index (x ∷ xs) those =
    (P index x × (others : List X) × (those ≡ x ∷ others) × AreThose P (index + 1) xs others)
    ⊎ (¬ (P index x) × AreThose P (index + 1) xs those)

-- the mandatory hypotheses, in database order
abbrev pub AreMandatory : List Sentence → Sentence → List Sentence → Type 0
AreMandatory before s hypotheses = AreThose (IsMandatoryAt before s) 0 before hypotheses

-- an active pair: different members of one active `$d`
abbrev pub IsDistinct : List Sentence → List ℕ → List ℕ → Type 0
IsDistinct before x y =
    (x ≢ y) × SomeActive before
    (λ d. (d.kind ≡ Distinct) × Contains d.symbols x × Contains d.symbols y)

-- a mandatory distinct pair: an active pair of mandatory variables
abbrev pub IsMandatoryPair : List Sentence → Sentence → List ℕ → List ℕ → Type 0
IsMandatoryPair before s x y =
    IsDistinct before x y × IsMandatory before s x × IsMandatory before s y

-- a `$d` that says more than mandatory pairs: it is active, and one of its members isn't a
-- mandatory variable. Of a `$p`, what it says holds in the proof (section 4.2.7).
abbrev pub IsFurtherAt : List Sentence → Sentence → ℕ → Sentence → Type 0
IsFurtherAt before s index d =
    IsActive before index × (d.kind ≡ Distinct)
    × ((x : List ℕ) × Contains d.symbols x × ¬ (IsMandatory before s x))

-- those that do, in database order
abbrev pub AreFurther : List Sentence → Sentence → List Sentence → Type 0
AreFurther before s further = AreThose (IsFurtherAt before s) 0 before further
