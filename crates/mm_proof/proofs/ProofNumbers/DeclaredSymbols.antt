-- The symbols of what trees derive, and so of the entries on the stack, are declared.
use Rattle.std.proofs.Common.{◌≡◌, ℕ, suc, List, [], ◌∷◌, map, take, drop, slice_get, Contains}
use Rattle.std.proofs.Common.{Option, Some, None, unwrap_or, option_map, ◌⊎◌, inl, inr, ⊎_elim}
use Rattle.std.proofs.Common.{refl, sym, ap, subst, ◌∙◌, arith}
use Rattle.std.specs.List.{AllByRecursion, flat_map}
use Rattle.std.proofs.lemmas.Option.{slice_get-map}
use Rattle.mm_base.proofs.Lists.{all_at}
use Rattle.mm_base.specs.declared.statement.Kind.TheVariants.{Constants, Variables}
use Rattle.mm_frame.specs.Sentence.{Sentence, IsUse, Declares}
use Rattle.mm_frame.specs.Frame.{IsMandatory}
use Rattle.mm_frame.specs.Rules.{AllMeant}
use Rattle.mm_frame.proofs.Rules.ObeyedRules.{meant_at, allmeant_prefix, used_declared, some_later}
use Rattle.mm_frame.proofs.Rules.ObeyedRules.{mandatory_typed}
use Rattle.mm_step.specs.Substitution.{IsOn, instance_of}
use Rattle.mm_step.specs.Tree.{Trees, none, tree, Names, DeriveAll}
use Rattle.mm_step.specs.Moves.{Move}
use Rattle.mm_step.specs.Proof.{Passed}
use Rattle.mm_proof.specs.Asked.{AreDeclared}
use Rattle.mm_proof.specs.Mirror.SharedSteps.{In}
use Rattle.mm_proof.proofs.Members.{in_contains, contains_in, in_apart, in_left, in_right}
use Rattle.mm_step.proofs.ProofSteps.OneStep.{typing_among}

-- ---- what a replacement is made of

flat_in : {X Y : Type 0} (f : X → List Y) (xs : List X) (y : Y) → In (flat_map f xs) y
    → (x : X) × In xs x × In (f x) y
flat_in f [] y h = absurd h
flat_in f (x ∷ xs) y h = elim (in_apart (f x) (flat_map f xs) y h) [
  | inl here ↦ (x, inl refl, here)
  | inr later ↦ let r = flat_in f xs y later in (r.0, inr r.1, r.2)
]

-- a symbol of the replacement is one of the expression that nothing replaces, or of what replaces one
pub in_instance : (σ : List ℕ → Option (List (List ℕ))) (e : List (List ℕ)) (u : List ℕ)
    → Contains (instance_of σ e) u
    → (Contains e u × (σ u ≡ None)) ⊎ ((x : List ℕ) × (v : List (List ℕ)) × Contains e x
    × (σ x ≡ Some v) × Contains v u)
in_instance σ e u c =
    let r = flat_in (λ x. unwrap_or (σ x) (x ∷ [])) e u (contains_in (instance_of σ e) u c) in
    go r.0 (in_contains e r.0 r.1) (σ r.0) refl r.2
  where
    go : (x : List ℕ) → Contains e x → (o : Option (List (List ℕ))) → σ x ≡ o
        → In (unwrap_or o (x ∷ [])) u
        → (Contains e u × (σ u ≡ None)) ⊎ ((x : List ℕ) × (v : List (List ℕ)) × Contains e x
        × (σ x ≡ Some v) × Contains v u)
    go x has None is (inl same) =
        inl (subst (Contains e) same has, subst (λ y. σ y ≡ None) same is)
    go x has None is (inr later) = absurd later
    go x has (Some v) is i = inr (x, v, has, is, in_contains v u i)

-- a symbol of what replaces the variable of a `$f` is one of what replaces the whole
pub typing_has : (σ : List ℕ → Option (List (List ℕ))) (code x : List ℕ) (v : List (List ℕ))
    (u : List ℕ) → σ x ≡ Some v → Contains v u
    → Contains (instance_of σ (code ∷ x ∷ [])) u
typing_has σ code x v u is c =
    let rest : In (flat_map (λ y. unwrap_or (σ y) (y ∷ [])) (x ∷ [])) u =
    rw is (in_left v [] u (contains_in v u c)) in
    in_contains (instance_of σ (code ∷ x ∷ [])) u
    (in_right (unwrap_or (σ code) (code ∷ []))
    (flat_map (λ y. unwrap_or (σ y) (y ∷ [])) (x ∷ [])) u rest)

-- ---- what trees derive

module _ (before : List Sentence) (all : AllMeant before) where
  -- the symbols of a statement that uses symbols
  pub used_symbols : (index : ℕ) (s : Sentence) → slice_get before index ≡ Some s → IsUse s.kind
      → AreDeclared before s.symbols
  used_symbols index s there uses x has = ⊎_elim
      (λ c. inl (some_later before index (Declares Constants x) c))
      (λ v. inr (some_later before index (Declares Variables x) v))
      (used_declared (take index before) s x (meant_at before index s all there) uses has)

  -- what an assertion makes, if what its hypotheses ask has declared symbols
  pub made_symbols : (label : List ℕ) (index : ℕ) (a : Sentence) (hs : List Sentence)
      (σ : List ℕ → Option (List (List ℕ))) → Names before label index a hs
      → IsOn (IsMandatory (take index before) a) σ
      → AllByRecursion (AreDeclared before) (map (λ (h : Sentence). instance_of σ h.symbols) hs)
      → AreDeclared before (instance_of σ a.symbols)
  made_symbols label index a hs σ names on asked u c = elim (in_instance σ a.symbols u c) [
    | inl (own, unreplaced) ↦ used_symbols index a names.there (inr (inr (inr names.kind))) u own
    | inr (x, v, has, is, in_v) ↦
        let mandatory = (on x).0 (rw is refl) in
        let typed = mandatory_typed (take index before) a x (allmeant_prefix before
        index all) (meant_at before index a all names.there) (inr names.kind) mandatory in
        let f = typing_among before label index a hs x names mandatory typed in
        let at = slice_get-map (λ (h : Sentence). instance_of σ h.symbols) hs f.0
        ∙ ap (option_map (λ (h : Sentence). instance_of σ h.symbols)) f.3 in
        all_at (AreDeclared before) _ f.0 (instance_of σ f.1.symbols) asked at u
        (subst (λ l. Contains (instance_of σ l) u) (sym f.4.1) (typing_has σ f.2 x v u is in_v))
  ]

  pub derived_symbols : (Fits : List (List ℕ) → Type 0) (trees : Trees) (es : List (List (List ℕ)))
      → DeriveAll Fits before trees es → AllByRecursion (AreDeclared before) es
  derived_symbols Fits none es derived =
      subst (AllByRecursion (AreDeclared before)) (sym derived) tt
  derived_symbols Fits (tree label below right) es (e, others, parts, fits, made, rest) =
      let first : AreDeclared before e = ⊎_elim
      (λ h. subst (AreDeclared before) (sym h.1.4.2) (used_symbols h.1.0 h.1.1 h.1.2
      (⊎_elim (λ f. inr (inl f)) (λ k. inr (inr (inl k))) h.1.4.1)))
      (λ a. subst (AreDeclared before) (sym a.8) (made_symbols label a.0 a.1 a.2 a.3 a.4 a.5
      (derived_symbols Fits below (map (λ (h : Sentence). instance_of a.3 h.symbols) a.2) a.6)))
      made in
      subst (AllByRecursion (AreDeclared before)) (sym parts)
      (first, derived_symbols Fits right others rest)

  -- the entries that passed moves leave
  pub passed_symbols : (Fits : List (List ℕ) → Type 0) (moves : List (Move (List ℕ)))
      (stack kept : List (List (List ℕ))) → Passed Fits before moves stack kept
      → AllByRecursion (AreDeclared before) stack
  passed_symbols Fits moves stack kept passed =
      derived_symbols Fits passed.trees stack passed.derived

-- what follows the first symbol
pub rest_declared : (before : List Sentence) (e : List (List ℕ)) → AreDeclared before e
    → AreDeclared before (drop 1 e)
rest_declared before [] declared u c = declared u c
rest_declared before (x ∷ e) declared u c = declared u (suc c.0, omega (arith, c.1), c.2)
