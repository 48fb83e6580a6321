-- A step by a label that breaks no rule carries passed moves on: its tree stands for the trees of
-- its hypotheses.
use Rattle.std.proofs.Common.{◌≡◌, ℕ, List, [], ◌∷◌, ◌++◌, take, drop, map, slice_get, Some, None}
use Rattle.std.proofs.Common.{inl, inr, ⊎_elim, refl, sym, ap, subst, ◌∙◌, option_map}
use Rattle.std.proofs.lemmas.Option.{same_Some, none-some, slice_get-map, slice_get-get_or}
use Rattle.std.proofs.lemmas.Option.{get_or_from_slice_get}
use Rattle.std.proofs.lemmas.List.{length-map, same_lists}
use Rattle.mm_base.proofs.Lists.{get_beside}
use Rattle.mm_frame.specs.Sentence.{Sentence}
use Rattle.mm_frame.specs.Frame.{IsMandatoryAt}
use Rattle.mm_frame.specs.Rules.{AllMeant}
use Rattle.mm_frame.proofs.Rules.ObeyedRules.{allmeant_prefix}
use Rattle.mm_step.specs.Substitution.{instance_of}
use Rattle.mm_step.specs.Tree.{Trees, none, tree, beside, MayStandOver, DeriveAll, KeepsApart}
use Rattle.mm_step.specs.Moves.{Move, name}
use Rattle.mm_step.specs.Proof.{Passed, MeetsHypotheses}
use Rattle.mm_step.specs.Mirror.CodeVerify.{EachEntry, IsRightCode, IsEqual}
use Rattle.mm_step.proofs.ProofSteps.OneStep.{code_is_constant, Pushes, StepTo}
use Rattle.mm_frame.proofs.Frames.FrameLaws.{those_hold}
use Rattle.mm_step.proofs.ProofSteps.Derivations.{typing_entry, absent, beside-none, makes_more}
use Rattle.mm_step.proofs.ProofSteps.Derivations.{roots_derive, derive_beside, derive_halves}

-- ==== a move that breaks no rule carries passed moves on: its tree stands for the trees of its
-- hypotheses

-- ---- the entries are the substituted hypotheses

prefix_is : (entry : List (List ℕ)) (code : List ℕ) → slice_get entry 0 ≡ Some code → entry ≡ code ∷ drop 1 entry
prefix_is [] code e = absurd (none-some code e)
prefix_is (a ∷ entry) code e = ap (λ x. x ∷ entry) (same_Some a code e)

module _ (before : List Sentence) (stack : List (List (List ℕ))) (label : List ℕ)
    (all : AllMeant before) (m : MeetsHypotheses before stack label)
    (typed : EachEntry m.hypotheses m.entries IsRightCode)
    (equal : EachEntry m.hypotheses m.entries (IsEqual m.σ)) where
  pub entry_is : (i : ℕ) (h : Sentence) (entry : List (List ℕ))
      → slice_get m.hypotheses i ≡ Some h → slice_get m.entries i ≡ Some entry
      → entry ≡ instance_of m.σ h.symbols
  entry_is i h entry there at =
      let prefix : List Sentence = take m.index before in
      let k = those_hold (IsMandatoryAt prefix m.assertion) 0 prefix m.hypotheses i h m.names.mandatory there in
      ⊎_elim (λ essential. equal i h entry there at essential)
      (λ t.
      let constant : m.σ t.0 ≡ None = absent (m.σ t.0) (λ some. code_is_constant prefix k.0 h t.0 t.1 (allmeant_prefix before m.index all) k.1 t.2 ((m.on t.0).0 some).0) in
      let first : slice_get entry 0 ≡ Some t.0 = typed i h entry there at t.2.0
      ∙ ap (λ l. slice_get l 0) t.2.1 in
      prefix_is entry t.0 first ∙ sym (ap (instance_of m.σ) t.2.1 ∙ typing_entry m.σ t.0 t.1 (drop 1 entry) constant (m.replaced i h entry t.0 t.1 there at t.2)))
      k.2.1

  -- the entries are the hypotheses under the substitution
  pub entries_are : m.entries ≡ map (λ (h : Sentence). instance_of m.σ h.symbols) m.hypotheses
  entries_are =
      let f : Sentence → List (List ℕ) = λ h. instance_of m.σ h.symbols in
      let hs = m.hypotheses in
      same_lists m.entries (map f hs) (m.paired ∙ sym (length-map hs f)) (λ i d less.
      let at = slice_get-get_or m.entries i d less in
      let h = get_beside m.entries hs i _ (sym m.paired) at in
      let made = slice_get-map f hs i ∙ ap (option_map f) h.1 in
      entry_is i h.0 _ h.1 at
      ∙ sym (get_or_from_slice_get (map f hs) i (f h.0) d made))

-- what the tree of a step stands over, and that it derives what the step makes
pub record Stands (Fits : List (List ℕ) → Type 0) (before : List Sentence) (trees : Trees) (label : List ℕ) (rest : List (List (List ℕ))) (e : List (List ℕ)) : Type 0 where
  pub left : Trees
  pub below : Trees
  pub parts : trees ≡ beside left below
  pub may : MayStandOver before label below
  pub derive_left : DeriveAll Fits before left rest
  pub derive_tree : DeriveAll Fits before (tree label below none) (e ∷ [])

module _ (Fits : List (List ℕ) → Type 0) (before : List Sentence) (trees : Trees)
    (stack : List (List (List ℕ))) (label : List ℕ) (derived : DeriveAll Fits before trees stack)
  where
    -- the step by a hypothesis
    pub pushed_stands : (rest : List (List (List ℕ))) (e : List (List ℕ))
        → Pushes before stack label rest e
        → Fits e → Stands Fits before trees label rest e
    pushed_stands rest e p fits = record {
      left = trees;
      below = none;
      parts = sym (beside-none trees);
      may = inl (refl, (p.index, p.hypothesis, p.there, p.active, (p.named, p.kind)));
      derive_left = subst (DeriveAll Fits before trees) (sym p.kept) derived;
      derive_tree = (
        e,
        [],
        refl,
        fits,
        inl
            (refl, (p.index, p.hypothesis, p.there, p.active, (p.named, p.kind, p.made))),
        refl,
      );
    }

    -- the step by an assertion
    pub applied_stands : (m : MeetsHypotheses before stack label)
        → m.entries ≡ map (λ (h : Sentence). instance_of m.σ h.symbols) m.hypotheses
        → KeepsApart before m.index m.assertion m.σ → (e : List (List ℕ))
        → e ≡ instance_of m.σ m.assertion.symbols → Fits e → Stands Fits before trees label m.rest e
    applied_stands m entries apart e made fits =
        let h = derive_halves Fits before trees m.rest m.entries
        (subst (DeriveAll Fits before trees) m.split derived) in
        let f : Sentence → List (List ℕ) = λ t. instance_of m.σ t.symbols in
        let children : DeriveAll Fits before h.right (map f m.hypotheses) =
        subst (DeriveAll Fits before h.right) entries h.derive_right in
        record {
          left = h.left;
          below = h.right;
          parts = h.parts;
          may = inr (
            m.index,
            m.assertion,
            m.hypotheses,
            m.names,
            roots_derive Fits before h.right
                (map f m.hypotheses) children ∙ length-map m.hypotheses f,
          );
          derive_left = h.derive_left;
          derive_tree = (
            e,
            [],
            refl,
            fits,
            inr (
              m.index,
              m.assertion,
              m.hypotheses,
              m.σ,
              m.names,
              m.on,
              children,
              apart,
              made,
            ),
            refl,
          );
        }

pub step_stands : (Fits : List (List ℕ) → Type 0) (before : List Sentence) (trees : Trees) (stack : List (List (List ℕ))) (label : List ℕ) (rest : List (List (List ℕ))) (e : List (List ℕ)) → AllMeant before
    → DeriveAll Fits before trees stack → StepTo before stack label rest e → Fits e → Stands Fits before trees label rest e
step_stands Fits before trees stack label rest e all derived (inl p) fits =
    pushed_stands Fits before trees stack label derived rest e p fits
step_stands Fits before trees stack label rest e all derived (inr p) fits =
    subst (λ l. Stands Fits before trees label l e) (sym p.kept)
    (applied_stands Fits before trees stack label derived p.meets
    (entries_are before stack label all p.meets p.typed p.equal) p.apart e p.made fits)

-- a step whose tree stands
pub stands_passed : (Fits : List (List ℕ) → Type 0) (before : List Sentence)
    (moves : List (Move (List ℕ))) (stack kept : List (List (List ℕ))) (label : List ℕ)
    (rest : List (List (List ℕ))) (e : List (List ℕ))
    → (passed : Passed Fits before moves stack kept) → Stands Fits before passed.trees label rest e
    → Passed Fits before (moves ++ name label ∷ []) (rest ++ e ∷ []) kept
stands_passed Fits before moves stack kept label rest e passed s = record {
  trees = beside s.left (tree label s.below none);
  shelf = passed.shelf;
  made = makes_more before moves (name label) none passed.trees
      (beside s.left (tree label s.below none)) [] passed.shelf passed.shelf passed.made
      (s.left, s.below, s.parts, s.may, refl, refl);
  derived = derive_beside Fits before s.left (tree label s.below none) rest (e ∷ []) s.derive_left
      s.derive_tree;
  kept_derived = passed.kept_derived;
}

-- a step by a label
pub passed_name : (Fits : List (List ℕ) → Type 0) (before : List Sentence) (moves : List (Move (List ℕ))) (stack kept : List (List (List ℕ))) (label : List ℕ) (rest : List (List (List ℕ))) (e : List (List ℕ)) → AllMeant before
    → Passed Fits before moves stack kept → StepTo before stack label rest e → Fits e → Passed Fits before (moves ++ name label ∷ []) (rest ++ e ∷ []) kept
passed_name Fits before moves stack kept label rest e all passed step fits =
    stands_passed Fits before moves stack kept label rest e passed
    (step_stands Fits before passed.trees stack label rest e all passed.derived step fits)
