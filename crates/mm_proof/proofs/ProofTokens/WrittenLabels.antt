-- The labels of a tree are a proof of what it derives.
use Rattle.std.proofs.Common.{◌≡◌, ℕ, ◌<◌, List, [], ◌∷◌, map, slice_get, Contains}
use Rattle.std.proofs.Common.{Some, inl, inr, refl, sym, subst, arith, ⊎_elim}
use Rattle.std.proofs.Common.{Option, ◌∙◌}
use Rattle.std.proofs.lemmas.List.Elements.{Contains-append_cases}
use Rattle.mm_base.proofs.Lists.{contains_from_at, zip_left, mapped_zip}
use Rattle.mm_code.specs.declared.code.CodeRule.{CodeRule}
use Rattle.mm_code.specs.Letters.{LettersBreak}
use Rattle.mm_frame.specs.Sentence.{Sentence, SomeSentence, IsLabelled, IsHypothesis, IsAssertion}
use Rattle.mm_frame.specs.Active.{IsActive}
use Rattle.mm_frame.specs.Rules.{AllMeant}
use Rattle.mm_frame.proofs.Rules.ObeyedRules.{one_label}
use Rattle.mm_step.specs.declared.fault.ProofRule.TheVariants.{P1, P2, P3, P4, P5}
use Rattle.mm_step.specs.Tree.{Trees, none, tree, spelling, MayStandOver, TreesFit, DeriveAll}
use Rattle.mm_step.specs.Moves.{name, Move}
use Rattle.mm_proof.specs.Tokens.{opening_token, IsNormal, AreLabels}
use Rattle.mm_proof.specs.Tokens.{AreLetters}
use Rattle.mm_proof.specs.Proof.{BreaksWhole, IsWhole, IsProvedWithin}
use Rattle.mm_step.proofs.ProofSteps.Derivations.{derive_fits, fit_makes}
use Rattle.mm_proof.proofs.ProofTokens.SaidMoves.{normal_or_compressed, labels_once}
use Rattle.mm_proof.proofs.Members.{contains_cases}
use Rattle.mm_proof.specs.Mirror.SharedSteps.{In}
use Rattle.mm_proof.proofs.Members.{in_get, get_in}
use Rattle.mm_step.proofs.ProofSteps.OneStep.{not_both_kinds}
use Rattle.mm_proof.specs.Strict.{IsStrict}
use Rattle.mm_proof.proofs.ProofVerdicts.StrictForm.{strict_normal}
use Rattle.mm_code.specs.declared.code.CodeRule.TheVariants as code

-- ==== the labels of a tree, and the tokens of a fully shared proof of it, are a proof of what it
-- derives

-- ---- members

pub no_member : (x : List ℕ) → Contains [] x → ⊥
no_member x (i, less, e) = let h : i < 0 = less in absurd (omega (arith, h))

-- ---- labels of trees that fit

-- each label may stand over some trees
pub label_fits : (before : List Sentence) (trees : Trees) (label : List ℕ) → TreesFit before trees → Contains (spelling trees) label → (below : Trees) × MayStandOver before label below
label_fits before none label fit c = absurd (no_member label c)
label_fits before (tree own below right) label fit c = ⊎_elim
    (λ h. label_fits before below label fit.1 h)
    (λ h. ⊎_elim (λ same. (below, subst (λ (l : List ℕ). MayStandOver before l below) same fit.0))
    (λ k. label_fits before right label fit.2 k) (contains_cases own (spelling right) label h))
    (Contains-append_cases (spelling below) (own ∷ spelling right) label c)

-- it is that of a statement
pub stands_known : (before : List Sentence) (label : List ℕ) (below : Trees) → MayStandOver before label below → SomeSentence before (IsLabelled label)
stands_known before label below (inl (bare, (index, h, there, active, (named, kind)))) = (index, h, there, named)
stands_known before label below (inr (index, assertion, hypotheses, names, many)) = (index, assertion, names.there, names.named)

-- a hypothesis with it is active
stands_active : (before : List Sentence) (label : List ℕ) (below : Trees) → AllMeant before → MayStandOver before label below
    → (index : ℕ) (h : Sentence) → slice_get before index ≡ Some h → IsLabelled label h → IsHypothesis h.kind → IsActive before index
stands_active before label below meant (inl (bare, (at, g, there', active, (named', kind')))) index h there named kind =
    subst (IsActive before) (one_label before label at index g h meant there' there named' named) active
stands_active before label below meant (inr (at, assertion, hypotheses, names, many)) index h there named kind =
    let here : at ≡ index = one_label before label at index assertion h meant names.there there names.named named in
    let same : assertion ≡ h = cc (names.there, here, there) in
    absurd (not_both_kinds h.kind kind (subst (λ (s : Sentence). IsAssertion s.kind) same names.kind))

-- ---- proofs that break no rule over the whole of them

pub whole_of : (before : List Sentence) (tokens labels : List (List ℕ)) → AllMeant before → ¬ (BreaksWhole P1 before tokens)
    → ((others : List (List ℕ)) → AreLabels tokens others → others ≡ labels) → ((label : List ℕ) → Contains labels label → (below : Trees) × MayStandOver before label below)
    → ((text : List ℕ) (rule : CodeRule) → AreLetters tokens text → ¬ (LettersBreak rule text)) → IsWhole before tokens
whole_of before tokens labels meant ends only fits letters P1 broken = ends broken
whole_of before tokens labels meant ends only fits letters P2 (others, are, label, used, unknown) =
    let f = fits label (rw (only others are) at used) in unknown (stands_known before label f.0 f.1)
whole_of before tokens labels meant ends only fits letters P3 (others, are, label, used, index, h, there, named, kind, closed) =
    let f = fits label (rw (only others are) at used) in closed (stands_active before label f.0 meant f.1 index h there named kind)
whole_of before tokens labels meant ends only fits letters P4 (text, are, broken) = letters text code.P4 are broken
whole_of before tokens labels meant ends only fits letters P5 (text, are, broken) = letters text code.P5 are broken
whole_of before tokens labels meant ends only fits letters rule broken = broken

-- a proof of the statement that spells this tree
abbrev pub IsProofBy : (List (List ℕ) → Type 0) → List Sentence → Sentence → List (List ℕ) → (label : List ℕ) → Trees → Type 0
IsProofBy Fits before s tokens label below =
    (p : IsProvedWithin Fits before s tokens) × (tree p.proves.label p.proves.below none ≡ tree label below none)

-- ---- the labels of a tree

pub spelled_proves : (Fits : List (List ℕ) → Type 0) (before : List Sentence) (s : Sentence) (label : List ℕ) (below : Trees) → AllMeant before
    → ¬ (Contains (spelling (tree label below none)) opening_token) → DeriveAll Fits before (tree label below none) (s.symbols ∷ [])
    → IsProofBy Fits before s (spelling (tree label below none)) label below
spelled_proves Fits before s label below meant apart derived =
    let trees : Trees = tree label below none in
    let tokens : List (List ℕ) = spelling trees in
    let fit : TreesFit before trees = derive_fits Fits before trees (s.symbols ∷ []) derived in
    let normal : IsNormal tokens = λ e. apart (contains_from_at tokens opening_token (0, e)) in
    let whole : IsWhole before tokens = whole_of before tokens tokens meant (λ broken. normal broken.0) (λ others are. labels_once tokens others tokens are (inl (normal, refl)))
    (λ l used. label_fits before trees l fit used) (λ text rule are. absurd (normal_or_compressed tokens are.0 are.1 normal are.2)) in (
      record {
        whole = whole;
        moves = map name tokens;
        said = inl (normal, refl);
        proves = record { label = label; below = below; kept = []; made = fit_makes before trees none [] fit; derived = derived };
      },
      refl,
    )

-- ==== a normal proof has the strict form, and so has the packed proof of a tree

-- a normal proof has no list and no marks
pub normal_is_strict : (before : List Sentence) (s : Sentence) (tokens : List (List ℕ))
    → IsNormal tokens → IsStrict before s tokens
normal_is_strict before s tokens normal = strict_normal before s tokens normal

-- ---- the list

-- a hypothesis has its label among theirs
pub label_in : (hypotheses : List Sentence) (labels : List (List ℕ)) (h : Sentence) (label : List ℕ)
    → map (λ (g : Sentence). g.label) hypotheses ≡ map Some labels → In hypotheses h
    → IsLabelled label h → In labels label
label_in hypotheses labels h label e has named =
    let at = in_get hypotheses h has in
    let l = zip_left (λ (g : Sentence) k. g.label ≡ Some k) hypotheses labels at.0 h
    (mapped_zip (λ (g : Sentence). g.label) Some _ (λ g k same. same) hypotheses labels e) at.1 in
    get_in labels at.0 label (l.1 ∙ sym l.2 ∙ named)

-- the step makes the tree by its label
pub record ByLabel (before : List Sentence) (move : Option (Move (List ℕ))) (t : Trees) : Type 0 where
  pub label : List ℕ
  pub below : Trees
  pub whole : t ≡ tree label below none
  pub there : move ≡ Some (name label)
  pub stands : MayStandOver before label below
