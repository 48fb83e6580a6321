-- The tokens of a small proof of a tree are a proof of what the tree derives, in strict form.
use Rattle.std.proofs.Common.{◌≡◌, ℕ, List, [], ◌∷◌, ◌++◌, Contains, ⊎_elim, flat_map, inl, inr}
use Rattle.mm_code.specs.declared.code.Code.{Code}
use Rattle.mm_code.specs.Letters.{Letters}
use Rattle.mm_code.specs.Layout.{in_parentheses}
use Rattle.mm_frame.specs.Sentence.{Sentence}
use Rattle.mm_frame.specs.Rules.{AllMeant}
use Rattle.mm_step.specs.Tree.{Trees, none, tree, spelling, DeriveAll}
use Rattle.mm_step.specs.Moves.{name}
use Rattle.mm_proof.specs.Tokens.{closing_token}
use Rattle.mm_forms.specs.BigSubtrees.{IsBig}
use Rattle.mm_forms.specs.ChosenSharing.{IsWorthATag}
use Rattle.mm_forms.specs.SmallProofs.{IsByUse, IsSmall}
use Rattle.mm_proof.specs.Strict.{IsStrict}
use Rattle.mm_proof.proofs.Members.{contains_in, in_contains}
use Rattle.mm_forms.proofs.FullSharing.FewestSteps.{made_subtrees}
use Rattle.mm_forms.proofs.FullSharing.OneSharedProof.{label_made, sub_label}
use Rattle.mm_forms.proofs.PackedProofs.ChosenSteps.{worth_big}
use Rattle.mm_forms.proofs.PackedProofs.WrittenProofs.{MakesKnown, pair_proves}
use Rattle.mm_proof.proofs.ProofTokens.WrittenLabels.{IsProofBy}
use Rattle.mm_forms.proofs.PackedProofs.WrittenProofs.{pair_is_strict, shared_marks}
use Rattle.mm_forms.proofs.SmallProofs.OneSmallProof.{by_use_list}

module _ (before : List Sentence) (s : Sentence) (label : List ℕ) (below : Trees)
    (listed : List (List ℕ)) (codes : List Code) where
  abbrev pub trees : Trees
  trees = tree label below none

  -- its labels are those of the tree
  abbrev pub by_use_makes : (P : Trees → Type 0) → IsByUse P before s trees listed codes
      → MakesKnown before s trees listed codes
  by_use_makes P p = record {
    makes = record { moves = p.moves; says = p.says; kept = p.shared.kept; made = p.shared.made };
    known = λ l c.
        let used = contains_in p.moves (name l) ((p.by_use.those l).0 c).0 in
        let g = label_made before p.moves none [] trees p.shared.kept p.shared.made l used in
        let sub = made_subtrees before p.moves none [] trees p.shared.kept p.shared.made
        (tree l g.0 none) g.1 in
        in_contains (spelling trees) l (sub_label trees l g.0 sub);
  }

  -- a small proof lists labels of the tree alone
  pub small_known : IsSmall before s trees listed codes → (l : List ℕ) → Contains listed l
      → Contains (spelling trees) l
  small_known (inl a) l c = (by_use_makes IsWorthATag a.0).known l c
  small_known (inr a) l c = (by_use_makes IsBig a.0).known l c

  module _ (letters : List ℕ) (pieces : List (List ℕ)) (small : IsSmall before s trees listed codes)
      (coded : Letters letters codes) (joined : flat_map (λ piece. piece) pieces ≡ letters)
      (apart : ¬ (Contains (spelling trees) closing_token)) where
    pub small_proves : (Fits : List (List ℕ) → Type 0) → AllMeant before
        → DeriveAll Fits before trees (s.symbols ∷ [])
        → IsProofBy Fits before s (in_parentheses listed ++ pieces) label below
    small_proves Fits meant derived = ⊎_elim
        (λ a. pair_proves Fits before s label below listed codes letters pieces meant
        (by_use_makes IsWorthATag a.0) coded joined apart derived)
        (λ a. pair_proves Fits before s label below listed codes letters pieces meant
        (by_use_makes IsBig a.0) coded joined apart derived) small

    pub small_text_is_strict : IsStrict before s (in_parentheses listed ++ pieces)
    small_text_is_strict = ⊎_elim
        (λ a. pair_is_strict before s trees listed codes letters pieces
        (by_use_makes IsWorthATag a.0) (by_use_list IsWorthATag before s trees listed codes a.0)
        (shared_marks before IsWorthATag worth_big trees a.0.moves a.0.shared) coded joined
        apart)
        (λ a. pair_is_strict before s trees listed codes letters pieces
        (by_use_makes IsBig a.0) (by_use_list IsBig before s trees listed codes a.0)
        (shared_marks before IsBig (λ t h. h) trees a.0.moves a.0.shared) coded joined apart) small
