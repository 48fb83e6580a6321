-- A tree has one small proof at most, and its list is one that the strict form allows.
use Rattle.std.proofs.Common.{◌≡◌, ◌≢◌, ℕ, suc, ◌<◌, List, [], ◌∷◌, ◌++◌, slice_get}
use Rattle.std.proofs.Common.{Some, refl, sym, subst, ◌∙◌, arith, inl, inr}
use Rattle.std.proofs.Common.{⊎_elim}
use Rattle.mm_base.proofs.Lists.{two_cuts}
use Rattle.mm_code.specs.declared.code.Code.{Code}
use Rattle.mm_frame.specs.Sentence.{Sentence}
use Rattle.mm_frame.specs.Rules.{AllMeant}
use Rattle.mm_frame.proofs.Frames.FrameLaws.{mandatory_unique}
use Rattle.mm_step.specs.Tree.{Trees, none, tree}
use Rattle.mm_step.specs.Moves.{Move, name}
use Rattle.mm_forms.specs.BigSubtrees.{IsBig}
use Rattle.mm_forms.specs.ChosenSharing.{IsWorthATag}
use Rattle.mm_forms.specs.SmallProofs.{IsUsedBefore, ComesBefore, AreByUse, IsByUse}
use Rattle.mm_forms.specs.SmallLaws.{OneSmall}
use Rattle.mm_proof.specs.Strict.{IsStrictList}
use Rattle.mm_proof.specs.Mirror.SharedSteps.{In}
use Rattle.mm_proof.proofs.Members.{Once, indices_once, in_get}
use Rattle.mm_proof.proofs.Members.{contains_in, in_contains, in_right}
use Rattle.mm_forms.proofs.FullSharing.OneSharing.{shared_once}
use Rattle.mm_forms.proofs.FullSharing.OneSharedProof.{same_mandatory, codes_once, once_joined}
use Rattle.mm_forms.proofs.FullSharing.OneSharedProof.{mandatory_once}
use Rattle.mm_proof.proofs.ProofTokens.WrittenLabels.{label_in}
use Rattle.mm_forms.proofs.SmallProofs.UsedLabels.{label_told}

-- ---- lists in order

-- two lists of the same members, each in an order in which no two come before each other
module _ (R : List ℕ → List ℕ → Type 0)
    (one_way : (x y : List ℕ) → x ≢ y → R x y → R y x → ⊥) where
  abbrev InOrder : List (List ℕ) → Type 0
  InOrder [] = Unit {0}
  InOrder (x ∷ xs) = ((y : List ℕ) → In xs y → R x y) × InOrder xs

  in_order : (xs : List (List ℕ))
      → ((i j : ℕ) (x y : List ℕ) → i < j → slice_get xs i ≡ Some x → slice_get xs j ≡ Some y
      → R x y) → InOrder xs
  in_order [] each = tt
  in_order (x ∷ xs) each = (
    λ y h. let at = in_get xs y h in each 0 (suc at.0) x y (omega arith) refl at.1,
    in_order xs (λ i j a b less p q. each (suc i) (suc j) a b (omega arith) p q),
  )

  -- what is in the one without its head is in the other without the same head
  behind_head : (x : List ℕ) (xs ys : List (List ℕ)) → ¬ (In xs x)
      → ((z : List ℕ) → In (x ∷ xs) z → In (x ∷ ys) z) → (z : List ℕ) → In xs z → In ys z
  behind_head x xs ys fresh all z h =
      ⊎_elim (λ e. absurd (fresh (subst (In xs) (sym e) h))) (λ k. k) (all z (inr h))

  one_order : (xs ys : List (List ℕ)) → InOrder xs → InOrder ys → Once xs → Once ys
      → ((z : List ℕ) → In xs z → In ys z) → ((z : List ℕ) → In ys z → In xs z) → xs ≡ ys
  one_order [] [] p q o n there back = refl
  one_order [] (y ∷ ys) p q o n there back = absurd (back y (inl refl))
  one_order (x ∷ xs) [] p q o n there back = absurd (there x (inl refl))
  one_order (x ∷ xs) (y ∷ ys) p q o n there back =
      elim (label_told x y) [
        | inl h ↦
            let same : x ≡ y = h.1 in
            let to : (z : List ℕ) → In (x ∷ xs) z → In (x ∷ ys) z =
            subst (λ w. (z : List ℕ) → In (x ∷ xs) z → In (w ∷ ys) z) (sym same) there in
            let from : (z : List ℕ) → In (x ∷ ys) z → In (x ∷ xs) z =
            subst (λ w. (z : List ℕ) → In (w ∷ ys) z → In (x ∷ xs) z) (sym same) back in
            let fresh : ¬ (In ys x) = subst (λ w. ¬ (In ys w)) (sym same) n.0 in
            let rest = one_order xs ys p.1 q.1 o.1 n.1 (behind_head x xs ys o.0 to)
            (behind_head x ys xs fresh from) in
            rw (same, rest) refl
        | inr h ↦
            let apart : x ≢ y = h.1 in
            let later : In ys x =
            ⊎_elim (λ e. absurd (apart (sym e))) (λ k. k) (there x (inl refl)) in
            let other : In xs y = ⊎_elim (λ e. absurd (apart e)) (λ k. k) (back y (inl refl)) in
            absurd (one_way x y apart (p.0 y other) (q.0 x later))
      ]

-- ---- the order by use

-- no two labels are used before each other
before_once : (moves : List (Move (List ℕ))) (x y : List ℕ) → x ≢ y → IsUsedBefore moves x y
    → IsUsedBefore moves y x → ⊥
before_once moves x y apart p q =
    let held = λ (part mid after : List (Move (List ℕ))) (label : List ℕ)
    (e : part ≡ mid ++ name label ∷ after).
    in_contains part (name label)
    (rw e (in_right mid (name label ∷ after) (name label) (inl refl))) in
    elim (two_cuts p.0 (name x) p.1 q.0 (name y) q.1 (sym p.2 ∙ q.2)) [
      | inl h ↦ (let same : x ≡ y = cc (h.1) in apart same)
      | inr (inl h) ↦ q.3 (held q.0 p.0 h.0 x h.1)
      | inr (inr h) ↦ p.3 (held p.0 q.0 h.0 y h.1)
    ]

comes_one_way : (moves : List (Move (List ℕ))) (x y : List ℕ) → x ≢ y → ComesBefore moves x y
    → ComesBefore moves y x → ⊥
comes_one_way moves x y apart p q = ⊎_elim
    (λ h. ⊎_elim (λ k. omega (arith, h, k)) (λ k. omega (arith, h, k.0)) q)
    (λ h. ⊎_elim (λ k. omega (arith, h.0, k)) (λ k. before_once moves x y apart h.1 k.1) q) p

pub by_use_once : (names : List (List ℕ)) (moves : List (Move (List ℕ)))
    (listed listed' : List (List ℕ)) → AreByUse names moves listed → AreByUse names moves listed'
    → listed ≡ listed'
by_use_once names moves listed listed' p q =
    let R = ComesBefore moves in
    let way = comes_one_way moves in
    one_order R way listed listed' (in_order R way listed p.ordered)
    (in_order R way listed' q.ordered) (indices_once listed p.once) (indices_once listed' q.once)
    (λ z h. contains_in listed' z ((q.those z).1 ((p.those z).0 (in_contains listed z h))))
    (λ z h. contains_in listed z ((p.those z).1 ((q.those z).0 (in_contains listed' z h))))

-- ---- pairs by use

-- their list is apart from the names
pub by_use_apart : (names : List (List ℕ)) (moves : List (Move (List ℕ)))
    (listed : List (List ℕ)) → AreByUse names moves listed → Once names → Once (names ++ listed)
by_use_apart names moves listed p once =
    once_joined names listed once (indices_once listed p.once)
    (λ label h k. ((p.those label).0 (in_contains listed label h)).1 (in_contains names label k))

-- one pair at most that shares those subtrees is by use
pub one_by_use : (P : Trees → Type 0) (before : List Sentence) (s : Sentence) (trees : Trees)
    (listed listed' : List (List ℕ)) (codes codes' : List Code)
    → AllMeant before → IsByUse P before s trees listed codes
    → IsByUse P before s trees listed' codes' → (listed ≡ listed') × (codes ≡ codes')
one_by_use P before s trees listed listed' codes codes' all p q =
    let labels = same_mandatory _ _ listed listed' codes codes' p.moves q.moves p.says q.says in
    let moves = shared_once P before trees p.moves q.moves p.shared q.shared in
    let same = by_use_once q.says.labels q.moves listed listed' (rw (labels, moves) at p.by_use)
    q.by_use in
    let each = rw (labels, same, moves) at p.says.each in
    let once = by_use_apart q.says.labels q.moves listed' q.by_use
    (mandatory_once before s q.says.hypotheses q.says.labels all q.says.mandatory
    q.says.labelled) in
    (same, codes_once (q.says.labels ++ listed') codes codes' q.moves once each q.says.each)

pub one_small_holds : OneSmall
one_small_holds before s label below listed listed' codes codes' all p q =
    let trees : Trees = tree label below none in
    ⊎_elim
    (λ a. ⊎_elim
    (λ b. one_by_use IsWorthATag before s trees listed listed' codes codes' all a.0 b.0)
    (λ b. absurd (omega (arith, a.1 listed' codes' b.0, b.1 listed codes a.0))) q)
    (λ a. ⊎_elim
    (λ b. absurd (omega (arith, b.1 listed codes a.0, a.1 listed' codes' b.0)))
    (λ b. one_by_use IsBig before s trees listed listed' codes codes' all a.0 b.0) q) p

-- ---- the strict form

-- the labels by use are listed once, and those of mandatory hypotheses aren't
pub by_use_list : (P : Trees → Type 0) (before : List Sentence) (s : Sentence) (trees : Trees)
    (listed : List (List ℕ)) (codes : List Code) → IsByUse P before s trees listed codes
    → IsStrictList before s listed
by_use_list P before s trees listed codes p = record {
  once = p.by_use.once;
  optional = λ hypotheses h label those has named among.
      let same : hypotheses ≡ p.says.hypotheses =
      mandatory_unique before s hypotheses p.says.hypotheses those p.says.mandatory in
      ((p.by_use.those label).0 among).1 (in_contains p.says.labels label
      (label_in p.says.hypotheses p.says.labels h label p.says.labelled
      (rw same at (contains_in hypotheses h has)) named));
}
