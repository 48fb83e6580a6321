-- A tree that fits has a proof that shares those of its subtrees, no more than one, and is told by
-- it: so with its fully shared proof.
use Rattle.std.proofs.Common.{◌≡◌, ℕ, ◌<◌, List, [], ◌∷◌, ◌++◌, map, slice_get, Some, inl, inr}
use Rattle.std.proofs.Common.{⊎_elim, refl, sym, ap, subst, ◌∙◌, arith, ◌+◌, length}
use Rattle.std.specs.List.{AllZip}
use Rattle.mm_code.specs.declared.code.Code.{Code}
use Rattle.mm_code.specs.declared.code.Code.TheVariants.{Number, Tag}
use Rattle.mm_frame.specs.Sentence.{Sentence}
use Rattle.mm_frame.specs.Frame.{AreMandatory, IsMandatoryAt}
use Rattle.mm_frame.specs.Rules.{AllMeant}
use Rattle.mm_frame.specs.Form.{AllFormed}
use Rattle.mm_frame.proofs.Frames.FrameLaws.{mandatory_unique}
use Rattle.mm_step.specs.Tree.{Trees, none, tree, spelling, TreesFit}
use Rattle.mm_step.specs.Moves.{Move, Makes, name, again, mark}
use Rattle.mm_proof.specs.Tokens.{Says}
use Rattle.mm_forms.specs.Sharing.{PairSays, AreFirstUses, IsPacked, IsSharedProof}
use Rattle.mm_forms.specs.SharingLaws.{OnePacked, ToldByPacked, SomePacked}
use Rattle.mm_step.proofs.ProofSteps.OneStep.{one_label}
use Rattle.mm_step.proofs.ProofSteps.Derivations.{zip_once, makes_once}
use Rattle.mm_frame.proofs.Names.NameNumbers.{same_somes}
use Rattle.mm_proof.proofs.ProofTokens.SaidMoves.{says_once, labelled_at, labels_of}
use Rattle.mm_proof.proofs.ProofTokens.SaidMoves.{mandatory_active}
use Rattle.mm_step.proofs.ProofSteps.Replacements.{those_order}
use Rattle.mm_proof.specs.Mirror.SharedSteps.{In}
use Rattle.mm_proof.proofs.Members.{in_contains, in_apart, Once, once_indices, indices_once}
use Rattle.mm_proof.proofs.Members.{those_of, in_get, contains_in, in_left, in_right}
use Rattle.mm_forms.proofs.FullSharing.OneSharing.{shared_once}
use Rattle.mm_frame.proofs.Rules.DecidedStatements.{contains_dec, mandatory_at_dec}
use Rattle.std.proofs.Math.Decide.{dec_le}
use Rattle.mm_forms.specs.BigSubtrees.{nodes, IsBig, IsSubtree}
use Rattle.mm_forms.specs.Visits.{visits, trees_made}
use Rattle.mm_forms.proofs.FullSharing.FewestSteps.{made_subtrees}
use Rattle.mm_forms.proofs.FullSharing.SharedMoves.{some_shared}

-- ==== a tree has one fully shared proof at most, and is told by it

-- ---- the listed labels

pub uses_once : (word seen listed listed' : List (List ℕ)) → AreFirstUses seen word listed
    → AreFirstUses seen word listed' → listed ≡ listed'
uses_once [] seen listed listed' p q = p ∙ sym q
uses_once (label ∷ word) seen listed listed' (inl p)
    (inl q) = uses_once word seen listed listed' p.1 q.1
uses_once (label ∷ word) seen listed listed' (inl p) (inr q) = absurd (q.0 p.0)
uses_once (label ∷ word) seen listed listed' (inr p) (inl q) = absurd (p.0 q.0)
uses_once (label ∷ word) seen listed listed' (inr p) (inr q) =
    p.2 ∙ ap (λ l. label ∷ l) (uses_once word (label ∷ seen) p.1 q.1 p.3 q.3) ∙ sym q.2

-- none was seen, and none stands twice
pub uses_apart : (word seen listed : List (List ℕ)) → AreFirstUses seen word listed → Once listed
    × ((label : List ℕ) → In listed label → ¬ (In seen label))
uses_apart [] seen listed p = (rw p tt, λ label h. absurd (rw p at h))
uses_apart (label ∷ word) seen listed (inl p) = uses_apart word seen listed p.1
uses_apart (label ∷ word) seen listed (inr p) =
    let h = uses_apart word (label ∷ seen) p.1 p.3 in (
      rw p.2 (λ again. h.1 label again (inl refl), h.0),
      λ other has old.
          let d = rw p.2 at has in
          let later = h.1 other in
          let seen_so = in_contains seen label in grind arith,
    )

-- ---- the labels of mandatory hypotheses

module _ (before : List Sentence) (s : Sentence) (hypotheses : List Sentence)
    (labels : List (List ℕ)) where
  pub not_twice : (i j : ℕ) (label : List ℕ) → AllMeant before → AreMandatory before s hypotheses
      → map (λ (h : Sentence). h.label) hypotheses ≡ map Some labels
      → slice_get labels i ≡ Some label → slice_get labels j ≡ Some label → i < j → ⊥
  not_twice i j label all mandatory labelled p q less =
      let a = labelled_at hypotheses labels i label labelled p in
      let b = labelled_at hypotheses labels j label labelled q in
      let o = those_order (IsMandatoryAt before s) 0 before hypotheses i j a.0 b.0 mandatory less a.1
      b.1 in
      let same : o.0 ≡ o.1 = one_label before o.0 o.1 a.0 b.0 label all o.3 o.4 a.2 b.2 in
      let l : o.0 < o.1 = o.2 in
      omega arith

  pub mandatory_once : AllMeant before → AreMandatory before s hypotheses
      → map (λ (h : Sentence). h.label) hypotheses ≡ map Some labels → Once labels
  mandatory_once all mandatory labelled = indices_once labels (λ i j l p q.
      let less = not_twice i j l all mandatory labelled p q in
      let more = not_twice j i l all mandatory labelled q p in omega arith)

pub once_joined : {X : Type 0} (xs ys : List X) → Once xs → Once ys
    → ((x : X) → In ys x → ¬ (In xs x)) → Once (xs ++ ys)
once_joined [] ys o p apart = p
once_joined (x ∷ xs) ys o p apart = (
  λ h. ⊎_elim (λ a. o.0 a) (λ b. apart x b (inl refl)) (in_apart xs ys x h),
  once_joined xs ys o.1 p (λ y h k. apart y h (inr k)),
)

-- ---- the codes

module _ (labels : List (List ℕ)) where
  one_code : (move : Move (List ℕ)) (c d : Code) → Once labels → Says labels c move
      → Says labels d move → c ≡ d
  one_code move Tag Tag once p q = refl
  one_code move Tag (Number n) once p q = absurd
      (⊎_elim (λ a. cc (p, a.2)) (λ a. cc (p, a.2)) q.2)
  one_code move (Number n) Tag once p q = absurd
      (⊎_elim (λ a. cc (q, a.2)) (λ a. cc (q, a.2)) p.2)
  one_code move (Number n) (Number k) once p q =
      let index : p.0 ≡ q.0 = ⊎_elim
      (λ a. ⊎_elim
      (λ b. once_indices labels p.0 q.0 b.0 once (cc (a.1, a.2, b.2)) b.1)
      (λ b. absurd (cc (a.2, b.2))) q.2)
      (λ a. ⊎_elim (λ b. absurd (cc (a.2, b.2))) (λ b. cc (a.1, a.2, b.1, b.2)) q.2) p.2 in
      ap Number (omega (arith, p.1, q.1, index))

  pub codes_once : (codes codes' : List Code) (moves : List (Move (List ℕ))) → Once labels
      → AllZip (Says labels) codes moves → AllZip (Says labels) codes' moves → codes ≡ codes'
  codes_once [] [] [] once p q = refl
  codes_once (c ∷ codes) codes' [] once p q = absurd p
  codes_once [] codes' (move ∷ moves) once p q = absurd p
  codes_once (c ∷ codes) (d ∷ codes') (move ∷ moves) once p q =
      rw (one_code move c d once p.0 q.0, codes_once codes codes' moves once p.1 q.1)
  codes_once codes codes' moves once p q = absurd q

-- ---- the laws

-- the labels of the mandatory hypotheses are determined
pub same_mandatory : (before : List Sentence) (s : Sentence) (listed listed' : List (List ℕ))
    (codes codes' : List Code) (moves moves' : List (Move (List ℕ)))
    (p : PairSays before s listed codes moves) (q : PairSays before s listed' codes' moves')
    → p.labels ≡ q.labels
same_mandatory before s listed listed' codes codes' moves moves' p q =
    same_somes p.labels q.labels
    (sym p.labelled ∙ ap (map (λ (h : Sentence). h.label))
    (mandatory_unique before s p.hypotheses q.hypotheses p.mandatory q.mandatory) ∙ q.labelled)

pub one_pair : (P : Trees → Type 0) (before : List Sentence) (s : Sentence) (trees : Trees)
    (listed listed' : List (List ℕ)) (codes codes' : List Code) → AllMeant before
    → IsSharedProof P before s trees listed codes
    → IsSharedProof P before s trees listed' codes' → (listed ≡ listed') × (codes ≡ codes')
one_pair P before s trees listed listed' codes codes' all p q =
    let labels = same_mandatory _ _ listed listed' codes codes' p.moves q.moves p.says q.says in
    let same = uses_once _ _ listed listed' (rw labels at p.uses) q.uses in
    let moves = shared_once P before trees p.moves q.moves p.shared q.shared in
    let each = rw (labels, same, moves) at p.says.each in
    let apart = uses_apart (spelling trees) q.says.labels listed' q.uses in
    let once : Once (q.says.labels ++ listed') =
    once_joined q.says.labels listed'
    (mandatory_once before s q.says.hypotheses q.says.labels all q.says.mandatory
    q.says.labelled) apart.0 apart.1 in
    (same, codes_once (q.says.labels ++ listed') codes codes' q.moves once each q.says.each)

pub one_packed_holds : OnePacked
one_packed_holds before s label below listed listed' codes codes' all p q = one_pair IsBig before s
    (tree label below none) listed listed' codes codes' all p q

-- the same pair says the same moves, and these make the same
same_made : (before : List Sentence) (s : Sentence) (trees trees' : Trees)
    (listed listed' : List (List ℕ)) (codes codes' : List Code) → AllMeant before
    → IsPacked before s trees listed codes
    → IsPacked before s trees' listed' codes' → listed ≡ listed' → codes ≡ codes' → trees ≡ trees'
same_made before s trees trees' listed listed' codes codes' all p q e f =
    let labels = same_mandatory _ _ listed listed' codes codes' p.moves q.moves p.says q.says in
    let says = Says (q.says.labels ++ listed') in
    let moves : p.moves ≡ q.moves =
    zip_once says says codes' p.moves q.moves (says_once (q.says.labels ++ listed'))
    (rw (labels, e, f) at p.says.each) q.says.each in
    (makes_once before q.moves none trees trees' [] p.shared.kept q.shared.kept all
    (subst (λ m. Makes before m none [] trees p.shared.kept) moves p.shared.made) q.shared.made).0

pub told_by_packed_holds : ToldByPacked
told_by_packed_holds before s l m a b listed listed' codes codes' all p q = (
  λ same. one_pair IsBig before s (tree m b none) listed listed' codes codes' all (rw same at p) q,
  λ e. same_made before s (tree l a none)
      (tree m b none) listed listed' codes codes' all p q e.0 e.1,
)

-- ==== a tree that fits has a fully shared proof

-- ---- the listed labels

pub some_uses : (word seen : List (List ℕ)) → (listed : List (List ℕ)) × AreFirstUses seen word listed
some_uses [] seen = ([], refl)
some_uses (label ∷ word) seen = elim (contains_dec seen label) [
  | yes c ↦ let r = some_uses word seen in (r.0, inl (c, r.1))
  | no n ↦ let r = some_uses word (label ∷ seen) in (label ∷ r.0, inr (n, r.0, refl, r.1))
]

-- each label was seen or is listed
pub uses_have : (word seen listed : List (List ℕ)) (label : List ℕ) → AreFirstUses seen word listed
    → In word label → In (seen ++ listed) label
uses_have [] seen listed label u h = absurd h
uses_have (l ∷ word) seen listed label (inl u) h =
    let old = contains_in seen l u.0 in
    let left = in_left seen listed label in
    let later = uses_have word seen listed label u.1 in grind arith
uses_have (l ∷ word) seen listed label (inr u) h = rw u.2
    (let left = in_left seen (l ∷ u.1) label in
    let right = in_right seen (l ∷ u.1) label in
    let parts = in_apart (l ∷ seen) u.1 label in
    let later = uses_have word (l ∷ seen) u.1 label u.3 in grind arith)

-- ---- the labels of moves

pub sub_label : (trees : Trees) (label : List ℕ) (below : Trees)
    → IsSubtree trees (tree label below none) → In (spelling trees) label
sub_label none label below h = absurd h
sub_label (tree l b r) label below h =
    let left = in_left (spelling b) (l ∷ spelling r) label in
    let right = in_right (spelling b) (l ∷ spelling r) label in
    let i = sub_label b label below in
    let j = sub_label r label below in grind arith

-- a step by a label makes a tree with this label
pub label_made : (before : List Sentence) (moves : List (Move (List ℕ))) (row : Trees)
    (kept : List Trees) (row' : Trees) (kept' : List Trees)
    (m : Makes before moves row kept row' kept') (label : List ℕ)
    → In moves (name label) → (below : Trees)
    × In (trees_made (visits before moves row kept row' kept' m)) (tree label below none)
label_made before [] row kept row' kept' m label h = absurd h
label_made before (name l ∷ moves) row kept row' kept' m label (inl e) =
    (m.2.1, inl cc)
label_made before (name l ∷ moves) row kept row' kept' m label (inr h) =
    let g = label_made before moves m.0 m.1 row' kept' m.3 label h in (g.0, inr g.1)
label_made before (move ∷ moves) row kept row' kept' m label (inl e) = absurd cc
label_made before (move ∷ moves) row kept row' kept' m label (inr h) =
    label_made before moves m.0 m.1 row' kept' m.3 label h

-- ---- codes

pub some_codes : (labels : List (List ℕ)) (moves : List (Move (List ℕ)))
    → ((label : List ℕ) → In moves (name label) → In labels label) → (codes : List Code)
    × AllZip (Says labels) codes moves
some_codes labels [] known = ([], tt)
some_codes labels (name label ∷ moves) known =
    let at = in_get labels label (known label (inl refl)) in
    let rest = some_codes labels moves (λ l h. known l (inr h)) in
    (Number (at.0 + 1) ∷ rest.0, ((at.0, refl, inl (label, at.1, refl)), rest.1))
some_codes labels (again tag ∷ moves) known =
    let rest = some_codes labels moves (λ l h. known l (inr h)) in (
      Number (length labels + tag + 1) ∷ rest.0,
      ((length labels + tag, refl, inr (tag, refl, refl)), rest.1),
    )
some_codes labels (mark ∷ moves) known =
    let rest = some_codes labels moves (λ l h. known l (inr h)) in
    (Tag ∷ rest.0, (refl, rest.1))

pub some_pair : (P : Trees → Type 0) → ((t : Trees) → Dec (P t)) → (before : List Sentence)
    (s : Sentence) (label : List ℕ) (below : Trees) → AllFormed before
    → TreesFit before (tree label below none) → (listed : List (List ℕ)) × (codes : List Code)
    × IsSharedProof P before s (tree label below none) listed codes
some_pair P each before s label below formed fit =
    let trees : Trees = tree label below none in
    let frame : (hypotheses : List Sentence)
    × AreMandatory before s hypotheses = those_of (IsMandatoryAt before s)
    (mandatory_at_dec before s) 0 before in
    let named = labels_of before s frame.0 formed
    (λ i h e. let a = mandatory_active before s frame.0 i h frame.1 e in (a.0, a.1, a.3)) in
    let uses = some_uses (spelling trees) named.0 in
    let shared = some_shared P each before trees fit in
    let known : (l : List ℕ) → In shared.0 (name l) → In (named.0 ++ uses.0) l = λ l h.
    let g = label_made before shared.0 none [] trees shared.1.kept shared.1.made l h in
    let sub = made_subtrees before shared.0 none [] trees shared.1.kept shared.1.made
    (tree l g.0 none) g.1 in
    uses_have (spelling trees) named.0 uses.0 l uses.1 (sub_label trees l g.0 sub) in
    let said = some_codes (named.0 ++ uses.0) shared.0 known in (
      uses.0,
      said.0,
      record {
        moves = shared.0;
        says = record {
          hypotheses = frame.0;
          mandatory = frame.1;
          labels = named.0;
          labelled = named.1;
          each = said.1;
        };
        shared = shared.1;
        uses = uses.1;
      },
    )

pub some_packed_holds : SomePacked
some_packed_holds before s label below formed fit =
    some_pair IsBig (λ t. dec_le 2 (nodes t)) before s label below formed fit
