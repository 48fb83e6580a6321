-- Steps of a fully shared proof, of which each that repeats a tree of two nodes is written out:
-- they share what is worth a tag, and nothing else.
use Rattle.std.proofs.Common.{◌≡◌, ℕ, ◌+◌, ◌*◌, ◌<◌, ◌≤◌, List, [], ◌∷◌, ◌++◌, length, take, get_or}
use Rattle.std.proofs.Common.{◌⊎◌, inl, inr, ⊎_elim, refl, sym, ap, subst, ◌∙◌, append_assoc, arith}
use Rattle.std.proofs.Common.{append-nil, ◌↔◌}
use Rattle.std.specs.List.{AllZip}
use Rattle.std.proofs.lemmas.List.{length-append, take_more}
use Rattle.mm_base.proofs.Lists.{zip_append}
use Rattle.mm_frame.specs.Sentence.{Sentence}
use Rattle.mm_forms.specs.declared.subtrees.Subtree.{Subtree}
use Rattle.mm_forms.specs.declared.subtrees.Row.{Row}
use Rattle.mm_forms.specs.declared.sharing.SharedStep.{SharedStep}
use Rattle.mm_forms.specs.declared.sharing.SharedStep.TheVariants.{Make, Repeat}
use Rattle.mm_step.specs.Tree.{Trees, none, tree}
use Rattle.mm_forms.specs.BigSubtrees.{IsBig}
use Rattle.mm_forms.specs.ChosenSharing.{IsWorthATag}
use Rattle.mm_forms.specs.Visits.{Visit, makes, repeats, keeps}
use Rattle.mm_forms.specs.Spelled.{IsNumberOfLabel}
use Rattle.mm_proof.specs.Mirror.SharedSteps.{In}
use Rattle.mm_forms.specs.Mirror.SharedSteps.{Covers, Careful}
use Rattle.mm_forms.specs.Mirror.Subtrees.{IsTreeOf, StandsFor, IsOverLeaf}
use Rattle.mm_forms.specs.Mirror.CodeChosen.{IsWrittenOut, AreWrittenOut}
use Rattle.mm_forms.specs.Mirror.CodeSharing.{IsStepOf, AreSharedSteps}
use Rattle.mm_forms.proofs.FullSharing.FewestSteps.{leaf_small}
use Rattle.mm_forms.proofs.FullSharing.SomeSharing.{careful_those}
use Rattle.mm_forms.proofs.PackedProofs.PackingLoops.{leaf_below}

-- ---- trees of two nodes

-- a label over a leaf
abbrev pub pair : (label leaf : List ℕ) → Trees
pair label leaf = tree label (tree leaf none none) none

pub pair_not_worth : (label leaf : List ℕ) → ¬ (IsWorthATag (pair label leaf))
pair_not_worth label leaf worth = absurd (omega arith)

pub leaf_not_worth : (leaf : List ℕ) → ¬ (IsWorthATag (tree leaf none none))
leaf_not_worth leaf worth = absurd (omega arith)

pub worth_big : (t : Trees) → IsWorthATag t → IsBig t
worth_big t worth = omega (arith, worth)

-- a big tree is such a pair, or is worth a tag
pub big_worth : (label : List ℕ) (below : Trees) → IsBig (tree label below none)
    → ((leaf : List ℕ) → ¬ (below ≡ tree leaf none none)) → IsWorthATag (tree label below none)
big_worth label none big other = absurd (leaf_small label big)
big_worth label (tree m none none) big other = absurd (other m refl)
big_worth label (tree m (tree n b r) s) big other = simp length-append (omega arith)
big_worth label (tree m none (tree n b r)) big other = simp length-append (omega arith)

-- ---- what steps do that are written out

-- where a tree of two nodes is repeated, its leaf is made, and the tree; what else is repeated is
-- worth a tag
abbrev pub IsSpread : Visit → List Visit → Type 0
IsSpread (repeats t) here =
    (IsWorthATag t × (here ≡ repeats t ∷ []))
    ⊎ ((label : List ℕ) × (leaf : List ℕ) × (t ≡ pair label leaf)
    × (here ≡ makes (tree leaf none none) ∷ makes t ∷ []))
IsSpread (makes t) here = here ≡ makes t ∷ []
IsSpread (keeps t) here = here ≡ keeps t ∷ []

abbrev pub AreSpread : List Visit → List Visit → Type 0
AreSpread [] w = w ≡ []
AreSpread (x ∷ v) w =
    (here : List Visit) × (later : List Visit) × (w ≡ here ++ later) × IsSpread x here
    × AreSpread v later

spread_apart : (a b w : List Visit) → AreSpread (a ++ b) w → (x : List Visit) × (y : List Visit)
    × (w ≡ x ++ y) × AreSpread a x × AreSpread b y
spread_apart [] b w s = ([], w, refl, refl, s)
spread_apart (v ∷ a) b w s =
    let h = spread_apart a b s.1 s.4 in (
      s.0 ++ h.0,
      h.1,
      s.2 ∙ ap (λ x. s.0 ++ x) h.2 ∙ sym (append_assoc s.0 h.0 h.1),
      (s.0, h.0, refl, s.3, h.3),
      h.4,
    )

-- one visit is spread to its own ones
spread_one : (x : Visit) (w : List Visit) → AreSpread (x ∷ []) w → IsSpread x w
spread_one x w s = subst (IsSpread x) (sym (s.2 ∙ ap (λ l. s.0 ++ l) s.4 ∙ append-nil s.0)) s.3

-- they cover the same trees
spread_covers : (trees : Trees) (v w : List Visit) → Covers trees v → AreSpread v w → Covers trees w
spread_covers none v w p s = subst (λ x. AreSpread x w) p s
spread_covers (tree label below right) v w p s =
    let t : Trees = tree label below none in
    let parts = spread_apart p.0 p.1 w (subst (λ x. AreSpread x w) p.2 s) in
    let later = spread_covers right p.1 parts.1 p.3 parts.4 in
    let here : (parts.0 ≡ repeats t ∷ [])
    ⊎ ((inner : List Visit) × (parts.0 ≡ inner ++ makes t ∷ []) × Covers below inner) = ⊎_elim
    (λ a. spread_repeat label below parts.0
    (spread_one (repeats t) parts.0 (subst (λ x. AreSpread x parts.0) a parts.3)))
    (λ a.
    let q = spread_apart a.0 (makes t ∷ []) parts.0
    (subst (λ x. AreSpread x parts.0) a.1 parts.3) in
    inr (
      q.0,
      q.2 ∙ ap (λ x. q.0 ++ x) (spread_one (makes t) q.1 q.4),
      spread_covers below a.0 q.0 a.2 q.3,
    )) p.4 in
    (parts.0, parts.1, parts.2, later, here)
  where
    spread_repeat : (label : List ℕ) (below : Trees) (here : List Visit)
        → IsSpread (repeats (tree label below none)) here
        → (here ≡ repeats (tree label below none) ∷ [])
        ⊎ ((inner : List Visit) × (here ≡ inner ++ makes (tree label below none) ∷ [])
        × Covers below inner)
    spread_repeat label below here (inl p) = inl p.1
    spread_repeat label below here (inr p) =
        let leaf : Trees = tree p.1 none none in
        let is : below ≡ leaf = cc p.2 in
        inr (
          makes leaf ∷ [],
          p.3,
          subst (λ x. Covers x (makes leaf ∷ [])) (sym is)
              (makes leaf ∷ [], [], refl, refl, inr ([], refl, refl)),
        )

-- those that are worth a tag were made in the one list as in the other
abbrev SameWorth : (made made' : List Trees) → Type 0
SameWorth made made' = (t : Trees) → IsWorthATag t → In made t ↔ In made' t

same_made : (u : Trees) (made made' : List Trees) → SameWorth made made'
    → SameWorth (u ∷ made) (u ∷ made')
same_made u made made' same t worth =
    let p = (same t worth).0 in
    let q = (same t worth).1 in
    (λ h. ⊎_elim (λ e. inl e) (λ k. inr (p k)) h, λ h. ⊎_elim (λ e. inl e) (λ k. inr (q k)) h)

same_more : (u : Trees) (made made' : List Trees) → ¬ (IsWorthATag u) → SameWorth made made'
    → SameWorth made (u ∷ made')
same_more u made made' small same t worth = (
  λ h. inr ((same t worth).0 h),
  λ h. ⊎_elim (λ e. absurd (small (subst IsWorthATag (sym e) worth))) (λ k. (same t worth).1 k) h,
)

-- they share what is worth a tag
spread_careful : (v w : List Visit) (made made' : List Trees) → SameWorth made made'
    → Careful IsBig made v → AreSpread v w → Careful IsWorthATag made' w
spread_careful [] w made made' same c s = rw s tt
spread_careful (makes t ∷ v) w made made' same c s =
    rw (s.2, s.3) (
      λ h. c.0 (worth_big t h.0, (same t h.0).1 h.1),
      spread_careful v s.1 (t ∷ made) (t ∷ made') (same_made t made made' same) c.1 s.4,
    )
spread_careful (keeps t ∷ v) w made made' same c s =
    rw (s.2, s.3) (spread_careful v s.1 made made' same c s.4)
spread_careful (repeats t ∷ v) w made made' same c s =
    elim s.3 [
      | inl p ↦ rw (s.2, p.1) (
        (p.0, (same t p.0).0 c.0.1),
        spread_careful v s.1 made made' same c.1 s.4,
      )
      | inr p ↦
          let leaf : Trees = tree p.1 none none in
          let small : ¬ (IsWorthATag t) = λ worth.
          pair_not_worth p.0 p.1 (subst IsWorthATag p.2 worth) in
          let bare = leaf_not_worth p.1 in
          rw (s.2, p.3) (
            λ h. bare h.0,
            (
              λ h. small h.0,
              spread_careful v s.1 made (t ∷ leaf ∷ made')
                  (same_more t made (leaf ∷ made') small (same_more leaf made made' bare same))
                  c.1 s.4,
            ),
          )
    ]

-- ---- by numbers

-- the leaf of a tree of two nodes is the tree below its label
over_leaf : (st : List Sentence) (rows : List Row) (t leaf : Subtree) (below : Trees)
    → IsOverLeaf rows t leaf → StandsFor st rows t.below below → (m : List ℕ)
    × (below ≡ tree m none none) × IsTreeOf st rows leaf m none
over_leaf st rows t leaf none o stands = absurd (let next = o.numbered.next in omega arith)
over_leaf st rows t leaf (tree m b r) o stands =
    let index : stands.1.index ≡ o.numbered.index =
    omega (arith, stands.1.next, o.numbered.next) in
    let same : stands.0 ≡ o.row = cc (stands.1.there, o.numbered.there, index) in
    let first : stands.0.first ≡ leaf = ap (λ (k : Row). k.first) same ∙ o.first in
    let bare : b ≡ none = leaf_below st rows stands.0.first.below b stands.3
    (ap (λ (k : Subtree). k.below) first ∙ o.bare) in
    let alone : r ≡ none = leaf_below st rows stands.0.right r stands.4
    (ap (λ (k : Row). k.right) same ∙ o.alone) in (
      m,
      cc (bare, alone),
      record {
        named = subst (λ (k : Subtree). IsNumberOfLabel st k.label m) first stands.2;
        stands = o.bare;
      },
    )

-- a tree whose only child is a leaf has two nodes
leaf_over : (st : List Sentence) (rows : List Row) (t : Subtree) (m : List ℕ)
    → (s : StandsFor st rows t.below (tree m none none)) → IsOverLeaf rows t s.0.first
leaf_over st rows t m s =
    record { row = s.0; numbered = s.1; first = refl; bare = s.3; alone = s.4 }

-- what a step does that is written out
written_step : (st : List Sentence) (rows : List Row) (one : SharedStep) (x : Visit)
    (here : List SharedStep) → IsStepOf st rows one x → ((t : Trees) → x ≡ repeats t → IsBig t)
    → IsWrittenOut rows one here
    → (w : List Visit) × AllZip (IsStepOf st rows) here w × IsSpread x w
written_step st rows (Make t) x here o big is = (
  makes (tree o.0 o.1 none) ∷ [],
  rw is ((o.0, o.1, o.2, refl), tt),
  rw o.3 refl,
)
written_step st rows (Repeat t) x here o big (inl p) =
    let q = over_leaf st rows t p.0 o.1 p.1 o.2.stands in (
      makes (tree q.0 none none) ∷ makes (tree o.0 o.1 none) ∷ [],
      rw p.2 ((q.0, none, q.2, refl), ((o.0, o.1, o.2, refl), tt)),
      rw o.3 (inr (o.0, q.0, ap (λ b. tree o.0 b none) q.1, refl)),
    )
written_step st rows (Repeat t) x here o big (inr p) =
    let worth = big_worth o.0 o.1 (big (tree o.0 o.1 none) o.3)
    (λ m e.
    let s = subst (StandsFor st rows t.below) e o.2.stands in
    p.0 s.0.first (leaf_over st rows t m s)) in (
      repeats (tree o.0 o.1 none) ∷ [],
      rw p.1 ((o.0, o.1, o.2, refl), tt),
      rw o.3 (inl (worth, refl)),
    )

written_steps : (st : List Sentence) (rows : List Row) (steps : List SharedStep) (v : List Visit)
    (new : List SharedStep) → AllZip (IsStepOf st rows) steps v
    → ((t : Trees) → In v (repeats t) → IsBig t) → AreWrittenOut rows steps new
    → (w : List Visit) × AllZip (IsStepOf st rows) new w × AreSpread v w
written_steps st rows [] [] new z big are = ([], rw are tt, refl)
written_steps st rows (one ∷ steps) (x ∷ v) new z big are =
    let first = written_step st rows one x are.0 z.0 (λ t e. big t (inl e)) are.3 in
    let rest = written_steps st rows steps v are.1 z.1 (λ t h. big t (inr h)) are.4 in (
      first.0 ++ rest.0,
      rw are.2 (zip_append (IsStepOf st rows) are.0 first.0 are.1 rest.0 first.1 rest.1),
      (first.0, rest.0, refl, first.2, rest.2),
    )
written_steps st rows steps v new z big are = absurd z

pub chosen_shared : (st : List Sentence) (rows : List Row) (trees : Trees)
    (steps new : List SharedStep) → AreWrittenOut rows steps new
    → AreSharedSteps IsBig st rows trees steps → AreSharedSteps IsWorthATag st rows trees new
chosen_shared st rows trees steps new are s =
    let w = written_steps st rows steps s.visits new s.said
    (λ t h. careful_those IsBig [] s.visits t s.careful h) are in
    record {
      visits = w.0;
      said = w.1;
      covers = spread_covers trees s.visits w.0 s.covers w.2;
      careful = spread_careful s.visits w.0 [] [] (λ t worth. (λ h. h, λ h. h)) s.careful w.2;
    }

-- ---- the steps so far

written_more : (rows : List Row) (steps new : List SharedStep) (one : SharedStep)
    (here : List SharedStep) → AreWrittenOut rows steps new → IsWrittenOut rows one here
    → AreWrittenOut rows (steps ++ one ∷ []) (new ++ here)
written_more rows [] new one here are is =
    (here, [], ap (λ l. l ++ here) are ∙ sym (append-nil here), is, refl)
written_more rows (s ∷ steps) new one here are is = (
  are.0,
  are.1 ++ here,
  ap (λ l. l ++ here) are.2 ∙ append_assoc are.0 are.1 here,
  are.3,
  written_more rows steps are.1 one here are.4 is,
)

pub written_next : (rows : List Row) (steps : List SharedStep) (i : ℕ) (d : SharedStep)
    (new new' : List SharedStep) → i < length steps → AreWrittenOut rows (take i steps) new
    → (here : List SharedStep) × (new' ≡ new ++ here) × IsWrittenOut rows (get_or steps i d) here
    → AreWrittenOut rows (take (i + 1) steps) new'
written_next rows steps i d new new' less are is =
    rw (take_more steps i d less, is.1)
    (written_more rows (take i steps) new (get_or steps i d) is.0 are is.2)

-- no step becomes more than two
one_few : (rows : List Row) (one : SharedStep) (here : List SharedStep)
    → IsWrittenOut rows one here → length here ≤ 2
one_few rows (Make t) here is = let l = ap length is in omega arith
one_few rows (Repeat t) here (inl p) = let l = ap length p.2 in omega arith
one_few rows (Repeat t) here (inr p) = let l = ap length p.1 in omega arith

pub written_few : (rows : List Row) (steps new : List SharedStep) → AreWrittenOut rows steps new
    → length new ≤ 2 * length steps
written_few rows [] new are = let l = ap length are in omega arith
written_few rows (one ∷ steps) new are =
    let l = ap length are.2 in
    let n = length-append are.0 are.1 in
    let here = one_few rows one are.0 are.3 in
    let later = written_few rows steps are.1 are.4 in omega arith
