-- Each tree has steps that make no big tree twice, and their labels are first used as its spelling
-- uses them.
use Rattle.std.proofs.Common.{◌≡◌, ℕ, ◌≤◌, List, [], ◌∷◌, ◌++◌, ◌⊎◌, inl, inr, ⊎_elim, refl, arith}
use Rattle.std.proofs.Common.{sym, ap, subst, ◌∙◌, append_assoc, append-nil}
use Rattle.std.proofs.lemmas.List.{length-append}
use Rattle.mm_frame.proofs.Rules.DecidedStatements.{symbol_dec, dec_as, dec_both, dec_or}
use Rattle.mm_step.specs.Tree.{Trees, none, tree, spelling}
use Rattle.mm_forms.specs.BigSubtrees.{nodes, IsSubtree}
use Rattle.mm_forms.specs.Visits.{Visit, makes, repeats, keeps, trees_made}
use Rattle.mm_proof.specs.Mirror.SharedSteps.{In}
use Rattle.mm_proof.proofs.Members.{in_apart, contains_in, in_contains, in_left, in_right}
use Rattle.mm_proof.proofs.Members.{in_push}
use Rattle.mm_forms.specs.Mirror.SharedSteps.{Covers, Careful, after}
use Rattle.mm_forms.proofs.FullSharing.OneSharing.{after-append}
use Rattle.mm_forms.proofs.FullSharing.OneSharing.{careful_join, Tidy, Marked, visit_made}
use Rattle.mm_forms.proofs.FullSharing.OneSharing.{made_visit, careful_apart}
use Rattle.mm_forms.specs.Sharing.{AreFirstUses}

-- ==== each tree has steps that make no big tree twice, and visits that keep what these steps
-- repeat

-- ---- decisions

trees_dec : (t u : Trees) → Dec (t ≡ u)
trees_dec none none = yes refl
trees_dec none (tree m c s) = no (λ e. cc)
trees_dec (tree l b r) none = no (λ e. cc)
trees_dec (tree l b r) (tree m c s) = dec_as (λ e. cc) (λ e. (cc, (cc, cc)))
    (dec_both (symbol_dec l m) (dec_both (trees_dec b c) (trees_dec r s)))

in_dec : (ts : List Trees) (t : Trees) → Dec (In ts t)
in_dec [] t = no (λ h. h)
in_dec (u ∷ ts) t = dec_or (trees_dec u t) (in_dec ts t)

repeat_dec : (x : Visit) (t : Trees) → Dec (x ≡ repeats t)
repeat_dec (repeats u) t = dec_as (λ e. cc) (λ e. cc) (trees_dec u t)
repeat_dec x t = no (λ e. cc)

repeats_dec : (v : List Visit) (t : Trees) → Dec (In v (repeats t))
repeats_dec [] t = no (λ h. h)
repeats_dec (x ∷ v) t = dec_or (repeat_dec x t) (repeats_dec v t)

-- ---- subtrees have no more nodes

sub_nodes : (trees u : Trees) → IsSubtree trees u → nodes u ≤ nodes trees
sub_nodes none u h = absurd h
sub_nodes (tree label below right) u h =
    let a = length-append (spelling below) (label ∷ spelling right) in
    let b = length-append (spelling below) (label ∷ []) in
    let i = sub_nodes below u in
    let j = sub_nodes right u in grind arith

-- no tree stands below itself
pub not_below : (label : List ℕ) (below : Trees) → ¬ (IsSubtree below (tree label below none))
not_below label below h =
    let g = sub_nodes below (tree label below none) h in
    let a = length-append (spelling below) (label ∷ []) in
    absurd (omega arith)

-- what is made is a subtree of what is covered
pub covered_made : (trees : Trees) (made : List Trees) (v : List Visit) (u : Trees) → Covers trees v
    → In (after made v) u → In made u ⊎ IsSubtree trees u
covered_made none made v u p h = inl (rw p at h)
covered_made (tree label below right) made v u p h =
    let t : Trees = tree label below none in
    let later = covered_made right (after made p.0) p.1 u p.3
    (rw (p.2, after-append made p.0 p.1) at h) in
    ⊎_elim
    (λ earlier. ⊎_elim
    (λ a. inl (rw a at earlier))
    (λ a.
    let inner = rw (a.1, after-append made a.0 (makes t ∷ [])) at earlier in
    let g = covered_made below made a.0 u a.2 in grind arith) p.4)
    (λ sub. inr (inr (inr sub))) later

-- ---- steps

pub some_cover : (P : Trees → Type 0) → ((t : Trees) → Dec (P t)) → (trees : Trees)
    (made : List Trees) → (v : List Visit) × Covers trees v × Careful P made v
some_cover P each none made = ([], refl, tt)
some_cover P each (tree label below right) made = elim (dec_both (each t) (in_dec made t)) [
  | yes h ↦ join (repeats t ∷ []) (h, tt) (inl refl) (some_cover P each right made)
  | no n ↦
      let inner = some_cover P each below made in
      let fresh : ¬ (P t × In (after made inner.0) t) = λ h. ⊎_elim (λ old. n (h.0, old))
      (not_below label below) (covered_made below made inner.0 t inner.1 h.1) in
      join (inner.0 ++ makes t ∷ [])
      (careful_join P made inner.0 (makes t ∷ []) inner.2 (fresh, tt))
      (inr (inner.0, refl, inner.1))
      (some_cover P each right (after made (inner.0 ++ makes t ∷ [])))
]
  where
    t : Trees
    t = tree label below none

    join : (here : List Visit) → Careful P made here
        → ((here ≡ repeats t ∷ [])
        ⊎ ((inner : List Visit) × (here ≡ inner ++ makes t ∷ []) × Covers below inner))
        → (later : List Visit) × Covers right later × Careful P (after made here) later
        → (v : List Visit) × Covers (tree label below right) v × Careful P made v
    join here c is later = (
      here ++ later.0,
      (here, later.0, refl, later.1, is),
      careful_join P made here later.0 c later.2,
    )

-- ---- marks

pub covers_no_keeps : (trees : Trees) (v : List Visit) → Covers trees v → (t : Trees)
    → ¬ (In v (keeps t))
covers_no_keeps none v p t h = rw p at h
covers_no_keeps (tree label below right) v p t h =
    let within : ¬ (In p.0 (keeps t)) = ⊎_elim
    (λ a k. let e = rw a at k in grind arith)
    (λ a k.
    let e = in_apart a.0 _ _ (rw a.1 at k) in
    let i = covers_no_keeps below a.0 a.2 t in grind arith) p.4 in
    ⊎_elim within (covers_no_keeps right p.1 p.3 t) (in_apart p.0 p.1 (keeps t) (rw p.2 at h))

pub some_marks : (whole steps : List Visit) → ((t : Trees) → ¬ (In steps (keeps t)))
    → (v : List Visit) × Marked whole steps v
some_marks whole [] p = ([], refl)
some_marks whole (makes t ∷ steps) p = let r = some_marks whole steps (λ u h. p u (inr h)) in
    elim (repeats_dec whole t) [
      | yes h ↦ (makes t ∷ keeps t ∷ r.0, (r.0, r.1, inl (h, refl)))
      | no n ↦ (makes t ∷ r.0, (r.0, r.1, inr (n, refl)))
    ]
some_marks whole (repeats t ∷ steps) p = let r = some_marks whole steps (λ u h. p u (inr h)) in
    (repeats t ∷ r.0, (r.0, r.1, refl))
some_marks whole (keeps t ∷ steps) p = absurd (p t (inl refl))

-- what is kept is repeated by the whole
pub marked_kept : (whole steps v : List Visit) (t : Trees) → Marked whole steps v → In v (keeps t)
    → In whole (repeats t)
marked_kept whole [] v t m h = absurd (rw m at h)
marked_kept whole (makes u ∷ steps) v t m h =
    let later = marked_kept whole steps m.0 t m.1 in
    ⊎_elim (λ a. let k = rw a.1 at h in grind arith) (λ a. let k = rw a.1 at h in grind arith) m.2
marked_kept whole (repeats u ∷ steps) v t m h =
    let later = marked_kept whole steps m.0 t m.1 in
    let k = rw m.2 at h in grind arith
marked_kept whole (keeps u ∷ steps) v t m h = absurd m

-- what the steps repeat the visits repeat
pub marked_repeats : (whole steps v : List Visit) (t : Trees) → Marked whole steps v
    → In steps (repeats t) → In v (repeats t)
marked_repeats whole [] v t m h = absurd h
marked_repeats whole (makes u ∷ steps) v t m h =
    let later = marked_repeats whole steps m.0 t m.1 in
    ⊎_elim (λ a. rw a.1 (grind arith)) (λ a. rw a.1 (grind arith)) m.2
marked_repeats whole (repeats u ∷ steps) v t m h =
    let later = marked_repeats whole steps m.0 t m.1 in rw m.2 (grind arith)
marked_repeats whole (keeps u ∷ steps) v t m h = absurd m

-- what careful steps repeat is one of those that they share
pub careful_those : (P : Trees → Type 0) (made : List Trees) (v : List Visit) (t : Trees)
    → Careful P made v → In v (repeats t) → P t
careful_those P made [] t c h = absurd h
careful_those P made (makes u ∷ v) t c h =
    let i = careful_those P (u ∷ made) v t c.1 in grind arith
careful_those P made (repeats u ∷ v) t c h = let i = careful_those P made v t c.1 in grind arith
careful_those P made (keeps u ∷ v) t c h = let i = careful_those P made v t c in grind arith

-- ---- they are tidy

-- where what was made so far, and is repeated by the whole, was kept
pub marked_tidy : (P : Trees → Type 0) (whole steps v done : List Visit)
    → ((t : Trees) → In whole (repeats t) → P t)
    → ((t : Trees) → In steps (repeats t) → In whole (repeats t))
    → ((t : Trees) → In done (makes t) → In whole (repeats t) → In done (keeps t))
    → Careful P (trees_made done) steps → Marked whole steps v → Tidy P done v
marked_tidy P whole [] v done big parts kept c m = rw m tt
marked_tidy P whole (makes t ∷ steps) v done big parts kept c m =
    let fresh : P t → ¬ (In done (makes t)) = λ is has. c.0 (is, visit_made done t has) in
    ⊎_elim
    (λ a. rw a.1 (
      fresh,
      (
        big t a.0,
        (done, refl),
        marked_tidy P whole steps m.0 (keeps t ∷ makes t ∷ done) big (λ u h. parts u (inr h))
            (λ u h needed. grind arith) c.1 m.1,
      ),
    ))
    (λ a. rw a.1 (
      fresh,
      marked_tidy P whole steps m.0 (makes t ∷ done) big (λ u h. parts u (inr h))
          (λ u h needed. grind arith) c.1 m.1,
    )) m.2
marked_tidy P whole (repeats t ∷ steps) v done big parts kept c m = rw m.2 (
  kept t (made_visit done t c.0.1) (parts t (inl refl)),
  marked_tidy P whole steps m.0 (repeats t ∷ done) big (λ u h. parts u (inr h))
      (λ u h needed. grind arith) c.1 m.1,
)
marked_tidy P whole (keeps t ∷ steps) v done big parts kept c m = absurd m

-- ==== the labels that careful steps use first are those that the spelling of their trees does

-- ---- first uses of joined words

-- what was seen, with what is listed after it
abbrev pub upon : (listed seen : List (List ℕ)) → List (List ℕ)
upon [] seen = seen
upon (x ∷ listed) seen = upon listed (x ∷ seen)

in_upon : (listed seen : List (List ℕ)) (x : List ℕ) → In seen x → In (upon listed seen) x
in_upon [] seen x h = h
in_upon (y ∷ listed) seen x h = in_upon listed (y ∷ seen) x (inr h)

uses_join : (w more seen mid others : List (List ℕ)) → AreFirstUses seen w mid → AreFirstUses (upon mid seen) more others → AreFirstUses seen (w ++ more) (mid ++ others)
uses_join [] more seen mid others p q = rw p (rw p at q)
uses_join (l ∷ w) more seen mid others (inl u) q = inl (u.0, uses_join w more seen mid others u.1 q)
uses_join (l ∷ w) more seen mid others (inr u) q =
    inr (u.0, u.1 ++ others, ap (λ m. m ++ others) u.2, uses_join w more (l ∷ seen) u.1 others u.3 (subst (λ m. AreFirstUses (upon m seen) more others) u.2 q))

record Split (w more seen listed : List (List ℕ)) : Type 0 where
  mid : List (List ℕ)
  others : List (List ℕ)
  parts : listed ≡ mid ++ others
  first : AreFirstUses seen w mid
  second : AreFirstUses (upon mid seen) more others

uses_split : (w more seen listed : List (List ℕ)) → AreFirstUses seen (w ++ more) listed → Split w more seen listed
uses_split [] more seen listed p = record { mid = []; others = listed; parts = refl; first = refl; second = p }
uses_split (l ∷ w) more seen listed (inl u) =
    let s = uses_split w more seen listed u.1 in
    record { mid = s.mid; others = s.others; parts = s.parts; first = inl (u.0, s.first); second = s.second }
uses_split (l ∷ w) more seen listed (inr u) =
    let s = uses_split w more (l ∷ seen) u.1 u.3 in
    record { mid = l ∷ s.mid; others = s.others; parts = u.2 ∙ ap (λ m. l ∷ m) s.parts; first = inr (u.0, s.mid, refl, s.first); second = s.second }

-- where all was seen, nothing is listed
uses_none : (w seen : List (List ℕ)) → ((x : List ℕ) → In w x → In seen x) → AreFirstUses seen w []
uses_none [] seen known = refl
uses_none (l ∷ w) seen known = inl (in_contains seen l (known l (inl refl)), uses_none w seen (λ x h. known x (inr h)))

-- each label of the word was seen or is listed
uses_known : (w seen mid : List (List ℕ)) (x : List ℕ) → AreFirstUses seen w mid → In w x → In (upon mid seen) x
uses_known [] seen mid x p h = absurd h
uses_known (l ∷ w) seen mid x (inl u) (inl e) = in_upon mid seen x (subst (In seen) e (contains_in seen l u.0))
uses_known (l ∷ w) seen mid x (inl u) (inr h) = uses_known w seen mid x u.1 h
uses_known (l ∷ w) seen mid x (inr u) (inl e) = subst (λ m. In (upon m seen) x) (sym u.2) (in_upon u.1 (l ∷ seen) x (inl e))
uses_known (l ∷ w) seen mid x (inr u) (inr h) = subst (λ m. In (upon m seen) x) (sym u.2) (uses_known w (l ∷ seen) u.1 x u.3 h)

-- ---- the labels of steps

abbrev pub root_label : Trees → List (List ℕ)
root_label none = []
root_label (tree label below right) = label ∷ []

-- the labels by which the steps make trees, in order
abbrev pub labels_in : List Visit → List (List ℕ)
labels_in [] = []
labels_in (makes t ∷ v) = root_label t ++ labels_in v
labels_in (x ∷ v) = labels_in v

labels_in-append : (v w : List Visit) → labels_in (v ++ w) ≡ labels_in v ++ labels_in w
labels_in-append [] w = refl
labels_in-append (makes t ∷ v) w = ap (λ l. root_label t ++ l) (labels_in-append v w) ∙ sym (append_assoc (root_label t) (labels_in v) (labels_in w))
labels_in-append (x ∷ v) w = labels_in-append v w

-- ---- the labels of trees

sub_spelled : (trees t : Trees) (x : List ℕ) → IsSubtree trees t → In (spelling t) x → In (spelling trees) x
sub_spelled none t x s h = absurd s
sub_spelled (tree label below right) t x (inl e) h =
    ⊎_elim
    (λ a. in_left (spelling below) (label ∷ spelling right) x a)
    (λ b. in_right (spelling below) (label ∷ spelling right) x (inl b))
    (in_push (spelling below) label x (subst (λ u. In (spelling u) x) e h))
sub_spelled (tree label below right) t x (inr (inl s)) h = in_left (spelling below) (label ∷ spelling right) x (sub_spelled below t x s h)
sub_spelled (tree label below right) t x (inr (inr s)) h = in_right (spelling below) (label ∷ spelling right) x (inr (sub_spelled right t x s h))

-- the labels of what was made were seen
abbrev pub AreKnown : List Trees → List (List ℕ) → Type 0
AreKnown made seen = (t : Trees) → In made t → (x : List ℕ) → In (spelling t) x → In seen x

pub spelled_uses : (P : Trees → Type 0) (trees : Trees) (made : List Trees) (v : List Visit) (seen listed : List (List ℕ)) → AreKnown made seen → Covers trees v → Careful P made v → AreFirstUses seen (labels_in v) listed
    → AreFirstUses seen (spelling trees) listed
spelled_uses P none made v seen listed known p c u = subst (λ x. AreFirstUses seen (labels_in x) listed) p u
spelled_uses P (tree label below right) made v seen listed known p c u =
    let t : Trees = tree label below none in
    let parts = careful_apart P made p.0 p.1 (subst (Careful P made) p.2 c) in
    let s = uses_split (labels_in p.0) (labels_in p.1) seen listed
    (subst (λ w. AreFirstUses seen w listed) (ap labels_in p.2 ∙ labels_in-append p.0 p.1) u) in
    let first : AreFirstUses seen (spelling below ++ label ∷ []) s.mid = ⊎_elim
    (λ a.
    let bare : s.mid ≡ [] = subst (λ x. AreFirstUses seen (labels_in x) s.mid) a s.first in
    let again : Careful P made (repeats t ∷ []) = subst (Careful P made) a parts.0 in
    subst (AreFirstUses seen (spelling t)) (sym bare) (uses_none (spelling t) seen (known t again.0.1)))
    (λ a.
    let inner = careful_apart P made a.0 (makes t ∷ []) (subst (Careful P made) a.1 parts.0) in
    let q = uses_split (labels_in a.0) (label ∷ []) seen s.mid
    (subst (λ w. AreFirstUses seen w s.mid) (ap labels_in a.1 ∙ labels_in-append a.0 (makes t ∷ [])) s.first) in
    subst (AreFirstUses seen (spelling below ++ label ∷ [])) (sym q.parts)
    (uses_join (spelling below) (label ∷ []) seen q.mid q.others (spelled_uses P below made a.0 seen q.mid known a.2 inner.0 q.first) q.second))
    p.4 in
    let covers : Covers t p.0 = (p.0, [], sym (append-nil p.0), refl, p.4) in
    let second : AreFirstUses (upon s.mid seen) (spelling right) s.others =
    spelled_uses P right (after made p.0) p.1 (upon s.mid seen) s.others (λ u h x k. ⊎_elim
    (λ old. in_upon s.mid seen x (known u old x k))
    (λ sub. uses_known (spelling t) seen s.mid x first (sub_spelled t u x sub k))
    (covered_made t made p.0 u covers h)) p.3 parts.1 s.second in
    rw (s.parts, ← append_assoc (spelling below) (label ∷ []) (spelling right))
    (uses_join (spelling below ++ label ∷ []) (spelling right) seen s.mid s.others first second)
