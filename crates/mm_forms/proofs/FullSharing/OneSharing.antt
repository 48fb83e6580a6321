-- Steps cover trees: what shares all and makes the same trees is one list of steps, and one of
-- moves.
use Rattle.std.proofs.Common.{◌≡◌, ℕ, List, [], ◌∷◌, ◌++◌, inl, inr, ⊎_elim, refl, sym, ap, subst}
use Rattle.std.proofs.Common.{◌∙◌, append_assoc, append-nil, ◌⊎◌, arith, suc, ◌+◌, ◌<◌, length}
use Rattle.std.proofs.Common.{slice_get, Some}
use Rattle.mm_frame.specs.Sentence.{Sentence}
use Rattle.mm_step.specs.Tree.{Trees, none, tree, beside}
use Rattle.mm_step.specs.Moves.{Move, name, again, mark, Makes}
use Rattle.mm_forms.specs.Visits.{Visit, makes, repeats, keeps, visits, trees_made}
pub use Rattle.mm_forms.specs.Mirror.SharedSteps.{Covers, Careful, after}
use Rattle.mm_proof.specs.Mirror.SharedSteps.{In}
use Rattle.mm_proof.proofs.Members.{get_in, in_push, Once, in_get, contains_in, in_apart}
use Rattle.mm_proof.proofs.Members.{once_indices}
use Rattle.mm_forms.specs.BigSubtrees.{StandOnce}
use Rattle.std.proofs.lemmas.Option.{same_Some, slice_get_within}
use Rattle.mm_base.proofs.Lists.{get_kept}
use Rattle.mm_forms.specs.Sharing.{MakeOnce, KeepMade, ShareThose}

-- ==== how steps make trees: each tree is repeated, or its children are made and then itself. Steps
-- that make no tree twice, and repeat what was made, are one list

-- the steps alone
abbrev pub strip : List Visit → List Visit
strip [] = []
strip (keeps t ∷ v) = strip v
strip (x ∷ v) = x ∷ strip v

pub covers_beside : (a b : Trees) (v w : List Visit) → Covers a v → Covers b w
    → Covers (beside a b) (v ++ w)
covers_beside none b v w p q = subst (λ x. Covers b (x ++ w)) (sym p) q
covers_beside (tree label below right) b v w p q = (
  p.0,
  p.1 ++ w,
  ap (λ x. x ++ w) p.2 ∙ append_assoc p.0 p.1 w,
  covers_beside right b p.1 w p.3 q,
  p.4,
)

pub covers_apart : (a b : Trees) (v : List Visit) → Covers (beside a b) v → (x : List Visit)
    × (y : List Visit) × (v ≡ x ++ y) × Covers a x × Covers b y
covers_apart none b v p = ([], v, refl, refl, p)
covers_apart (tree label below right) b v p =
    let h = covers_apart right b p.1 p.3 in (
      p.0 ++ h.0,
      h.1,
      p.2 ∙ ap (λ x. p.0 ++ x) h.2 ∙ sym (append_assoc p.0 h.0 h.1),
      (p.0, h.0, refl, h.3, p.4),
      h.4,
    )

module _ (label : List ℕ) (below : Trees) where
  -- one tree, made or repeated
  pub covers_made_one : (v : List Visit) → Covers below v
      → Covers (tree label below none) (v ++ makes (tree label below none) ∷ [])
  covers_made_one v p =
      let steps : List Visit = v ++ makes (tree label below none) ∷ [] in
      (steps, [], sym (append-nil steps), refl, inr (v, refl, p))

  pub covers_one : Covers (tree label below none) (repeats (tree label below none) ∷ [])
  covers_one = (repeats (tree label below none) ∷ [], [], refl, refl, inl refl)

-- a kept tree is one tree
abbrev pub AreOnes : List Trees → Type 0
AreOnes kept =
    (t : Trees) → In kept t → (label : List ℕ) × (below : Trees) × (t ≡ tree label below none)

pub ones_push : (kept : List Trees) (label : List ℕ) (below : Trees) → AreOnes kept
    → AreOnes (kept ++ tree label below none ∷ [])
ones_push kept label below ones t h = ⊎_elim (λ a. ones t a) (λ e. (label, below, sym e))
    (in_push kept (tree label below none) t h)

-- what moves do covers what they make
covers_made : (before : List Sentence) (moves : List (Move (List ℕ))) (row : Trees)
    (kept : List Trees) (row' : Trees) (kept' : List Trees)
    (m : Makes before moves row kept row' kept') (v : List Visit)
    → AreOnes kept → Covers row v → Covers row'
    (v ++ strip (visits before moves row kept row' kept' m))
covers_made before [] row kept row' kept' m v ones p = rw (m.0, append-nil) p
covers_made before (name label ∷ moves) row kept row' kept' m v ones p =
    let step = m.2 in
    let t : Trees = tree label step.1 none in
    let parts = covers_apart step.0 step.1 v (rw step.2 at p) in
    let next : Covers m.0 (v ++ makes t ∷ []) =
    rw (step.4, parts.2, append_assoc parts.0 parts.1 (makes t ∷ []))
    (covers_beside step.0 t parts.0 (parts.1 ++ makes t ∷ []) parts.3
    (covers_made_one label step.1 parts.1 parts.4)) in
    rw (← append_assoc v (makes t ∷ []) (strip (visits before moves m.0 m.1 row' kept' m.3)))
    (covers_made before moves m.0 m.1 row' kept' m.3 (v ++ makes t ∷ [])
    (subst AreOnes (sym step.5) ones) next)
covers_made before (again tag ∷ moves) row kept row' kept' m v ones p =
    let t = m.2.0 in
    let one = ones t (get_in kept tag t m.2.1) in
    let next : Covers m.0 (v ++ repeats t ∷ []) =
    rw m.2.2 (covers_beside row t v (repeats t ∷ []) p (rw one.2 (covers_one one.0 one.1))) in
    rw (← append_assoc v (repeats t ∷ []) (strip (visits before moves m.0 m.1 row' kept' m.3)))
    (covers_made before moves m.0 m.1 row' kept' m.3 (v ++ repeats t ∷ [])
    (subst AreOnes (sym m.2.3) ones) next)
covers_made before (mark ∷ moves) row kept row' kept' m v ones p =
    let step = m.2 in
    covers_made before moves m.0 m.1 row' kept' m.3 v
    (subst AreOnes (sym step.5) (ones_push kept step.1 step.2 ones)) (rw step.4 p)

-- ---- steps that make no big tree twice, and repeat a big one only after it was made

pub after_has : (made : List Trees) (v : List Visit) (t : Trees) → In made t → In (after made v) t
after_has made [] t h = h
after_has made (makes u ∷ v) t h = after_has (u ∷ made) v t (inr h)
after_has made (x ∷ v) t h = after_has made v t h

pub after-append : (made : List Trees) (v w : List Visit)
    → after made (v ++ w) ≡ after (after made v) w
after-append made [] w = refl
after-append made (makes u ∷ v) w = after-append (u ∷ made) v w
after-append made (x ∷ v) w = after-append made v w

pub careful_apart : (P : Trees → Type 0) (made : List Trees) (v w : List Visit)
    → Careful P made (v ++ w) → Careful P made v × Careful P (after made v) w
careful_apart P made [] w c = (tt, c)
careful_apart P made (makes u ∷ v) w c =
    let h = careful_apart P (u ∷ made) v w c.1 in ((c.0, h.0), h.1)
careful_apart P made (repeats u ∷ v) w c = let h = careful_apart P made v w c.1 in ((c.0, h.0), h.1)
careful_apart P made (keeps u ∷ v) w c = careful_apart P made v w c

pub careful_join : (P : Trees → Type 0) (made : List Trees) (v w : List Visit) → Careful P made v
    → Careful P (after made v) w → Careful P made (v ++ w)
careful_join P made [] w c d = d
careful_join P made (makes u ∷ v) w c d = (c.0, careful_join P (u ∷ made) v w c.1 d)
careful_join P made (repeats u ∷ v) w c d = (c.0, careful_join P made v w c.1 d)
careful_join P made (keeps u ∷ v) w c d = careful_join P made v w c d

-- a tree isn't both repeated and made
repeated_or_made : (P : Trees → Type 0) (made : List Trees) (inner : List Visit) (t : Trees)
    → Careful P made (repeats t ∷ []) → Careful P made (inner ++ makes t ∷ []) → ⊥
repeated_or_made P made inner t c d =
    (careful_apart P made inner (makes t ∷ []) d).1.0 (c.0.0, after_has made inner t c.0.1)

-- such steps are determined by what they cover
one_cover : (P : Trees → Type 0) (trees : Trees) (made : List Trees) (v w : List Visit)
    → Covers trees v → Covers trees w → Careful P made v → Careful P made w → v ≡ w
one_cover P none made v w p q c d = p ∙ sym q
one_cover P (tree label below right) made v w p q c d =
    let t : Trees = tree label below none in
    let cv = careful_apart P made p.0 p.1 (subst (Careful P made) p.2 c) in
    let cw = careful_apart P made q.0 q.1 (subst (Careful P made) q.2 d) in
    let here : p.0 ≡ q.0 = ⊎_elim
    (λ a. ⊎_elim
    (λ b. a ∙ sym b)
    (λ b. absurd (repeated_or_made P made b.0 t (rw a at cv.0) (rw b.1 at cw.0))) q.4)
    (λ a. ⊎_elim
    (λ b. absurd (repeated_or_made P made a.0 t (rw b at cw.0) (rw a.1 at cv.0)))
    (λ b.
    let ca = careful_apart P made a.0 (makes t ∷ []) (subst (Careful P made) a.1 cv.0) in
    let cb = careful_apart P made b.0 (makes t ∷ []) (subst (Careful P made) b.1 cw.0) in
    a.1 ∙ ap (λ x. x ++ makes t ∷ []) (one_cover P below made a.0 b.0 a.2 b.2 ca.0 cb.0) ∙ sym b.1)
    q.4) p.4 in
    let later : p.1 ≡ q.1 = one_cover P right (after made q.0) p.1 q.1 p.3 q.3
    (subst (λ x. Careful P (after made x) p.1) here cv.1) cw.1 in
    p.2 ∙ ap (λ x. x ++ p.1) here ∙ ap (λ x. q.0 ++ x) later ∙ sym q.2

-- ==== what moves that share all do, said of each visit by those before it; and that it is told by
-- the steps alone

-- The visits, after those done, the last of which comes first: none makes a big tree again, each
-- repeats a kept one, and each keeps the big tree that was just made.
abbrev pub Tidy : (P : Trees → Type 0) → (done : List Visit) → List Visit → Type 0
Tidy P done [] = Unit {0}
Tidy P done (makes t ∷ v) = (P t → ¬ (In done (makes t))) × Tidy P (makes t ∷ done) v
Tidy P done (repeats t ∷ v) = In done (keeps t) × Tidy P (repeats t ∷ done) v
Tidy P done (keeps t ∷ v) = P t × ((rest : List Visit) × (done ≡ makes t ∷ rest))
    × Tidy P (keeps t ∷ done) v

-- ---- what the visits that are done say

-- what is kept is big, and was made
abbrev pub KeepsMade : (P : Trees → Type 0) → List Visit → Type 0
KeepsMade P done = (t : Trees) → In done (keeps t) → P t × In done (makes t)

-- ---- the trees made, and the visits that make them

pub made_visit : (v : List Visit) (t : Trees) → In (trees_made v) t → In v (makes t)
made_visit [] t h = absurd h
made_visit (makes u ∷ v) t h = let ih = made_visit v t in grind arith
made_visit (x ∷ v) t h = inr (made_visit v t h)

pub visit_made : (v : List Visit) (t : Trees) → In v (makes t) → In (trees_made v) t
visit_made [] t h = absurd h
visit_made (x ∷ v) t h = let ih = visit_made v t in grind arith

-- tidy visits are careful steps
tidy_careful : (P : Trees → Type 0) (v done : List Visit) → KeepsMade P done → Tidy P done v
    → Careful P (trees_made done) (strip v)
tidy_careful P [] done k c = tt
tidy_careful P (makes t ∷ v) done k c = (
  λ h. c.0 h.0 (made_visit done t h.1),
  tidy_careful P v (makes t ∷ done) (λ u h. grind arith) c.1,
)
tidy_careful P (repeats t ∷ v) done k c =
    let g = k t c.0 in
    ((g.0, visit_made done t g.1), tidy_careful P v (repeats t ∷ done) (λ u h. grind arith) c.1)
tidy_careful P (keeps t ∷ v) done k c = tidy_careful P v (keeps t ∷ done) (λ u h. grind arith) c.2

-- ---- a tree that was made and isn't kept next is never kept, and so never repeated

-- the visit before one that keeps made the tree
next_keeps : (P : Trees → Type 0) (x : Visit) (done v rest : List Visit) (t : Trees)
    → Tidy P (x ∷ done) v → v ≡ keeps t ∷ rest → P t × (x ≡ makes t)
next_keeps P x done v rest t c e =
    let d : Tidy P (x ∷ done) (keeps t ∷ rest) = rw e at c in (d.0, cc d.1.1)

pub not_kept : (P : Trees → Type 0) (v done : List Visit) (t : Trees) → Tidy P done v
    → In done (makes t) → ((rest : List Visit) → v ≡ keeps t ∷ rest → ⊥) → In v (keeps t) → ⊥
not_kept P [] done t c made next h = h
not_kept P (x ∷ v) done t c made next (inl e) = next v (ap (λ y. y ∷ v) e)
not_kept P (keeps u ∷ v) done t c made next (inr h) = not_kept P v (keeps u ∷ done) t c.2 (inr made)
    (λ rest e. let n = next_keeps P (keeps u) done v rest t c.2 e in cc) h
not_kept P (x ∷ v) done t c made next (inr h) = not_kept P v (x ∷ done) t c.1 (inr made)
    (λ rest e. let n = next_keeps P x done v rest t c.1 e in grind arith) h

-- what is repeated is kept before
repeated_kept : (P : Trees → Type 0) (v done : List Visit) (t : Trees) → Tidy P done v
    → In v (repeats t) → In done (keeps t) ⊎ In v (keeps t)
repeated_kept P [] done t c h = absurd h
repeated_kept P (keeps u ∷ v) done t c h =
    let k = repeated_kept P v (keeps u ∷ done) t c.2 in grind arith
repeated_kept P (x ∷ v) done t c h = let k = repeated_kept P v (x ∷ done) t c.1 in grind arith

-- ---- where marks stand is told by the steps

module _ (whole : List Visit) where
  -- the visits are the steps, with a mark after each that makes a tree which one of the whole repeats
  abbrev pub Marked : (steps v : List Visit) → Type 0
  Marked [] v = v ≡ []
  Marked (makes t ∷ steps) v =
      (rest : List Visit) × Marked steps rest
      × ((In whole (repeats t) × (v ≡ makes t ∷ keeps t ∷ rest))
      ⊎ (¬ (In whole (repeats t)) × (v ≡ makes t ∷ rest)))
  Marked (repeats t ∷ steps) v = (rest : List Visit) × Marked steps rest
      × (v ≡ repeats t ∷ rest)
  Marked (keeps t ∷ steps) v = ⊥

  marked_once : (steps v w : List Visit) → Marked steps v → Marked steps w → v ≡ w
  marked_once [] v w p q = cc
  marked_once (keeps t ∷ steps) v w p q = absurd p
  marked_once (x ∷ steps) v w p q =
      let same = marked_once steps p.0 q.0 p.1 q.1 in grind arith

-- the visits without a mark that they begin with
abbrev pub unmark : List Visit → List Visit
unmark (keeps t ∷ v) = v
unmark v = v

-- a mark follows only what is made, so that one behind something else is none
tidy_marked : (P : Trees → Type 0) (whole v done : List Visit) → KeepsMade P done
    → ((t : Trees) → In done (repeats t) → In done (keeps t)) → Tidy P done v
    → ((t : Trees) → In whole (repeats t) → In done (repeats t) ⊎ In v (repeats t))
    → ((t : Trees) → In v (keeps t) → In whole (repeats t))
    → Marked whole (strip v) (unmark v)
tidy_marked P whole [] done k r c parts refer = refl
tidy_marked P whole (makes t ∷ keeps u ∷ v) done k r c parts refer =
    let same : t ≡ u = cc c.1.1.1 in (
      v,
      tidy_marked P whole (keeps u ∷ v) (makes t ∷ done) (λ x h. grind arith)
          (λ x h. grind arith) c.1 (λ x h. let p = parts x h in grind arith) (λ x h. refer x (inr h)),
      inl (refer t (inr (inl cc)), cc),
    )
tidy_marked P whole (makes t ∷ v) done k r c parts refer = (
  v,
  tidy_marked P whole v (makes t ∷ done) (λ x h. grind arith) (λ x h. grind arith) c.1
      (λ x h. let p = parts x h in grind arith) (λ x h. refer x (inr h)),
  inr (
    λ has.
        let kept = repeated_kept P v (makes t ∷ done) t c.1 in
        let never = not_kept P v (makes t ∷ done) t c.1 (inl refl) (λ rest e. cc) in
        let p = parts t has in grind arith,
    refl,
  ),
)
tidy_marked P whole (repeats t ∷ keeps u ∷ v) done k r c parts refer = absurd (cc c.1.1.1)
tidy_marked P whole (repeats t ∷ v) done k r c parts refer = (
  v,
  tidy_marked P whole v (repeats t ∷ done) (λ x h. grind arith) (λ x h. grind arith) c.1
      (λ x h. let p = parts x h in grind arith) (λ x h. refer x (inr h)),
  refl,
)
tidy_marked P whole (keeps t ∷ keeps u ∷ v) done k r c parts refer = absurd (cc c.2.1.1)
tidy_marked P whole (keeps t ∷ v) done k r c parts refer =
    tidy_marked P whole v (keeps t ∷ done) (λ x h. grind arith) (λ x h. grind arith) c.2
    (λ x h. let p = parts x h in grind arith) (λ x h. refer x (inr h))

-- ---- what is kept is kept once

abbrev pub trees_kept : List Visit → List Trees
trees_kept [] = []
trees_kept (keeps t ∷ v) = t ∷ trees_kept v
trees_kept (x ∷ v) = trees_kept v

pub kept_visit : (v : List Visit) (t : Trees) → In (trees_kept v) t → In v (keeps t)
kept_visit [] t h = absurd h
kept_visit (keeps u ∷ v) t h = let ih = kept_visit v t in grind arith
kept_visit (x ∷ v) t h = inr (kept_visit v t h)

pub visit_kept : (v : List Visit) (t : Trees) → In v (keeps t) → In (trees_kept v) t
visit_kept [] t h = absurd h
visit_kept (x ∷ v) t h = let ih = visit_kept v t in grind arith

pub tidy_once : (P : Trees → Type 0) (v done : List Visit) → Tidy P done v → Once (trees_kept v)
tidy_once P [] done c = tt
tidy_once P (keeps t ∷ v) done c = (
  λ h. not_kept P v (keeps t ∷ done) t c.2 (inr (rw c.1.1 (inl refl)))
      (λ rest e. let n = next_keeps P (keeps t) done v rest t c.2 e in cc) (kept_visit v t h),
  tidy_once P v (keeps t ∷ done) c.2,
)
tidy_once P (x ∷ v) done c = tidy_once P v (x ∷ done) c.1

-- no mark comes first
bare_prefix : (P : Trees → Type 0) (v : List Visit) → Tidy P [] v → unmark v ≡ v
bare_prefix P (keeps t ∷ v) c = absurd (let e : [] ≡ makes t ∷ c.1.0 = c.1.1 in cc)
bare_prefix P v c = refl

-- ==== moves that share all and make the same trees are the same

-- ---- what is kept

module _ (before : List Sentence) where
  -- what is kept stays at its index
  pub kept_stays : (moves : List (Move (List ℕ))) (row : Trees) (kept : List Trees) (row' : Trees)
      (kept' : List Trees) → Makes before moves row kept row' kept' → (i : ℕ) (t : Trees)
      → slice_get kept i ≡ Some t → slice_get kept' i ≡ Some t
  kept_stays [] row kept row' kept' m i t h = rw m.1 h
  kept_stays (mark ∷ moves) row kept row' kept' m i t h =
      kept_stays moves m.0 m.1 row' kept' m.3 i t
      (rw m.2.5 (get_kept kept (tree m.2.1 m.2.2 none ∷ []) i t h))
  kept_stays (move ∷ moves) row kept row' kept' m i t h =
      kept_stays moves m.0 m.1 row' kept' m.3 i t (let e : m.1 ≡ kept = cc in rw e h)

  -- the kept trees are those of the marks
  pub kept_are : (moves : List (Move (List ℕ))) (row : Trees) (kept : List Trees) (row' : Trees)
      (kept' : List Trees) (m : Makes before moves row kept row' kept')
      → kept' ≡ kept ++ trees_kept (visits before moves row kept row' kept' m)
  kept_are [] row kept row' kept' m = m.1 ∙ sym (append-nil kept)
  kept_are (mark ∷ moves) row kept row' kept' m =
      let e = kept_are moves m.0 m.1 row' kept' m.3 in
      let a = append_assoc kept (tree m.2.1 m.2.2 none ∷ [])
      (trees_kept (visits before moves m.0 m.1 row' kept' m.3)) in cc
  kept_are (move ∷ moves) row kept row' kept' m =
      let e = kept_are moves m.0 m.1 row' kept' m.3 in cc

  -- a tag repeats what stands at its index in the end
  again_visit : (moves : List (Move (List ℕ))) (row : Trees) (kept : List Trees) (row' : Trees)
      (kept' : List Trees) (m : Makes before moves row kept row' kept') (tag : ℕ)
      → In moves (again tag)
      → (t : Trees) × (slice_get kept' tag ≡ Some t) × In (visits before moves row kept row' kept' m) (repeats t)
  again_visit [] row kept row' kept' m tag h = absurd h
  again_visit (again k ∷ moves) row kept row' kept' m tag (inl e) =
      let same : k ≡ tag = cc in (
        m.2.0,
        kept_stays moves m.0 m.1 row' kept' m.3 tag m.2.0 (rw (m.2.3, ← same) m.2.1),
        inl refl,
      )
  again_visit (move ∷ moves) row kept row' kept' m tag (inl e) = absurd cc
  again_visit (move ∷ moves) row kept row' kept' m tag (inr h) =
      let g = again_visit moves m.0 m.1 row' kept' m.3 tag h in (g.0, g.1, inr g.2)

-- ---- what is said by indices, said one visit after the other

-- the visits that are done, the last of which comes first, and then others
abbrev pub onto : List Visit → List Visit → List Visit
onto [] v = v
onto (x ∷ done) v = onto done (x ∷ v)

pub at_later : (done v : List Visit) (i : ℕ)
    → slice_get (onto done v) (length done + i) ≡ slice_get v i
at_later [] v i = ap (slice_get v) (omega arith)
at_later (x ∷ done) v i =
    ap (slice_get (onto done (x ∷ v))) (omega arith) ∙ at_later done (x ∷ v) (suc i)

pub at_earlier : (done v : List Visit) (x : Visit) → In done x → (i : ℕ) × (i < length done)
    × (slice_get (onto done v) i ≡ Some x)
at_earlier [] v x h = absurd h
at_earlier (y ∷ done) v x (inl e) =
    (length done + 0, omega arith, at_later done (y ∷ v) 0 ∙ ap Some e)
at_earlier (y ∷ done) v x (inr h) =
    let g = at_earlier done (y ∷ v) x h in (g.0, omega (arith, g.1), g.2)

-- the visit just before
just_done : (done v : List Visit) (j : ℕ) (x : Visit) → length done ≡ j + 1
    → slice_get (onto done v) j ≡ Some x → (rest : List Visit) × (done ≡ x ∷ rest)
just_done [] v j x long there = absurd (omega (arith, long))
just_done (y ∷ done) v j x long there =
    let at : length done + 0 ≡ j = omega (arith, long) in
    let same : y ≡ x = same_Some y x
    (sym (at_later done (y ∷ v) 0) ∙ ap (slice_get (onto done (y ∷ v))) at ∙ there) in
    (done, ap (λ z. z ∷ done) same)

module _ (before : List Sentence) where
  -- where what is kept so far was kept by a mark that is done
  tidy_of : (P : Trees → Type 0) (moves : List (Move (List ℕ))) (row : Trees)
      (kept : List Trees) (row' : Trees) (kept' : List Trees) (m : Makes before moves row kept row' kept') (done : List Visit)
      → ((t : Trees) → In kept t → In done (keeps t))
      → MakeOnce P (onto done (visits before moves row kept row' kept' m))
      → KeepMade P (onto done (visits before moves row kept row' kept' m))
      → Tidy P done (visits before moves row kept row' kept' m)
  tidy_of P [] row kept row' kept' m done are once marked = tt
  tidy_of P (name label ∷ moves) row kept row' kept' m done are once marked =
      let t : Trees = tree label m.2.1 none in
      let later : List Visit = visits before moves m.0 m.1 row' kept' m.3 in (
        λ big has.
            let g = at_earlier done (makes t ∷ later) (makes t) has in
            let same : g.0 ≡ length done + 0 = once g.0 (length done + 0) t big g.2
            (at_later done (makes t ∷ later) 0) in
            absurd (omega (arith, g.1, same)),
        tidy_of P moves m.0 m.1 row' kept' m.3 (makes t ∷ done)
            (λ u h. inr (are u (rw m.2.5 at h))) once marked,
      )
  tidy_of P (again tag ∷ moves) row kept row' kept' m done are once marked = (
    are m.2.0 (get_in kept tag m.2.0 m.2.1),
    tidy_of P moves m.0 m.1 row' kept' m.3 (repeats m.2.0 ∷ done)
        (λ u h. inr (are u (rw m.2.3 at h))) once marked,
  )
  tidy_of P (mark ∷ moves) row kept row' kept' m done are once marked =
      let t : Trees = tree m.2.1 m.2.2 none in
      let later : List Visit = visits before moves m.0 m.1 row' kept' m.3 in
      let g = marked (length done + 0) t (at_later done (keeps t ∷ later) 0) in (
        g.0,
        just_done done (keeps t ∷ later) g.1 (makes t) (omega (arith, g.2)) g.3,
        tidy_of P moves m.0 m.1 row' kept' m.3 (keeps t ∷ done)
            (λ u h.
            let k = in_apart kept (t ∷ []) u (rw m.2.5 at h) in
            let old = are u in grind arith) once marked,
      )

  -- ---- the moves are told by what they do

  moves_once : (moves moves' : List (Move (List ℕ))) (row row₂ : Trees)
      (kept kept₂ : List Trees) (row' row₂' : Trees) (kept' kept₂' : List Trees)
      (m : Makes before moves row kept row' kept') (n : Makes before moves' row₂ kept₂ row₂' kept₂')
      → kept ≡ kept₂ → kept' ≡ kept₂' → StandOnce kept₂'
      → visits before moves row kept row' kept' m ≡ visits before moves' row₂ kept₂ row₂' kept₂' n
      → moves ≡ moves'
  moves_once [] [] row row₂ kept kept₂ row' row₂' kept' kept₂' m n k l once same = refl
  moves_once (name x ∷ moves) (name y ∷ moves') row row₂ kept kept₂ row' row₂' kept' kept₂' m n k l once same =
      let rest = moves_once moves moves' m.0 n.0 m.1 n.1 row' row₂' kept' kept₂' m.3 n.3
      (cc) l once (cc) in cc
  moves_once (again x ∷ moves) (again y ∷ moves') row row₂ kept kept₂ row' row₂' kept' kept₂' m n k l once same =
      let u : m.2.0 ≡ n.2.0 = cc in
      let at_x : slice_get kept₂' x ≡ Some n.2.0 =
      rw (← l) (kept_stays before moves m.0 m.1 row' kept' m.3 x n.2.0 (rw (m.2.3, ← u) m.2.1)) in
      let at_y : slice_get kept₂' y ≡ Some n.2.0 =
      kept_stays before moves' n.0 n.1 row₂' kept₂' n.3 y n.2.0 (rw n.2.3 n.2.1) in
      let tag : x ≡ y = once x y n.2.0 at_x at_y in
      let rest = moves_once moves moves' m.0 n.0 m.1 n.1 row' row₂' kept' kept₂' m.3 n.3
      (cc) l once (cc) in cc
  moves_once (mark ∷ moves) (mark ∷ moves') row row₂ kept kept₂ row' row₂' kept' kept₂' m n k l once same =
      let rest = moves_once moves moves' m.0 n.0 m.1 n.1 row' row₂' kept' kept₂' m.3 n.3
      (cc) l once (cc) in cc
  moves_once moves moves' row row₂ kept kept₂ row' row₂' kept' kept₂' m n k l once same =
      absurd cc

-- ---- moves that share all

strip_repeats : (v : List Visit) (t : Trees) → In (strip v) (repeats t) → In v (repeats t)
strip_repeats [] t h = absurd h
strip_repeats (keeps u ∷ v) t h = inr (strip_repeats v t h)
strip_repeats (x ∷ v) t h = let later = strip_repeats v t in grind arith

repeats_strip : (v : List Visit) (t : Trees) → In v (repeats t) → In (strip v) (repeats t)
repeats_strip [] t h = absurd h
repeats_strip (x ∷ v) t h = let later = repeats_strip v t in grind arith

pub made_covers : (before : List Sentence) (trees : Trees) (moves : List (Move (List ℕ)))
    (kept : List Trees) (m : Makes before moves none [] trees kept)
    → Covers trees (strip (visits before moves none [] trees kept m))
made_covers before trees moves kept m = covers_made before moves none [] trees kept m []
    (λ t h. absurd h) refl

module _ {P : Trees → Type 0} (before : List Sentence) (trees : Trees)
    (moves : List (Move (List ℕ))) (s : ShareThose P before trees moves) where
  -- what the moves do
  abbrev pub course : List Visit
  course = visits before moves none [] trees s.kept s.made

  pub shared_tidy : Tidy P [] course
  shared_tidy =
      tidy_of before P moves none [] trees s.kept s.made [] (λ t h. absurd h) s.once s.marked

  pub shared_careful : Careful P [] (strip course)
  shared_careful = tidy_careful P course [] (λ t h. absurd h) shared_tidy

  -- what is kept is repeated
  shared_referred : (t : Trees) → In course (keeps t) → In course (repeats t)
  shared_referred t h =
      let among : In s.kept t =
      rw (kept_are before moves none [] trees s.kept s.made) (visit_kept course t h) in
      let at = in_get s.kept t among in
      let tag = contains_in moves (again at.0)
      (s.referred at.0 (slice_get_within s.kept at.0 t at.1)) in
      let g = again_visit before moves none [] trees s.kept s.made at.0 tag in
      let same : g.0 ≡ t = cc in rw same at g.2

  shared_marked : Marked (strip course) (strip course) course
  shared_marked = rw (bare_prefix P course shared_tidy) at
      (tidy_marked P (strip course) course [] (λ t h. absurd h) (λ t h. absurd h) shared_tidy
      (λ t h. inr (strip_repeats course t h))
      (λ t h. repeats_strip course t (shared_referred t h)))

  pub shared_kept_once : StandOnce s.kept
  shared_kept_once i j t =
      once_indices s.kept i j t
      (rw (kept_are before moves none [] trees s.kept s.made) (tidy_once P course [] shared_tidy))

pub shared_once : (P : Trees → Type 0) (before : List Sentence) (trees : Trees)
    (moves moves' : List (Move (List ℕ))) → ShareThose P before trees moves
    → ShareThose P before trees moves' → moves ≡ moves'
shared_once P before trees moves moves' s s' =
    let v : List Visit = course before trees moves s in
    let w : List Visit = course before trees moves' s' in
    let steps : strip v ≡ strip w =
    one_cover P trees [] (strip v) (strip w) (made_covers before trees moves s.kept s.made)
    (made_covers before trees moves' s'.kept s'.made)
    (shared_careful before trees moves s) (shared_careful before trees moves' s') in
    let same : v ≡ w =
    marked_once (strip w) (strip w) v w
    (rw steps at (shared_marked before trees moves s))
    (shared_marked before trees moves' s') in
    let kept : s.kept ≡ s'.kept =
    rw (kept_are before moves none [] trees s.kept s.made, same)
    (sym (kept_are before moves' none [] trees s'.kept s'.made)) in
    moves_once before moves moves' none none [] [] trees trees s.kept s'.kept s.made s'.made refl
    kept (shared_kept_once before trees moves' s') same
