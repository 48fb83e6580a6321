-- The moves that do given visits, and that they share all.
use Rattle.std.proofs.Common.{◌≡◌, ℕ, zero, suc, ◌+◌, List, [], ◌∷◌, ◌++◌, slice_get, get_or, Some}
use Rattle.std.proofs.Common.{◌⊎◌, inl, inr, ⊎_elim, refl, sym, ap, subst, ◌∙◌, arith}
use Rattle.std.proofs.lemmas.Option.{slice_get-get_or}
use Rattle.mm_frame.specs.Sentence.{Sentence}
use Rattle.mm_step.specs.Tree.{Trees, none, tree, beside, MayStandOver, TreesFit}
use Rattle.mm_step.specs.Moves.{Move, name, again, mark, Makes}
use Rattle.mm_forms.specs.Visits.{Visit, makes, repeats, keeps, visit, visits}
use Rattle.mm_forms.specs.Sharing.{MakeOnce, KeepMade, ShareThose}
use Rattle.mm_step.proofs.ProofSteps.Derivations.{beside-none, beside_assoc}
use Rattle.mm_proof.specs.Mirror.SharedSteps.{In}
use Rattle.mm_proof.proofs.Members.{in_get, get_in, in_contains, in_left, in_right, Once}
use Rattle.mm_proof.proofs.Members.{once_indices}
use Rattle.mm_forms.specs.Mirror.SharedSteps.{Covers, Careful}
use Rattle.mm_forms.proofs.FullSharing.OneSharing.{Tidy, Marked, trees_kept}
use Rattle.mm_forms.proofs.FullSharing.OneSharing.{kept_visit, visit_kept, visit_made, tidy_once}
use Rattle.mm_forms.proofs.FullSharing.OneSharing.{onto, kept_stays, kept_are}
use Rattle.mm_forms.proofs.FullSharing.FewestSteps.{not_made_again, tidy_later}
use Rattle.mm_forms.proofs.FullSharing.SomeSharing.{some_cover, covers_no_keeps, some_marks}
use Rattle.mm_forms.proofs.FullSharing.SomeSharing.{marked_kept, marked_repeats, marked_tidy}
use Rattle.mm_forms.proofs.FullSharing.SomeSharing.{careful_those}

module _ (before : List Sentence) where
  -- the moves lead from the first row and kept trees to the second, and do these visits
  abbrev pub Led : List (Move (List ℕ)) → Trees → List Trees → Trees → List Trees → List Visit
      → Type 0
  Led moves row kept row' kept' v = (m : Makes before moves row kept row' kept')
      × (visits before moves row kept row' kept' m ≡ v)

  led_join : (moves more : List (Move (List ℕ))) (a b c : Trees) (k l n : List Trees)
      (v w : List Visit) → Led moves a k b l v → Led more b l c n w
      → Led (moves ++ more) a k c n (v ++ w)
  led_join [] more a b c k l n v w r q =
      rw (← r.1, ← r.0.0, ← r.0.1) q
  led_join (move ∷ moves) more a b c k l n v w r q =
      let m = r.0 in
      let rest = led_join moves more m.0 b c m.1 l n (visits before moves m.0 m.1 b l m.3) w
      (m.3, refl) q in (
        (m.0, m.1, m.2, rest.0),
        ap (λ x. visit before move a k m.0 m.1 m.2 ∷ x) rest.1
            ∙ ap (λ x. x ++ w) r.1,
      )

-- ---- visits apart

marked_apart : (whole x y v : List Visit) → Marked whole (x ++ y) v → (a : List Visit)
    × (b : List Visit) × (v ≡ a ++ b) × Marked whole x a × Marked whole y b
marked_apart whole [] y v m = ([], v, refl, refl, m)
marked_apart whole (makes t ∷ x) y v m =
    let h = marked_apart whole x y m.0 m.1 in
    ⊎_elim
    (λ p. (makes t ∷ keeps t ∷ h.0, h.1, cc, (h.0, h.3, inl (p.0, refl)), h.4))
    (λ p. (makes t ∷ h.0, h.1, cc, (h.0, h.3, inr (p.0, refl)), h.4)) m.2
marked_apart whole (repeats t ∷ x) y v m =
    let h = marked_apart whole x y m.0 m.1 in (repeats t ∷ h.0, h.1, cc, (h.0, h.3, refl), h.4)
marked_apart whole (keeps t ∷ x) y v m = absurd m

tidy_apart : (P : Trees → Type 0) (done v w : List Visit) → Tidy P done (v ++ w)
    → Tidy P done v × Tidy P (onto v done) w
tidy_apart P done [] w c = (tt, c)
tidy_apart P done (keeps t ∷ v) w c = let h = tidy_apart P (keeps t ∷ done) v w c.2 in
    ((c.0, c.1, h.0), h.1)
tidy_apart P done (x ∷ v) w c = let h = tidy_apart P (x ∷ done) v w c.1 in ((c.0, h.0), h.1)

in_onto : (v done : List Visit) (x : Visit) → In (onto v done) x → In v x ⊎ In done x
in_onto [] done x h = inr h
in_onto (y ∷ v) done x h = let k = in_onto v (y ∷ done) x h in grind arith

-- what the marks that are done keep is kept
abbrev HasKept : List Visit → List Trees → Type 0
HasKept done kept = (t : Trees) → In done (keeps t) → In kept t

has_after : (before : List Sentence) (moves : List (Move (List ℕ))) (a b : Trees) (k l : List Trees)
    (v done : List Visit) → Led before moves a k b l v → HasKept done k → HasKept (onto v done) l
has_after before moves a b k l v done r has t h =
    rw (kept_are before moves a k b l r.0, r.1)
    (⊎_elim (λ p. in_right k (trees_kept v) t (visit_kept v t p))
    (λ p. in_left k (trees_kept v) t (has t p)) (in_onto v done (keeps t) h))

-- ---- moves for visits

-- some moves lead to a row with the trees beside it
pub record Leads (before : List Sentence) (row : Trees) (kept : List Trees) (row' : Trees)
    (v : List Visit) : Type 0 where
  pub moves : List (Move (List ℕ))
  pub kept' : List Trees
  pub led : Led before moves row kept row' kept' v

leads_join : {before : List Sentence} {a b c : Trees} {k : List Trees} {v w : List Visit}
    (p : Leads before a k b v) → Leads before b p.kept' c w → Leads before a k c (v ++ w)
leads_join {before} {a} {b} {c} {k} {v} {w} p q = record {
  moves = p.moves ++ q.moves;
  kept' = q.kept';
  led = led_join before p.moves q.moves a b c k p.kept' q.kept' v w p.led q.led;
}

module _ (before : List Sentence) (whole : List Visit) where
  -- the step by a label, with a mark or not
  leads_label : (label : List ℕ) (row below : Trees) (kept : List Trees) (v : List Visit)
      → MayStandOver before label below → Marked whole (makes (tree label below none) ∷ []) v
      → Leads before (beside row below) kept (beside row (tree label below none)) v
  leads_label label row below kept v stands m =
      let t : Trees = tree label below none in
      ⊎_elim
      (λ p. record {
        moves = name label ∷ mark ∷ [];
        kept' = kept ++ t ∷ [];
        led = (
          (
            beside row t,
            kept,
            (row, below, refl, stands, refl, refl),
            (beside row t, kept ++ t ∷ [], (row, label, below, refl, refl, refl), (refl, refl)),
          ),
          cc,
        );
      })
      (λ p. record {
        moves = name label ∷ [];
        kept' = kept;
        led = ((beside row t, kept, (row, below, refl, stands, refl, refl), (refl, refl)), cc);
      }) m.2

  -- the step by a tag
  leads_again : (P : Trees → Type 0) (t row : Trees) (kept : List Trees) (done v : List Visit)
      → HasKept done kept → Tidy P done v → Marked whole (repeats t ∷ []) v → Leads before row kept (beside row t) v
  leads_again P t row kept done v has c m =
      let e : v ≡ repeats t ∷ [] = cc in
      let at = in_get kept t (has t (rw e at c).0) in
      record {
        moves = again at.0 ∷ [];
        kept' = kept;
        led = ((beside row t, kept, (t, at.1, refl, refl), (refl, refl)), sym e);
      }

  leads_to : (P : Trees → Type 0) (trees row : Trees) (kept : List Trees)
      (steps done v : List Visit)
      → TreesFit before trees → Covers trees steps → Marked whole steps v → Tidy P done v
      → HasKept done kept → Leads before row kept (beside row trees) v
  leads_to P none row kept steps done v fit covers m c has =
      record { moves = []; kept' = kept; led = ((beside-none row, refl), sym (rw covers at m)) }
  leads_to P (tree label below right) row kept steps done v fit covers m c has =
      let t : Trees = tree label below none in
      let parts = marked_apart whole covers.0 covers.1 v (rw covers.2 at m) in
      let tidy = tidy_apart P done parts.0 parts.1 (rw parts.2 at c) in
      let first : Leads before row kept (beside row t) parts.0 = ⊎_elim
      (λ a. leads_again P t row kept done parts.0 has tidy.0
      (subst (λ s. Marked whole s parts.0) a parts.3))
      (λ a.
      let inner = marked_apart whole a.0 (makes t ∷ []) parts.0
      (subst (λ s. Marked whole s parts.0) a.1 parts.3) in
      let within = tidy_apart P done inner.0 inner.1 (rw inner.2 at tidy.0) in
      let p = leads_to P below row kept a.0 done inner.0 fit.1 a.2 inner.3 within.0 has in
      rw inner.2
      (leads_join p (leads_label label row below p.kept' inner.1 fit.0 inner.4)))
      covers.4 in
      let second : Leads before (beside row t) first.kept' (beside (beside row t) right) parts.1 =
      leads_to P right (beside row t) first.kept' covers.1
      (onto parts.0 done) parts.1 fit.2 covers.3 parts.4 tidy.1
      (has_after before first.moves row (beside row t) kept first.kept' parts.0 done first.led has) in
      rw parts.2 (leads_join first (rw (beside_assoc row t right) at second))

-- ---- what is said of tidy visits, by indices

not_twice : (P : Trees → Type 0) (x : Visit) (v done : List Visit) (t : Trees) (j : ℕ)
    → Tidy P done (x ∷ v) → P t → x ≡ makes t → slice_get v j ≡ Some (makes t) → ⊥
not_twice P x v done t j c big e q =
    let d : Tidy P done (makes t ∷ v) = rw e at c in
    not_made_again P v (makes t ∷ done) t d.1 (inl refl) big (visit_made v t (get_in v j _ q))

tidy_make_once : (P : Trees → Type 0) (v done : List Visit) → Tidy P done v → MakeOnce P v
tidy_make_once P [] done c i j t big p q = absurd cc
tidy_make_once P (x ∷ v) done c zero zero t big p q = refl
tidy_make_once P (x ∷ v) done c zero (suc j) t big p q =
    absurd (not_twice P x v done t j c big (cc) q)
tidy_make_once P (x ∷ v) done c (suc i) zero t big p q =
    absurd (not_twice P x v done t i c big (cc) p)
tidy_make_once P (x ∷ v) done c (suc i) (suc j) t big p q = ap suc
    (tidy_make_once P v (x ∷ done) (tidy_later P x v done c) i j t big p q)

-- what a mark keeps was just made: by the last visit that is done, or by the one before the mark
tidy_just : (P : Trees → Type 0) (v done : List Visit) (i : ℕ) (t : Trees) → Tidy P done v
    → slice_get v i ≡ Some (keeps t) → P t × (((i ≡ 0) × (rest : List Visit) × (done ≡ makes t ∷ rest))
    ⊎ ((j : ℕ) × (i ≡ j + 1) × (slice_get v j ≡ Some (makes t))))
tidy_just P [] done i t c p = absurd cc
tidy_just P (keeps u ∷ v) done zero t c p =
    let same : u ≡ t = cc in (rw same at c.0, inl (refl, c.1.0, rw (← same) c.1.1))
tidy_just P (x ∷ v) done zero t c p = absurd cc
tidy_just P (x ∷ v) done (suc i) t c p =
    let h = tidy_just P v (x ∷ done) i t (tidy_later P x v done c) p in (
      h.0,
      ⊎_elim (λ a. inr (0, omega (arith, a.0), cc a.2))
          (λ a. inr (suc a.0, omega (arith, a.1), a.2)) h.1,
    )

tidy_keep_made : (P : Trees → Type 0) (v : List Visit) → Tidy P [] v → KeepMade P v
tidy_keep_made P v c i t p =
    let h = tidy_just P v [] i t c p in
    let r : (j : ℕ) × (i ≡ j + 1) × (slice_get v j ≡ Some (makes t)) = ⊎_elim
    (λ a. absurd (let e : [] ≡ makes t ∷ a.1 = a.2 in cc)) (λ a. a) h.1 in
    (h.0, r.0, r.1, r.2)

-- ---- tags are referred to

visit_again : (before : List Sentence) (moves : List (Move (List ℕ))) (row : Trees)
    (kept : List Trees) (row' : Trees) (kept' : List Trees)
    (m : Makes before moves row kept row' kept') (t : Trees)
    → In (visits before moves row kept row' kept' m) (repeats t) → (tag : ℕ) × In moves (again tag)
    × (slice_get kept' tag ≡ Some t)
visit_again before [] row kept row' kept' m t h = absurd h
visit_again before (again k ∷ moves) row kept row' kept' m t (inl e) =
    (k, inl refl, kept_stays before moves m.0 m.1 row' kept' m.3 k t (rw m.2.3 cc))
visit_again before (move ∷ moves) row kept row' kept' m t (inl e) = absurd cc
visit_again before (move ∷ moves) row kept row' kept' m t (inr h) =
    let g = visit_again before moves m.0 m.1 row' kept' m.3 t h in (g.0, inr g.1, g.2)

-- ---- moves that share those trees

-- moves that share those, for the trees that these steps cover
pub record SharedMoves (P : Trees → Type 0) (before : List Sentence) (trees : Trees)
    (steps : List Visit) : Type 0 where
  pub moves : List (Move (List ℕ))
  pub v : List Visit
  pub marked : Marked steps steps v
  pub kept : List Trees
  pub led : Led before moves none [] trees kept v
  pub once : Once kept
  pub shared : ShareThose P before trees moves

pub shared_moves : (P : Trees → Type 0) (before : List Sentence) (trees : Trees)
    (steps : List Visit) → TreesFit before trees
    → Covers trees steps → Careful P [] steps → SharedMoves P before trees steps
shared_moves P before trees steps fit covers careful =
    let marks = some_marks steps steps (covers_no_keeps trees steps covers) in
    let v : List Visit = marks.0 in
    let tidy : Tidy P [] v = marked_tidy P steps steps v []
    (λ t h. careful_those P [] steps t careful h) (λ t h. h) (λ t h needed. absurd h) careful
    marks.1 in
    let l = leads_to before steps P trees none [] steps [] v fit covers marks.1 tidy
    (λ t h. absurd h) in
    let kept : l.kept' ≡ trees_kept v =
    rw (kept_are before l.moves none [] trees l.kept' l.led.0, l.led.1) in
    let once : Once l.kept' = rw kept (tidy_once P v [] tidy) in
    record {
      moves = l.moves;
      v = v;
      marked = marks.1;
      kept = l.kept';
      led = l.led;
      once = once;
      shared = record {
        kept = l.kept';
        made = l.led.0;
        once = rw l.led.1 (tidy_make_once P v [] tidy);
        marked = rw l.led.1 (tidy_keep_made P v tidy);
        referred = λ tag less.
            let t : Trees = get_or l.kept' tag none in
            let there : slice_get l.kept' tag ≡ Some t = slice_get-get_or l.kept' tag none less in
            let among = kept_visit v t
            (subst (λ k. In k t) kept (get_in l.kept' tag t there)) in
            let needed = marked_kept steps steps v t marks.1 among in
            let g = visit_again before l.moves none [] trees l.kept' l.led.0 t
            (rw l.led.1 (marked_repeats steps steps v t marks.1 needed)) in
            let same : g.0 ≡ tag = once_indices l.kept' g.0 tag t once g.2 there in
            in_contains l.moves (again tag) (rw same at g.1);
      };
    }

pub some_shared : (P : Trees → Type 0) → ((t : Trees) → Dec (P t)) → (before : List Sentence)
    (trees : Trees) → TreesFit before trees
    → (moves : List (Move (List ℕ))) × ShareThose P before trees moves
some_shared P each before trees fit =
    let cover = some_cover P each trees [] in
    let s = shared_moves P before trees cover.0 fit cover.1 cover.2 in
    (s.moves, s.shared)
