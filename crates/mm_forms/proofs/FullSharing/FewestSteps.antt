-- A fully shared proof has the fewest steps of all proofs of its tree: one for each subtree and
-- child.
use Rattle.std.proofs.Common.{◌≡◌, ℕ, ◌+◌, ◌<◌, ◌≤◌, List, [], ◌∷◌, ◌++◌, take, drop, suc, cond}
use Rattle.std.proofs.Common.{◌⊎◌, inl, inr, ⊎_elim, refl, sym, ap, subst, ◌∙◌, arith, length}
use Rattle.std.proofs.Common.{append_assoc, sum_by}
use Rattle.std.specs.List.{AllZip}
use Rattle.std.proofs.lemmas.Bool.{cases_lt}
use Rattle.std.proofs.lemmas.List.{length-append}
use Rattle.std.proofs.lemmas.List.Sums.{sum_by-cons, sum_by-append}
use Rattle.mm_base.proofs.Lists.{split_at}
use Rattle.mm_code.specs.declared.code.Code.{Code}
use Rattle.mm_code.specs.declared.code.Code.TheVariants.{Number, Tag}
use Rattle.mm_frame.specs.Sentence.{Sentence}
use Rattle.mm_step.specs.Tree.{Trees, none, tree, beside, roots}
use Rattle.mm_step.specs.Moves.{Move, name, again, mark, is_step, steps_in, Makes}
use Rattle.mm_proof.specs.Tokens.{Says}
use Rattle.mm_forms.specs.BigSubtrees.{nodes, IsBig, children, IsSubtree, AreBigSubtrees}
use Rattle.mm_forms.specs.Visits.{Visit, makes, keeps, visits, trees_made, repeats}
use Rattle.mm_proof.specs.Sharing.{is_number, steps_of}
use Rattle.mm_forms.specs.Sharing.{PairMakes}
use Rattle.mm_step.proofs.ProofSteps.Derivations.{roots-beside, beside-none}
use Rattle.mm_proof.specs.Mirror.SharedSteps.{In}
use Rattle.mm_proof.proofs.Members.{in_get, get_in, in_left, in_right, in_apart, in_push, Once}
use Rattle.mm_proof.proofs.Members.{in_contains, contains_in, once_indices, indices_once}
use Rattle.mm_forms.proofs.FullSharing.OneSharing.{AreOnes, ones_push, Tidy, covers_beside}
use Rattle.mm_forms.specs.Mirror.SharedSteps.{Covers}
use Rattle.mm_forms.proofs.FullSharing.OneSharing.{covers_apart, covers_made_one, covers_one}
use Rattle.mm_forms.specs.Mirror.SharedSteps.{Careful, after}
use Rattle.mm_forms.proofs.FullSharing.OneSharing.{after_has, after-append}
use Rattle.mm_forms.proofs.FullSharing.OneSharing.{careful_apart, careful_join, shared_tidy}
use Rattle.mm_forms.specs.Mirror.CodeSharing.{Sharing}
use Rattle.mm_forms.proofs.FullSharing.SomeSharing.{covered_made, not_below}
use Rattle.mm_forms.specs.SharingLaws.{StepsMakeChildren, FewestSteps, trees_of}

-- ==== how many steps make trees, and that all their subtrees are made

-- ---- steps

-- one move more
steps_more : {X : Type 0} (move : Move X) (moves : List (Move X))
    → steps_in (move ∷ moves) ≡ cond (is_step move) 1 0 + steps_in moves
steps_more {X} move moves = sum_by-cons (λ (m : Move X). cond (is_step m) 1 0) move moves

codes_more : (code : Code) (codes : List Code)
    → steps_of (code ∷ codes) ≡ cond (is_number code) 1 0 + steps_of codes
codes_more code codes = sum_by-cons (λ c. cond (is_number c) 1 0) code codes

-- codes have as many steps as the moves that they say
code_steps : (labels : List (List ℕ)) (code : Code) (move : Move (List ℕ)) → Says labels code move
    → is_number code ≡ is_step move
code_steps labels (Number n) move p = ⊎_elim (λ a. ap is_step (sym a.2))
    (λ a. ap is_step (sym a.2)) p.2
code_steps labels Tag move p = ap is_step (sym p)

pub said_steps : (labels : List (List ℕ)) (codes : List Code) (moves : List (Move (List ℕ)))
    → AllZip (Says labels) codes moves → steps_of codes ≡ steps_in moves
said_steps labels [] [] p = refl
said_steps labels (code ∷ codes) (move ∷ moves) p =
    let ih = said_steps labels codes moves p.1 in
    cc (codes_more code codes, steps_more move moves, code_steps labels code move p.0, ih)
said_steps labels codes moves p = absurd p

-- each step adds a tree, and takes the children of what it makes
steps_children : (before : List Sentence) (moves : List (Move (List ℕ))) (row : Trees)
    (kept : List Trees) (row' : Trees) (kept' : List Trees)
    (m : Makes before moves row kept row' kept') → AreOnes kept
    → steps_in moves + roots row ≡ roots row' + sum_by children
    (trees_made (visits before moves row kept row' kept' m))
steps_children before [] row kept row' kept' m ones = omega (arith, ap roots m.0)
steps_children before (name label ∷ moves) row kept row' kept' m ones =
    let t : Trees = tree label m.2.1 none in
    let ih = steps_children before moves m.0 m.1 row' kept' m.3 (subst AreOnes (sym m.2.5) ones) in
    let s = steps_more (name label) moves in
    let c = sum_by-cons children t (trees_made (visits before moves m.0 m.1 row' kept' m.3)) in
    let taken : roots row ≡ roots m.2.0 + roots m.2.1 = ap roots m.2.2 ∙ roots-beside m.2.0 m.2.1 in
    let put : roots m.0 ≡ roots m.2.0 + 1 = ap roots m.2.4 ∙ roots-beside m.2.0 t in
    omega arith
steps_children before (again tag ∷ moves) row kept row' kept' m ones =
    let one = ones m.2.0 (get_in kept tag m.2.0 m.2.1) in
    let ih = steps_children before moves m.0 m.1 row' kept' m.3 (subst AreOnes (sym m.2.3) ones) in
    let s = steps_more {X = List ℕ} (again tag) moves in
    let put = ap roots m.2.2 ∙ roots-beside row m.2.0 ∙ ap (λ n. roots row + n) (ap roots one.2) in
    omega arith
steps_children before (mark ∷ moves) row kept row' kept' m ones =
    let ih = steps_children before moves m.0 m.1 row' kept' m.3
    (subst AreOnes (sym m.2.5) (ones_push kept m.2.1 m.2.2 ones)) in
    let s = steps_more {X = List ℕ} mark moves in
    let same : roots m.0 ≡ roots row = ap roots m.2.4 in
    omega arith

-- ---- subtrees

pub sub_apart : (a b u : Trees) → IsSubtree (beside a b) u → IsSubtree a u ⊎ IsSubtree b u
sub_apart none b u h = inr h
sub_apart (tree label below right) b u (inl e) = inl (inl e)
sub_apart (tree label below right) b u (inr (inl h)) = inl (inr (inl h))
sub_apart (tree label below right) b u (inr (inr h)) = ⊎_elim (λ p. inl (inr (inr p))) (λ q. inr q)
    (sub_apart right b u h)

pub sub_left : (a b u : Trees) → IsSubtree a u → IsSubtree (beside a b) u
sub_left none b u h = absurd h
sub_left (tree label below right) b u (inl e) = inl e
sub_left (tree label below right) b u (inr (inl h)) = inr (inl h)
sub_left (tree label below right) b u (inr (inr h)) = inr (inr (sub_left right b u h))

pub sub_right : (a b u : Trees) → IsSubtree b u → IsSubtree (beside a b) u
sub_right none b u h = h
sub_right (tree label below right) b u h = inr (inr (sub_right right b u h))

-- each subtree of what is made is made
pub subtrees_made : (P : Trees → Type 0) (before : List Sentence) (moves : List (Move (List ℕ)))
    (row : Trees) (kept : List Trees) (row' : Trees) (kept' : List Trees)
    (m : Makes before moves row kept row' kept') → ((u : Trees) → IsSubtree row u → P u)
    → ((t u : Trees) → In kept t → IsSubtree t u → P u)
    → ((u : Trees) → In (trees_made (visits before moves row kept row' kept' m)) u → P u)
    → (u : Trees) → IsSubtree row' u → P u
subtrees_made P before [] row kept row' kept' m has keeps_all made = λ u h. has u (rw m.0 at h)
subtrees_made P before (name label ∷ moves) row kept row' kept' m has keeps_all made =
    let t : Trees = tree label m.2.1 none in
    let next : (u : Trees) → IsSubtree m.0 u → P u = λ u h.
    elim (sub_apart m.2.0 t u (rw m.2.4 at h)) [
      | inl a ↦ has u (rw m.2.2 (sub_left m.2.0 m.2.1 u a))
      | inr (inl e) ↦ made u (inl (sym e))
      | inr (inr (inl b)) ↦ has u (rw m.2.2 (sub_right m.2.0 m.2.1 u b))
      | inr (inr (inr z)) ↦ absurd z
    ] in
    subtrees_made P before moves m.0 m.1 row' kept' m.3 next
    (λ t u h. keeps_all t u (rw m.2.5 at h)) (λ u h. made u (inr h))
subtrees_made P before (again tag ∷ moves) row kept row' kept' m has keeps_all made =
    let next : (u : Trees) → IsSubtree m.0 u → P u = λ u h. ⊎_elim (λ a. has u a)
    (λ b. keeps_all m.2.0 u (get_in kept tag m.2.0 m.2.1) b)
    (sub_apart row m.2.0 u (rw m.2.2 at h)) in
    subtrees_made P before moves m.0 m.1 row' kept' m.3 next
    (λ t u h. keeps_all t u (rw m.2.3 at h)) made
subtrees_made P before (mark ∷ moves) row kept row' kept' m has keeps_all made =
    let t : Trees = tree m.2.1 m.2.2 none in
    subtrees_made P before moves m.0 m.1 row' kept' m.3 (λ u h. has u (rw m.2.4 at h))
    (λ s u h k. ⊎_elim (λ a. keeps_all s u a k)
    (λ e. has u (rw m.2.3 (sub_right m.2.0 t u (rw (← e) at k))))
    (in_push kept t s (rw m.2.5 at h))) made

module _ (before : List Sentence) where
  -- what stands in a row stands in what is made of it
  sub_stays : (moves : List (Move (List ℕ))) (row : Trees) (kept : List Trees) (row' : Trees)
      (kept' : List Trees) → Makes before moves row kept row' kept' → (u : Trees) → IsSubtree row u
      → IsSubtree row' u
  sub_stays [] row kept row' kept' m u h = rw m.0 h
  sub_stays (name label ∷ moves) row kept row' kept' m u h =
      let t : Trees = tree label m.2.1 none in
      sub_stays moves m.0 m.1 row' kept' m.3 u (rw m.2.4
      (⊎_elim (λ a. sub_left m.2.0 t u a) (λ b. sub_right m.2.0 t u (inr (inl b)))
      (sub_apart m.2.0 m.2.1 u (rw m.2.2 at h))))
  sub_stays (again tag ∷ moves) row kept row' kept' m u h =
      sub_stays moves m.0 m.1 row' kept' m.3 u (rw m.2.2 (sub_left row m.2.0 u h))
  sub_stays (mark ∷ moves) row kept row' kept' m u h =
      sub_stays moves m.0 m.1 row' kept' m.3 u (rw m.2.4 h)

  -- each tree made is a subtree of what is made
  pub made_subtrees : (moves : List (Move (List ℕ))) (row : Trees) (kept : List Trees)
      (row' : Trees) (kept' : List Trees) (m : Makes before moves row kept row' kept') (u : Trees)
      → In (trees_made (visits before moves row kept row' kept' m)) u → IsSubtree row' u
  made_subtrees [] row kept row' kept' m u h = absurd h
  made_subtrees (name label ∷ moves) row kept row' kept' m u (inl e) =
      sub_stays moves m.0 m.1 row' kept' m.3 u
      (rw m.2.4 (sub_right m.2.0 (tree label m.2.1 none) u (inl (sym e))))
  made_subtrees (name label ∷ moves) row kept row' kept' m u (inr h) =
      made_subtrees moves m.0 m.1 row' kept' m.3 u h
  made_subtrees (move ∷ moves) row kept row' kept' m u h =
      made_subtrees moves m.0 m.1 row' kept' m.3 u h

-- ---- big trees

-- a small tree has no children
small_children : (t : Trees) → nodes t < 2 → children t ≡ 0
small_children (tree label (tree l b r) right) small =
    absurd (omega (arith, simp length-append at small))
small_children t small = refl

-- each big tree of the list once
abbrev pub BigOnce : List Trees → Type 0
BigOnce [] = Unit {0}
BigOnce (t ∷ ts) = (IsBig t → ¬ (In ts t)) × BigOnce ts

-- the big ones of a list
pub record Bigs (ts : List Trees) : Type 0 where
  pub list : List Trees
  pub only : (u : Trees) → In list u → In ts u × IsBig u
  pub each : (u : Trees) → In ts u → IsBig u → In list u
  pub same : sum_by children list ≡ sum_by children ts
  pub once : BigOnce ts → Once list

pub bigs_of : (ts : List Trees) → Bigs ts
bigs_of [] = record {
  list = [];
  only = λ u h. absurd h;
  each = λ u h big. h;
  same = refl;
  once = λ o. tt;
}
bigs_of (t ∷ ts) =
    let b = bigs_of ts in
    let more = sum_by-cons children t ts in
    let h = b.same in
    elim (cases_lt (nodes t) 2) [
      | inl small ↦ record {
        list = b.list;
        only = λ u h. let g = b.only u h in (inr g.0, g.1);
        each = λ u h big. ⊎_elim (λ e. absurd
            (let l = subst (λ x. nodes x < 2) e small in omega arith)) (λ k. b.each u k big) h;
        same = (let kids = small_children t small in omega arith);
        once = λ o. b.once o.1;
      }
      | inr big ↦ record {
        list = t ∷ b.list;
        only = λ u h. ⊎_elim (λ e. (inl e, subst IsBig e big))
            (λ k. let g = b.only u k in (inr g.0, g.1)) h;
        each = λ u h is. ⊎_elim (λ e. inl e) (λ k. inr (b.each u k is)) h;
        same = (let here = sum_by-cons children t b.list in omega arith);
        once = λ o. (λ again. o.0 big (b.only t again).0, b.once o.1);
      }
    ]

-- what is tidy stays so with its first visit done
pub tidy_later : (P : Trees → Type 0) (x : Visit) (v done : List Visit) → Tidy P done (x ∷ v)
    → Tidy P (x ∷ done) v
tidy_later P (keeps t) v done c = c.2
tidy_later P x v done c = c.1

-- tidy visits make each tree that they share once
pub not_made_again : (P : Trees → Type 0) (v done : List Visit) (t : Trees) → Tidy P done v
    → In done (makes t) → P t → In (trees_made v) t → ⊥
not_made_again P [] done t c made is h = h
not_made_again P (makes u ∷ v) done t c made is (inl e) = c.0 (rw e is) (rw e made)
not_made_again P (makes u ∷ v) done t c made is (inr h) =
    not_made_again P v (makes u ∷ done) t c.1 (inr made) is h
not_made_again P (x ∷ v) done t c made is h =
    not_made_again P v (x ∷ done) t (tidy_later P x v done c) (inr made) is h

pub tidy_big_once : (v done : List Visit) → Tidy IsBig done v → BigOnce (trees_made v)
tidy_big_once [] done c = tt
tidy_big_once (makes t ∷ v) done c =
    (not_made_again IsBig v (makes t ∷ done) t c.1 (inl refl), tidy_big_once v (makes t ∷ done) c.1)
tidy_big_once (x ∷ v) done c = tidy_big_once v (x ∷ done) (tidy_later IsBig x v done c)

-- ---- sums

-- a list with no member twice, within another, has no greater sum
pub sum_within : {X : Type 0} (f : X → ℕ) (xs ys : List X) → Once xs → ((x : X) → In xs x → In ys x)
    → sum_by f xs ≤ sum_by f ys
sum_within f [] ys once within = let e : sum_by f [] ≡ 0 = refl in omega arith
sum_within {X} f (x ∷ xs) ys once within =
    let (i, at) = in_get ys x (within x (inl refl)) in
    let prefix = take i ys in
    let back = drop (suc i) ys in
    let parts = split_at ys i x at in
    let rest : (u : X) → In xs u → In (prefix ++ back) u = λ u h. ⊎_elim
    (λ a. in_left prefix back u a)
    (λ b. ⊎_elim
    (λ e. absurd (once.0 (subst (In xs) (sym e) h)))
    (λ k. in_right prefix back u k) b)
    (in_apart prefix (x ∷ back) u (subst (λ l. In l u) parts (within u (inr h)))) in
    let ih = simp (sum_by-append f) at (sum_within f xs (prefix ++ back) once.1 rest) in
    rw parts (simp (sum_by-append f, sum_by-cons f) (omega arith))

one_each : {X : Type 0} (xs : List X) → sum_by (λ (x : X). 1) xs ≡ length xs
one_each [] = refl
one_each {X} (x ∷ xs) = omega (arith, sum_by-cons (λ (y : X). 1) x xs, one_each xs)

-- nor is it longer
pub length_within : {X : Type 0} (xs ys : List X) → Once xs → ((x : X) → In xs x → In ys x)
    → length xs ≤ length ys
length_within {X} xs ys once within =
    omega (arith, sum_within (λ (x : X). 1) xs ys once within, one_each xs, one_each ys)

-- ==== steps that share all, one step more: what a tree that was made before is made of takes one
-- step for each child

-- a leaf isn't big
pub leaf_small : (label : List ℕ) → ¬ (IsBig (tree label none none))
leaf_small label big = absurd (omega arith)

-- a tree with a child is
pub parent_big : (label l : List ℕ) (b r : Trees) → IsBig (tree label (tree l b r) none)
parent_big label l b r = simp length-append (omega arith)

-- ---- all subtrees of what is made are made

abbrev Closed : List Trees → Type 0
Closed made = (t u : Trees) → In made t → IsSubtree t u → In made u

-- after steps, with the subtrees of what they put there
pub record AllMade (made : List Trees) (trees : Trees) (v : List Visit) : Type 0 where
  pub closed : Closed (after made v)
  pub subtrees : (u : Trees) → IsSubtree trees u → In (after made v) u

pub all_made : (trees : Trees) (made : List Trees) (v : List Visit) → Closed made → Covers trees v → Careful IsBig made v → AllMade made trees v
all_made none made v closed p c = record { closed = subst (λ x. Closed (after made x)) (sym p) closed; subtrees = λ u h. absurd h }
all_made (tree label below right) made v closed p c =
    let t : Trees = tree label below none in
    let parts = careful_apart IsBig made p.0 p.1 (subst (Careful IsBig made) p.2 c) in
    let here : AllMade made t p.0 = ⊎_elim
    (λ a.
    let cut : Careful IsBig made (repeats t ∷ []) = subst (Careful IsBig made) a parts.0 in
    record { closed = rw a closed; subtrees = λ u h. rw a (closed t u cut.0.1 h) })
    (λ a.
    let inner = careful_apart IsBig made a.0 (makes t ∷ [])
    (subst (Careful IsBig made) a.1 parts.0) in
    let all = all_made below made a.0 closed a.2 inner.0 in
    let is : after made p.0 ≡ t ∷ after made a.0 = ap (after made) a.1 ∙ after-append made a.0 (makes t ∷ []) in
    let of_new : (u : Trees) → IsSubtree t u → In (t ∷ after made a.0) u = λ u h. ⊎_elim
    (λ e. inl (sym e))
    (λ k. ⊎_elim (λ b. inr (all.subtrees u b)) (λ z. absurd z) k) h in
    record {
      closed = rw is (λ w u h s. ⊎_elim (λ e. of_new u (rw (← e) at s))
          (λ k. inr (all.closed w u k s)) h);
      subtrees = λ u h. rw is (of_new u h);
    }) p.4 in
    let rest = all_made right (after made p.0) p.1 here.closed p.3 parts.1 in
    let is : after made v ≡ after (after made p.0) p.1 = ap (after made) p.2 ∙ after-append made p.0 p.1 in
    record {
      closed = rw is rest.closed;
      subtrees = λ u h. rw is (⊎_elim
          (λ s. after_has (after made p.0) p.1 u (here.subtrees u s))
          (λ r. rest.subtrees u r) (sub_apart t right u h));
    }

-- ---- where all big subtrees were made, one step covers each tree

pub record EachOne (made : List Trees) (trees : Trees) (v : List Visit) : Type 0 where
  pub long : length v ≡ roots trees
  pub same : (u : Trees) → IsBig u → In (after made v) u → In made u

pub each_one : (trees : Trees) (made : List Trees) (v : List Visit) → ((u : Trees) → IsSubtree trees u → IsBig u → In made u) → Covers trees v → Careful IsBig made v → EachOne made trees v
each_one none made v has p c = record { long = ap length p; same = λ u big h. subst (λ x. In (after made x) u) p h }
each_one (tree label below right) made v has p c =
    let t : Trees = tree label below none in
    let parts = careful_apart IsBig made p.0 p.1 (subst (Careful IsBig made) p.2 c) in
    let here : EachOne made t p.0 = ⊎_elim
    (λ a. record { long = ap length a; same = λ u big h. subst (λ x. In (after made x) u) a h })
    (λ a.
    let inner = careful_apart IsBig made a.0 (makes t ∷ [])
    (subst (Careful IsBig made) a.1 parts.0) in
    let small : ¬ (IsBig t) = λ big. inner.1.0 (big, after_has made a.0 t (has t (inl refl) big)) in
    let bare : below ≡ none = no_child below (λ l b r e. small (subst (λ x. IsBig (tree label x none)) (sym e) (parent_big label l b r))) in
    let empty : a.0 ≡ [] = subst (λ x. Covers x a.0) bare a.2 in
    let is : p.0 ≡ makes t ∷ [] = a.1 ∙ ap (λ x. x ++ makes t ∷ []) empty in
    record {
      long = ap length is;
      same = λ u big h. ⊎_elim
          (λ e. absurd (small (subst IsBig (sym e) big)))
          (λ k. k) (subst (λ x. In (after made x) u) is h);
    }) p.4 in
    let rest = each_one right (after made p.0) p.1 (λ u s big. after_has made p.0 u (has u (inr (inr s)) big)) p.3 parts.1 in
    let is : after made v ≡ after (after made p.0) p.1 = ap (after made) p.2 ∙ after-append made p.0 p.1 in
    record {
      long = omega (arith, here.long, rest.long, length-append p.0 p.1, ap length p.2);
      same = λ u big h. here.same u big (rest.same u big (rw is at h));
    }
  where
    no_child : (b : Trees) → ((l : List ℕ) (x r : Trees) → b ≡ tree l x r → ⊥) → b ≡ none
    no_child none other = refl
    no_child (tree l x r) other = absurd (other l x r refl)

-- ---- the steps so far

pub after_make : (v : List Visit) (t u : Trees) → In (after [] v) u
    → In (after [] (v ++ makes t ∷ [])) u
after_make v t u h = subst (λ x. In x u) (sym (after-append [] v (makes t ∷ []))) (inr h)

-- a tree that wasn't made, or is small
pub sharing_make : (rest : Trees) (kept : List Trees) (v : List Visit) (label : List ℕ) (below : Trees) → Sharing (beside rest below) kept v → ¬ (IsBig (tree label below none) × In (after [] v) (tree label below none))
    → Sharing (beside rest (tree label below none)) kept (v ++ makes (tree label below none) ∷ [])
sharing_make rest kept v label below s fresh =
    let t : Trees = tree label below none in
    let parts = covers_apart rest below v s.covers in
    record {
      covers = subst (λ x. Covers (beside rest t) x) (sym (append_assoc parts.0 parts.1 (makes t ∷ [])) ∙ ap (λ x. x ++ makes t ∷ []) (sym parts.2))
          (covers_beside rest t parts.0 (parts.1 ++ makes t ∷ []) parts.3 (covers_made_one label below parts.1 parts.4));
      careful = careful_join IsBig [] v (makes t ∷ []) s.careful (fresh, tt);
      kept_made = λ u h big. after_make v t u (s.kept_made u h big);
    }

-- a tree that was made: one step takes the place of one for each child
pub record CutBack (rest : Trees) (kept : List Trees) (v : List Visit) (t below : Trees) : Type 0 where
  pub prefix : List Visit
  pub back : List Visit
  pub parts : v ≡ prefix ++ back
  pub long : length back ≡ roots below
  pub sharing : Sharing (beside rest t) kept (prefix ++ repeats t ∷ [])
  pub same : (u : Trees) → IsBig u → In (after [] v) u → In (after [] (prefix ++ repeats t ∷ [])) u
  pub only : (u : Trees) → In (after [] (prefix ++ repeats t ∷ [])) u → In (after [] v) u

pub sharing_cut : (rest : Trees) (kept : List Trees) (v : List Visit) (label : List ℕ) (below : Trees) → Sharing (beside rest below) kept v → IsBig (tree label below none)
    → In (after [] v) (tree label below none) → CutBack rest kept v (tree label below none) below
sharing_cut rest kept v label below s big made =
    let t : Trees = tree label below none in
    let parts = covers_apart rest below v s.covers in
    let c = careful_apart IsBig [] parts.0 parts.1 (subst (Careful IsBig []) parts.2 s.careful) in
    let whole : after [] v ≡ after (after [] parts.0) parts.1 = ap (after []) parts.2 ∙ after-append [] parts.0 parts.1 in
    let before : In (after [] parts.0) t = ⊎_elim
    (λ h. h)
    (λ sub. absurd (not_below label below sub))
    (covered_made below (after [] parts.0) parts.1 t parts.4 (subst (λ x. In x t) whole made)) in
    let all = all_made rest [] parts.0 (λ t u h sub. absurd h) parts.3 c.0 in
    let one = each_one below (after [] parts.0) parts.1 (λ u sub is. all.closed t u before (inr (inl sub))) parts.4 c.1 in
    let new : after [] (parts.0 ++ repeats t ∷ []) ≡ after [] parts.0 = after-append [] parts.0 (repeats t ∷ []) in
    let same : (u : Trees) → IsBig u → In (after [] v) u → In (after [] (parts.0 ++ repeats t ∷ [])) u =
    λ u is h. subst (λ x. In x u) (sym new) (one.same u is (subst (λ x. In x u) whole h)) in
    record {
      prefix = parts.0;
      back = parts.1;
      parts = parts.2;
      long = one.long;
      sharing = record {
        covers = covers_beside rest t parts.0 (repeats t ∷ []) parts.3 (covers_one label below);
        careful = careful_join IsBig [] parts.0 (repeats t ∷ []) c.0 ((big, before), tt);
        kept_made = λ u h is. same u is (s.kept_made u h is);
      };
      same = same;
      only = λ u h. subst (λ x. In x u) (sym whole) (after_has (after [] parts.0) parts.1 u (subst (λ x. In x u) new h));
    }

-- a kept tree that is big
pub sharing_repeat : (row : Trees) (kept : List Trees) (v : List Visit) (label : List ℕ) (below : Trees) → Sharing row kept v → In kept (tree label below none) → IsBig (tree label below none)
    → Sharing (beside row (tree label below none)) kept (v ++ repeats (tree label below none) ∷ [])
sharing_repeat row kept v label below s among big =
    let t : Trees = tree label below none in
    record {
      covers = covers_beside row t v (repeats t ∷ []) s.covers (covers_one label below);
      careful = careful_join IsBig [] v (repeats t ∷ []) s.careful
          ((big, s.kept_made t among big), tt);
      kept_made = λ u h is. subst (λ x. In x u) (sym (after-append [] v (repeats t ∷ []))) (s.kept_made u h is);
    }

-- a kept leaf
pub sharing_leaf : (row : Trees) (kept : List Trees) (v : List Visit) (label : List ℕ) → Sharing row kept v → Sharing (beside row (tree label none none)) kept (v ++ makes (tree label none none) ∷ [])
sharing_leaf row kept v label s =
    sharing_make row kept v label none (rw (beside-none row) s) (λ h. leaf_small label h.0)

-- a mark
pub sharing_keep : (rest : Trees) (kept : List Trees) (v : List Visit) (label : List ℕ) (below : Trees) → Sharing (beside rest (tree label below none)) kept v
    → Sharing (beside rest (tree label below none)) (kept ++ tree label below none ∷ []) v
sharing_keep rest kept v label below s =
    let t : Trees = tree label below none in
    let all = all_made (beside rest t) [] v (λ t u h sub. absurd h) s.covers s.careful in
    record {
      covers = s.covers;
      careful = s.careful;
      kept_made = λ u h big. ⊎_elim (λ old. s.kept_made u old big)
          (λ e. all.subtrees u (sub_right rest t u (inl (sym e)))) (in_push kept t u h);
    }

-- ==== a fully shared proof has the fewest steps of all proofs of its tree

module _ (before : List Sentence) (trees : Trees) (moves : List (Move (List ℕ)))
    (kept : List Trees) (m : Makes before moves none [] trees kept) where
  -- the trees that the moves make by labels
  abbrev made : List Trees
  made = trees_made (visits before moves none [] trees kept m)

  steps_count : steps_in moves ≡ roots trees + sum_by children made
  steps_count =
      omega (arith, steps_children before moves none [] trees kept m (λ t h. absurd h))

  subtree_made : (t : Trees) → IsSubtree trees t → In made t
  subtree_made = subtrees_made (In made) before moves none [] trees kept m (λ u h. absurd h)
      (λ t u h. absurd h) (λ u h. h)

  -- the big trees that a fully shared proof makes are the big subtrees
  big_subtrees : (b : Bigs made) → Once b.list → AreBigSubtrees trees b.list
  big_subtrees b once = record {
    each = λ t. (
      λ c. let h = b.only t (contains_in b.list t c) in
          (made_subtrees before moves none [] trees kept m t h.0, h.1),
      λ h. in_contains b.list t (b.each t (subtree_made t h.0) h.1),
    );
    once = λ i j t. once_indices b.list i j t once;
  }

pair_steps : (before : List Sentence) (s : Sentence) (label : List ℕ) (below : Trees)
    (listed : List (List ℕ)) (codes : List Code)
    (p : PairMakes before s (tree label below none) listed codes)
    → steps_of codes ≡ 1 + sum_by children
    (trees_of before s (tree label below none) listed codes p)
pair_steps before s label below listed codes p = said_steps _ codes p.moves p.says.each
    ∙ steps_count before (tree label below none) p.moves p.kept p.made

pub steps_make_children_holds : StepsMakeChildren
steps_make_children_holds before s label below listed codes p = (
  pair_steps before s label below listed codes p,
  λ t h. in_contains (trees_of before s (tree label below none) listed codes p) t
      (subtree_made before (tree label below none) p.moves p.kept p.made t h),
)

pub fewest_steps_holds : FewestSteps
fewest_steps_holds before s label below listed codes p =
    let trees : Trees = tree label below none in
    let b = bigs_of (made before trees p.moves p.shared.kept p.shared.made) in
    let once = b.once (tidy_big_once _ [] (shared_tidy before trees p.moves p.shared)) in
    let count : steps_of codes ≡ 1 + sum_by children b.list =
    said_steps _ codes p.moves p.says.each
    ∙ steps_count before trees p.moves p.shared.kept p.shared.made
    ∙ ap (λ n. 1 + n) (sym b.same) in
    let are = big_subtrees before trees p.moves p.shared.kept p.shared.made b once in (
      (b.list, are),
      λ list other.
          let most = sum_within children b.list list once
          (λ t h. contains_in list t ((other.each t).1
          ((are.each t).0 (in_contains b.list t h)))) in
          let least = sum_within children list b.list (indices_once list other.once)
          (λ t h. contains_in b.list t ((are.each t).1
          ((other.each t).0 (in_contains list t h)))) in
          omega arith,
      λ listed' codes' q.
          let more = sum_within children b.list (trees_of before s trees listed' codes' q) once
          (λ t h. subtree_made before trees q.moves q.kept q.made t
          ((are.each t).0 (in_contains b.list t h)).0) in
          let steps = pair_steps before s label below listed' codes' q in
          omega arith,
    )
