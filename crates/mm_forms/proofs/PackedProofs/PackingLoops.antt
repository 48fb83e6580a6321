-- The steps, labels and codes so far of a fully shared proof, as it is made and packed.
use Rattle.std.proofs.Common.{◌*◌}
use Rattle.std.proofs.Common.{◌≡◌, ◌≢◌, ℕ, zero, suc, Some, slice_get, ◌+◌, ◌-◌, ◌≤◌, List, [], ◌∷◌}
use Rattle.std.proofs.Common.{◌++◌, length, take, Contains, ◌⊎◌, inl, inr, ⊎_elim, refl, ap, ◌∙◌}
use Rattle.std.proofs.Common.{arith, sym, subst, ◌<◌, get_or, Bool, true, false, ◌↔◌, append_assoc}
use Rattle.std.proofs.Common.{append-nil}
use Rattle.std.specs.List.{AllZip}
use Rattle.std.proofs.lemmas.Option.{none-some, slice_get-get_or}
use Rattle.mm_forms.specs.Mirror.SharedSteps.{Careful}
use Rattle.std.proofs.lemmas.List.{length-append, take_at, length-take, take_more}
use Rattle.std.proofs.lemmas.List.Elements.{Contains-push, Contains-push_cases}
use Rattle.std.proofs.lemmas.List.Elements.{Contains-append_left}
use Rattle.std.proofs.lemmas.Slice.Zip.{AllZip-long}
use Rattle.mm_base.proofs.Lists.{zip_push, zip_left, zip_take, zip_weaker}
use Rattle.mm_frame.proofs.Blocks.NumberedBlocks.{count_append}
use Rattle.mm_frame.specs.Sentence.{Sentence}
use Rattle.mm_frame.specs.Rules.{AllMeant}
use Rattle.mm_forms.specs.declared.subtrees.Subtree.{Subtree}
use Rattle.mm_forms.specs.declared.subtrees.Row.{Row}
use Rattle.mm_forms.specs.declared.sharing.SharedStep.{SharedStep}
use Rattle.mm_forms.specs.declared.sharing.SharedSteps.{SharedSteps}
use Rattle.mm_step.specs.Tree.{Trees, none, tree, beside, roots}
use Rattle.mm_forms.specs.BigSubtrees.{IsBig}
use Rattle.mm_forms.specs.Visits.{Visit, makes, repeats}
use Rattle.mm_forms.specs.Mirror.Subtrees.{AreOnce, KeepNumbers, IsTreeOf, StandsFor}
use Rattle.mm_forms.specs.Mirror.CodeSharing.{IsStepOf, AreSharedSteps, IsRepeat, Shares}
use Rattle.mm_forms.specs.Mirror.CodeSharing.{SharingSteps, ShareSteps, AreMadeBefore, Adds}
use Rattle.mm_proof.specs.Mirror.CodeSharing.{AddsNew}
use Rattle.mm_forms.specs.Mirror.CodeSharing.{labels_made, AreFirstNumbers, IsEncoded}
use Rattle.mm_forms.specs.Mirror.CodeSharing.{AreEncoded, AreStepsPacked}
use Rattle.mm_proof.specs.Sharing.{is_number, steps_of}
use Rattle.mm_proof.specs.Mirror.SharedSteps.{In}
use Rattle.mm_proof.proofs.Members.{in_contains, contains_in, get_in, in_left, in_right}
use Rattle.mm_proof.proofs.Members.{in_apart, in_push, Once}
use Rattle.mm_forms.specs.Mirror.SharedSteps.{after}
use Rattle.mm_forms.proofs.FullSharing.OneSharing.{after-append}
use Rattle.mm_forms.proofs.PackedProofs.SubtreeNumbers.{tree_later, tree_once, subtree_once}
use Rattle.mm_forms.proofs.PackedProofs.SubtreeNumbers.{subtrees_keep}
use Rattle.mm_forms.proofs.FullSharing.FewestSteps.{leaf_small, parent_big, sharing_make}
use Rattle.mm_forms.proofs.FullSharing.FewestSteps.{sharing_cut, sharing_repeat, sharing_leaf}
use Rattle.mm_forms.proofs.FullSharing.FewestSteps.{sharing_keep, after_make, length_within}
use Rattle.mm_forms.proofs.FullSharing.OneSharedProof.{once_joined}
use Rattle.mm_code.specs.declared.code.Code.{Code}
use Rattle.mm_forms.specs.declared.sharing.SharedStep.TheVariants.{Make, Repeat}
use Rattle.mm_forms.specs.declared.sharing.SharedStep.TheVariants as step
use Rattle.mm_proof.proofs.ProofNumbers.MoreLabels.{one_more}

-- ==== the steps so far of a fully shared proof, by the numbers of its subtrees

-- ---- leaves and others

-- where no tree is below, the number is 0; and where one is, it isn't
pub leaf_below : (st : List Sentence) (rows : List Row) (n : ℕ) (below : Trees) → StandsFor st rows n below → n ≡ 0 → below ≡ none
leaf_below st rows n none s e = refl
leaf_below st rows n (tree l b r) s e = absurd (let next = s.1.next in omega arith)

pub big_below : (st : List Sentence) (rows : List Row) (n : ℕ) (label : List ℕ) (below : Trees) → StandsFor st rows n below → n ≢ 0 → IsBig (tree label below none)
big_below st rows n label none s e = absurd (e s)
big_below st rows n label (tree l b r) s e = parent_big label l b r

-- ---- the steps so far

-- by a greater table
step_later : (st : List Sentence) (old new : List Row) → KeepNumbers old new
    → (x : SharedStep) (v : Visit) → IsStepOf st old x v → IsStepOf st new x v
step_later st old new keep (step.Make t) v h = (h.0, h.1, tree_later st old new t h.0 h.1 keep h.2, h.3)
step_later st old new keep (step.Repeat t) v h = (h.0, h.1, tree_later st old new t h.0 h.1 keep h.2, h.3)

pub steps_later : (st : List Sentence) (old new : List Row) (steps : List SharedStep) (keys : List Subtree) (row : Trees) (kept : List Trees) → KeepNumbers old new → SharingSteps st old steps keys row kept
    → SharingSteps st new steps keys row kept
steps_later st old new steps keys row kept keep h = record {
  v = h.v;
  are = zip_weaker _ _ (step_later st old new keep) steps h.v h.are;
  sharing = h.sharing;
  known = λ label below big made. let q = h.known label below big made in (q.0, q.1, tree_later st old new q.0 label below keep q.2);
  only = λ t has. let q = h.only t has in (q.0, q.1, tree_later st old new t q.0 q.1 keep q.2, q.3, q.4);
}

after_more : (v : List Visit) (t u : Trees) → In (after [] (v ++ makes t ∷ [])) u → (t ≡ u) ⊎ In (after [] v) u
after_more v t u h = rw after-append at h

-- fewer steps at the end
zip_front_of : (st : List Sentence) (rows : List Row) (steps : List SharedStep) (v prefix back : List Visit) (count : ℕ) → AllZip (IsStepOf st rows) steps v → v ≡ prefix ++ back → length back ≡ count
    → AllZip (IsStepOf st rows) (take (length steps - count) steps) prefix
zip_front_of st rows steps v prefix back count z parts long =
    let same = AllZip-long (IsStepOf st rows) steps v z in
    let n = length-append prefix back in
    let whole = ap length parts in
    let same_long : length prefix ≡ length steps - count = omega arith in
    rw (parts, take_at prefix back (length steps - count) same_long) at
    (zip_take (IsStepOf st rows) steps v (length steps - count) z)

pub steps_make : (st : List Sentence) (rows : List Row) (t : Subtree) (count : ℕ) (steps steps' : List SharedStep) (keys keys' : List Subtree) (rest below : Trees) (kept : List Trees) (label : List ℕ)
    → AllMeant st → AreOnce rows → IsTreeOf st rows t label below → roots below ≡ count → Shares t count steps keys steps' keys'
    → SharingSteps st rows steps keys (beside rest below) kept → SharingSteps st rows steps' keys' (beside rest (tree label below none)) kept
steps_make st rows t count steps steps' keys keys' rest below kept label all once is many shares h = go shares
  where
    tr : Trees
    tr = tree label below none

    made_one : ¬ (IsBig tr × In (after [] h.v) tr) → (new : List SharedStep) (keys' : List Subtree) → new ≡ steps ++ step.Make t ∷ []
        → ((l : List ℕ) (b : Trees) → IsBig (tree l b none) → In (after [] (h.v ++ makes tr ∷ [])) (tree l b none) → (u : Subtree) × Contains keys' u × IsTreeOf st rows u l b)
        → ((u : Subtree) → Contains keys' u → (l : List ℕ) × (b : Trees) × IsTreeOf st rows u l b × IsBig (tree l b none) × In (after [] (h.v ++ makes tr ∷ [])) (tree l b none))
        → SharingSteps st rows new keys' (beside rest tr) kept
    made_one fresh new keys' e known only = record {
      v = h.v ++ makes tr ∷ [];
      are = rw e (zip_push (IsStepOf st rows) steps h.v (step.Make t) (makes tr) h.are (label, below, is, refl));
      sharing = sharing_make rest kept h.v label below h.sharing fresh;
      known = known;
      only = only;
    }

    go : Shares t count steps keys steps' keys' → SharingSteps st rows steps' keys' (beside rest tr) kept
    go (inl leaf) =
        let bare : below ≡ none = leaf_below st rows t.below below is.stands leaf.0 in
        let small : ¬ (IsBig tr) = rw bare (leaf_small label) in
        made_one (λ p. small p.0) steps' keys' leaf.1
        (λ l b big k. ⊎_elim
        (λ e. absurd (small (subst IsBig (sym e) big)))
        (λ old. let g = h.known l b big old in (g.0, rw leaf.2 g.1, g.2))
        (after_more h.v tr (tree l b none) k))
        (λ u k. let g = h.only u (rw leaf.2 at k) in (g.0, g.1, g.2, g.3, after_make h.v tr (tree g.0 g.1 none) g.4))
    go (inr (inl cut)) =
        let big : IsBig tr = big_below st rows t.below label below is.stands cut.0 in
        let g = h.only t cut.1 in
        let same = tree_once st rows t g.0 label g.1 below g.2 is in
        let made : In (after [] h.v) tr = rw (same.0, same.1) at g.4 in
        let c = sharing_cut rest kept h.v label below h.sharing big made in
        record {
          v = c.prefix ++ repeats tr ∷ [];
          are = rw cut.2
              (zip_push (IsStepOf st rows) (take (length steps - count) steps) c.prefix (step.Repeat t) (repeats tr) (zip_front_of st rows steps h.v c.prefix c.back count h.are c.parts (c.long ∙ many)) (label, below, is, refl));
          sharing = c.sharing;
          known = λ l b is k. let q = h.known l b is (c.only (tree l b none) k) in (q.0, rw cut.3 q.1, q.2);
          only = λ u k. let q = h.only u (rw cut.3 at k) in (q.0, q.1, q.2, q.3, c.same (tree q.0 q.1 none) q.3 q.4);
        }
    go (inr (inr new)) =
        let big : IsBig tr = big_below st rows t.below label below is.stands new.0 in
        let fresh : ¬ (IsBig tr × In (after [] h.v) tr) = λ p.
        let q = h.known label below p.0 p.1 in
        new.1 (rw (subtree_once st rows q.0 t label below all once q.2 is) at q.1) in
        made_one fresh steps' keys' new.2
        (λ l b is' k. ⊎_elim
        (λ e.
        let p : label ≡ l = cc in
        let q : below ≡ b = cc in
        (t, rw new.3 (Contains-push keys t), rw (p, q) at is))
        (λ old. let q = h.known l b is' old in (q.0, rw new.3 (Contains-append_left keys (t ∷ []) q.0 q.1), q.2))
        (after_more h.v tr (tree l b none) k))
        (λ u k. ⊎_elim
        (λ old. let q = h.only u old in (q.0, q.1, q.2, q.3, after_make h.v tr (tree q.0 q.1 none) q.4))
        (λ e. (label, below, rw e at is, big, rw after-append (inl refl)))
        (Contains-push_cases keys t u (rw new.3 at k)))

pub steps_repeat : (st : List Sentence) (rows : List Row) (t : Subtree) (one : SharedStep) (steps : List SharedStep) (keys : List Subtree) (row : Trees) (kept : List Trees) (label : List ℕ) (below : Trees)
    → IsTreeOf st rows t label below → In kept (tree label below none) → IsRepeat t one → SharingSteps st rows steps keys row kept → SharingSteps st rows (steps ++ one ∷ []) keys (beside row (tree label below none)) kept
steps_repeat st rows t one steps keys row kept label below of among (inl leaf) h =
    let tr : Trees = tree label below none in
    let bare : below ≡ none = leaf_below st rows t.below below of.stands leaf.0 in
    let small : ¬ (IsBig tr) = rw bare (leaf_small label) in
    record {
      v = h.v ++ makes tr ∷ [];
      are = zip_push (IsStepOf st rows) steps h.v one (makes tr) h.are (rw leaf.1 (label, below, of, refl));
      sharing = rw bare (sharing_leaf row kept h.v label h.sharing);
      known = λ l b big k. ⊎_elim
          (λ e. absurd (small (subst IsBig (sym e) big)))
          (h.known l b big) (after_more h.v tr (tree l b none) k);
      only = λ u k. let q = h.only u k in (q.0, q.1, q.2, q.3, after_make h.v tr (tree q.0 q.1 none) q.4);
    }
steps_repeat st rows t one steps keys row kept label below of among (inr more) h =
    let tr : Trees = tree label below none in
    let big : IsBig tr = big_below st rows t.below label below of.stands more.0 in
    record {
      v = h.v ++ repeats tr ∷ [];
      are = zip_push (IsStepOf st rows) steps h.v one (repeats tr) h.are (rw more.1 (label, below, of, refl));
      sharing = sharing_repeat row kept h.v label below h.sharing among big;
      known = λ l b is k. h.known l b is (rw (after-append [] h.v (repeats tr ∷ [])) at k);
      only = λ u k. let q = h.only u k in (q.0, q.1, q.2, q.3, rw (after-append [] h.v (repeats tr ∷ [])) q.4);
    }

pub shared_keep : (first now : SharedSteps) (st : List Sentence) (stack shelf : List Subtree) (item : Subtree) (rest : Trees) (kept : List Trees) (steps : ℕ) (label : List ℕ) (below : Trees)
    → ShareSteps first now st (stack ++ item ∷ []) (beside rest (tree label below none)) shelf kept steps
    → ShareSteps first now st (stack ++ item ∷ []) (beside rest (tree label below none)) (shelf ++ item ∷ []) (kept ++ tree label below none ∷ []) steps
shared_keep first now st stack shelf item rest kept steps label below h = record {
  subtrees = subtrees_keep st first.table now.table stack shelf item rest below kept label h.subtrees;
  few = h.few;
  shared = λ all. let s = h.shared all in record { v = s.v; are = s.are; sharing = sharing_keep rest kept s.v label below s.sharing; known = s.known; only = s.only };
}

pub steps_end : (st : List Sentence) (rows : List Row) (steps : List SharedStep) (keys : List Subtree) (row : Trees) (kept : List Trees) → SharingSteps st rows steps keys row kept → AreSharedSteps IsBig st rows row steps
steps_end st rows steps keys row kept h = record { visits = h.v; said = h.are; covers = h.sharing.covers; careful = h.sharing.careful }

-- ---- what is repeated was made before

-- it is one of those that were made, or a step before makes it
made_before : (P : Trees → Type 0) (st : List Sentence) (rows : List Row) (made : List Trees) (steps : List SharedStep) (v : List Visit) (i : ℕ) (t : Subtree) (label : List ℕ) (below : Trees)
    → AllMeant st → AreOnce rows → AllZip (IsStepOf st rows) steps v → Careful P made v → slice_get steps i ≡ Some (step.Repeat t) → IsTreeOf st rows t label below
    → In made (tree label below none) ⊎ In (take i steps) (step.Make t)
made_before P st rows made [] v i t label below all once z careful there is = absurd (none-some (step.Repeat t) there)
made_before P st rows made (x ∷ steps) [] i t label below all once z careful there is = absurd z
made_before P st rows made (step.Make u ∷ steps) (w ∷ v) zero t label below all once z careful there is = absurd cc
made_before P st rows made (step.Make u ∷ steps) (w ∷ v) (suc i) t label below all once z careful there is =
    let o : (l : List ℕ) × (b : Trees) × IsTreeOf st rows u l b × (w ≡ makes (tree l b none)) = z.0 in
    let later = rw o.3 at careful in
    elim (made_before P st rows (tree o.0 o.1 none ∷ made) steps v i t label below all once z.1 later.1 there is) [
      | inl (inl e) ↦
          let same : (o.0 ≡ label) × (o.1 ≡ below) = (cc, cc) in
          let its = rw (same.0, same.1) at o.2 in
          inr (inl (ap step.Make (subtree_once st rows u t label below all once its is)))
      | inl (inr h) ↦ inl h
      | inr h ↦ inr (inr h)
    ]
made_before P st rows made (step.Repeat u ∷ steps) (w ∷ v) zero t label below all once z careful there is =
    let o : (l : List ℕ) × (b : Trees) × IsTreeOf st rows u l b × (w ≡ repeats (tree l b none)) = z.0 in
    let now = rw o.3 at careful in
    let one : u ≡ t = cc in
    let same = tree_once st rows t o.0 label o.1 below (rw one at o.2) is in
    inl (rw (same.0, same.1) at now.0.1)
made_before P st rows made (step.Repeat u ∷ steps) (w ∷ v) (suc i) t label below all once z careful there is =
    let o : (l : List ℕ) × (b : Trees) × IsTreeOf st rows u l b × (w ≡ repeats (tree l b none)) = z.0 in
    let later = rw o.3 at careful in
    ⊎_elim inl (λ h. inr (inr h)) (made_before P st rows made steps v i t label below all once z.1 later.1 there is)

pub steps_made_before : (P : Trees → Type 0) (st : List Sentence) (rows : List Row)
    (trees : Trees) (steps : List SharedStep) → AllMeant st → AreOnce rows
    → AreSharedSteps P st rows trees steps → AreMadeBefore steps
steps_made_before P st rows trees steps all once h i t there =
    let one = (zip_left (IsStepOf st rows) steps h.visits i (step.Repeat t) h.said there).2 in
    in_contains (take i steps) (step.Make t)
    (⊎_elim (λ k. absurd k) (λ k. k) (made_before P st rows [] steps h.visits i t one.0 one.1 all once h.said h.careful there
    one.2))

-- ---- how many they are

pub fewer_steps : (t : Subtree) (count i : ℕ) (steps steps' : List SharedStep) (keys keys' : List Subtree) → Shares t count steps keys steps' keys' → length steps ≤ i → length steps' ≤ i + 1
fewer_steps t count i steps steps' keys keys' (inl p) few = let n = length-append steps (step.Make t ∷ []) in let e = ap length p.1 in omega arith
fewer_steps t count i steps steps' keys keys' (inr (inl p)) few =
    let n = length-append (take (length steps - count) steps) (step.Repeat t ∷ []) in
    let l = length-take (length steps - count) steps in
    let e = ap length p.2 in omega arith
fewer_steps t count i steps steps' keys keys' (inr (inr p)) few = let n = length-append steps (step.Make t ∷ []) in let e = ap length p.2 in omega arith

pub fewer_more : (i : ℕ) (one : SharedStep) (steps : List SharedStep) → length steps ≤ i → length (steps ++ one ∷ []) ≤ i + 1
fewer_more i one steps few = let n = length-append steps (one ∷ []) in omega arith

pub one_there : {X : Type 0} (xs : List X) (i : ℕ) (d x : X) → i < length xs → get_or xs i d ≡ x → Contains xs x
one_there xs i d x less is = in_contains xs x (get_in xs i x (slice_get-get_or xs i d less ∙ ap Some is))

-- ---- what is added to a list

module _ {X : Type 0} (old new : List X) (x : X) where
  adds_old : (y : X) → Adds old x new → Contains old y → Contains new y
  adds_old y (inl p) h = rw p.1 h
  adds_old y (inr p) h = rw p.1 (Contains-append_left old (x ∷ []) y h)

  adds_new : Adds old x new → Contains new x
  adds_new (inl p) = rw p.1 p.0
  adds_new (inr p) = rw p.1 (Contains-push old x)

  adds_only : (y : X) → Adds old x new → Contains new y → Contains old y ⊎ (x ≡ y)
  adds_only y (inl p) h = inl (rw p.1 at h)
  adds_only y (inr p) h = Contains-push_cases old x y (rw p.1 at h)

-- ---- the trees that are repeated

abbrev pub AreRepeated : List Subtree → List SharedStep → Type 0
AreRepeated trees steps = (t : Subtree) → Contains trees t ↔ Contains steps (Repeat t)

pub repeated_repeat : (trees trees' : List Subtree) (steps : List SharedStep) (t : Subtree) → Adds trees t trees' → AreRepeated trees steps → AreRepeated trees' (steps ++ Repeat t ∷ [])
repeated_repeat trees trees' steps t adds are u = (
  λ h. ⊎_elim
      (λ old. Contains-append_left steps (Repeat t ∷ []) (Repeat u) ((are u).0 old))
      (λ e. subst (λ x. Contains (steps ++ Repeat t ∷ []) (Repeat x)) e (Contains-push steps (Repeat t)))
      (adds_only trees trees' t u adds h),
  λ h. ⊎_elim
      (λ old. adds_old trees trees' t u adds ((are u).1 old))
      (λ e. let same : t ≡ u = cc in rw same at (adds_new trees trees' t adds))
      (Contains-push_cases steps (Repeat t) (Repeat u) h),
)

pub repeated_make : (trees : List Subtree) (steps : List SharedStep) (t : Subtree) → AreRepeated trees steps → AreRepeated trees (steps ++ Make t ∷ [])
repeated_make trees steps t are u = (
  λ h. Contains-append_left steps (Make t ∷ []) (Repeat u) ((are u).0 h),
  λ h. ⊎_elim (are u).1 (λ e. absurd cc) (Contains-push_cases steps (Make t) (Repeat u) h),
)

-- ---- first uses

-- a number that was seen or listed lists nothing more
first_seen : (seen numbers listed : List ℕ) (n : ℕ) → AreFirstNumbers seen numbers listed → In seen n ⊎ In listed n → AreFirstNumbers seen (numbers ++ n ∷ []) listed
first_seen seen [] listed n e (inl h) = inl (in_contains seen n h, e)
first_seen seen [] listed n e (inr h) = absurd (rw e at h)
first_seen seen (m ∷ numbers) listed n (inl u) h = inl (u.0, first_seen seen numbers listed n u.1 h)
first_seen seen (m ∷ numbers) listed n (inr u) h =
    let k = rw u.2 at h in
    inr (u.0, u.1, u.2, first_seen (m ∷ seen) numbers u.1 n u.3 (grind arith))

-- another is listed
first_new : (seen numbers listed : List ℕ) (n : ℕ) → AreFirstNumbers seen numbers listed → ¬ (In seen n) → ¬ (In listed n) → AreFirstNumbers seen (numbers ++ n ∷ []) (listed ++ n ∷ [])
first_new seen [] listed n e unseen other = inr (λ c. unseen (contains_in seen n c), [], ap (λ l. l ++ n ∷ []) e, refl)
first_new seen (m ∷ numbers) listed n (inl u) unseen other = inl (u.0, first_new seen numbers listed n u.1 unseen other)
first_new seen (m ∷ numbers) listed n (inr u) unseen other =
    let apart = rw u.2 at other in
    inr (
      u.0,
      u.1 ++ n ∷ [],
      ap (λ l. l ++ n ∷ []) u.2,
      first_new (m ∷ seen) numbers u.1 n u.3 (grind arith) (grind arith),
    )

-- the numbers as far as they are listed behind those that were seen
pub record Listing (seen labels numbers listed : List ℕ) : Type 0 where
  pub all : labels ≡ seen ++ listed
  pub first : AreFirstNumbers seen numbers listed

pub listing_old : (seen labels labels' numbers listed : List ℕ) (n : ℕ) → Listing seen labels numbers listed → AddsNew labels n false labels' → Listing seen labels' (numbers ++ n ∷ []) listed
listing_old seen labels labels' numbers listed n l a = record {
  all = a.1 ∙ l.all;
  first = first_seen seen numbers listed n l.first (in_apart seen listed n (rw l.all at (contains_in labels n a.0)));
}

pub listing_new : (seen labels labels' numbers listed : List ℕ) (n : ℕ) → Listing seen labels numbers listed → AddsNew labels n true labels' → Listing seen labels' (numbers ++ n ∷ []) (listed ++ n ∷ [])
listing_new seen labels labels' numbers listed n l a =
    let fresh : ¬ (In (seen ++ listed) n) = λ h. a.0 (in_contains labels n (rw l.all h)) in
    record {
      all = a.1 ∙ ap (λ x. x ++ n ∷ []) l.all ∙ append_assoc seen listed (n ∷ []);
      first = first_new seen numbers listed n l.first (λ h. fresh (in_left seen listed n h)) (λ h. fresh (in_right seen listed n h));
    }

-- where nothing was seen, and whatever is new
pub first_added : (numbers listed listed' : List ℕ) (n : ℕ) (is_new : Bool) → AreFirstNumbers [] numbers listed → AddsNew listed n is_new listed' → AreFirstNumbers [] (numbers ++ n ∷ []) listed'
first_added numbers listed listed' n false f a = rw a.1 (listing_old [] listed _ numbers listed n (record { all = refl; first = f }) a).first
first_added numbers listed listed' n true f a = rw a.1 (listing_new [] listed _ numbers listed n (record { all = refl; first = f }) a).first

-- ---- the labels of steps

pub labels_made-append : (a b : List SharedStep)
    → labels_made (a ++ b) ≡ labels_made a ++ labels_made b
labels_made-append [] b = refl
labels_made-append (Make u ∷ a) b = ap (λ l. u.label ∷ l) (labels_made-append a b)
labels_made-append (Repeat u ∷ a) b = labels_made-append a b

-- the trees that are repeated, and the labels, are no more than the steps
pub few_make : (steps : List SharedStep) (t : Subtree) (count i : ℕ)
    → length (labels_made steps) + count ≤ i
    → length (labels_made (steps ++ Make t ∷ [])) + count ≤ i + 1
few_make steps t count i few =
    let e = ap length (labels_made-append steps (Make t ∷ [])) in
    let n = length-append (labels_made steps) (t.label ∷ []) in omega arith

adds_few : {X : Type 0} (old new : List X) (x : X) → Adds old x new → length new ≤ length old + 1
adds_few old new x (inl p) = let l = ap length p.1 in omega arith
adds_few old new x (inr p) =
    let l = ap length p.1 in let n = length-append old (x ∷ []) in omega arith

pub few_repeat : (steps : List SharedStep) (t : Subtree) (trees trees' : List Subtree) (i : ℕ)
    → Adds trees t trees' → length (labels_made steps) + length trees ≤ i
    → length (labels_made (steps ++ Repeat t ∷ [])) + length trees' ≤ i + 1
few_repeat steps t trees trees' i adds few =
    let e = ap length (labels_made-append steps (Repeat t ∷ [])) in
    let n = ap length (append-nil (labels_made steps)) in
    let more = adds_few trees trees' t adds in omega arith

pub first_few : (seen numbers listed : List ℕ) → AreFirstNumbers seen numbers listed → length listed ≤ length numbers
first_few seen [] listed e = let l = ap length e in omega arith
first_few seen (n ∷ numbers) listed (inl u) = let h = first_few seen numbers listed u.1 in omega arith
first_few seen (n ∷ numbers) listed (inr u) = let h = first_few (n ∷ seen) numbers u.1 u.3 in let l = ap length u.2 in omega arith

-- each number was seen or is listed
number_known : (seen numbers listed : List ℕ) (n : ℕ) → AreFirstNumbers seen numbers listed → In numbers n → In seen n ⊎ In listed n
number_known seen [] listed n u h = absurd h
number_known seen (m ∷ numbers) listed n (inl u) h =
    let old = contains_in seen m u.0 in
    let later = number_known seen numbers listed n u.1 in grind arith
number_known seen (m ∷ numbers) listed n (inr u) h =
    let later = number_known (m ∷ seen) numbers u.1 n u.3 in rw u.2 (grind arith)

-- the label of a tree that is made is among those
made_labelled : (steps : List SharedStep) (t : Subtree) → In steps (Make t) → In (labels_made steps) t.label
made_labelled [] t h = absurd h
made_labelled (Make u ∷ steps) t h = let later = made_labelled steps t in grind arith
made_labelled (Repeat u ∷ steps) t h = let later = made_labelled steps t in grind arith

-- so it was known or is listed
pub label_known : (known listed labels : List ℕ) (steps : List SharedStep) (t : Subtree) → labels ≡ known ++ listed → AreFirstNumbers known (labels_made steps) listed → Contains steps (Make t) → Contains labels t.label
label_known known listed labels steps t whole first has =
    let among = number_known known (labels_made steps) listed t.label first (made_labelled steps t (contains_in steps (Make t) has)) in
    rw whole (in_contains (known ++ listed) t.label (⊎_elim (in_left known listed t.label) (in_right known listed t.label) among))

-- ---- codes

-- one step more
encoded_more : (labels : List ℕ) (repeated kept : List Subtree) (steps : List SharedStep) (codes : List Code) (next : List Subtree) (one : SharedStep) (here : List Code) (kept' : List Subtree)
    → AreEncoded labels repeated kept steps codes next → IsEncoded labels repeated next one here kept' → AreEncoded labels repeated kept (steps ++ one ∷ []) (codes ++ here) kept'
encoded_more labels repeated kept [] codes next one here kept' a is =
    (here, kept', [], ap (λ c. c ++ here) a.0 ∙ sym (append-nil here), subst (λ k. IsEncoded labels repeated k one here kept') a.1 is, (refl, refl))
encoded_more labels repeated kept (s ∷ steps) codes next one here kept' a is =
    (a.0, a.1, a.2 ++ here, ap (λ c. c ++ here) a.3 ∙ append_assoc a.0 a.2 here, a.4, encoded_more labels repeated a.1 steps a.2 next one here kept' a.5 is)

-- the trees that are tagged stand once, and are among those that are repeated
pub record AreTagged (repeated kept : List Subtree) : Type 0 where
  pub once : Once kept
  pub within : (t : Subtree) → In kept t → In repeated t

pub tagged_few : (repeated kept : List Subtree) → AreTagged repeated kept
    → length kept ≤ length repeated
tagged_few repeated kept a = length_within kept repeated a.once a.within

tagged_more : (repeated kept kept' : List Subtree) (t : Subtree) → Contains repeated t
    → Adds kept t kept' → AreTagged repeated kept → AreTagged repeated kept'
tagged_more repeated kept kept' t among (inl p) a = rw p.1 a
tagged_more repeated kept kept' t among (inr p) a =
    let fresh : ¬ (In kept t) = λ h. p.0 (in_contains kept t h) in
    rw p.1 (record {
      once = once_joined kept (t ∷ []) a.once ((λ h. h), tt)
          (λ u h k. ⊎_elim (λ e. fresh (rw (← e) at k)) (λ z. z) h);
      within = λ u h. ⊎_elim (λ old. a.within u old)
          (λ e. subst (In repeated) e (contains_in repeated t among)) (in_push kept t u h);
    })

pub tagged_step : (labels : List ℕ) (repeated kept : List Subtree) (one : SharedStep)
    (codes : List Code) (kept' : List Subtree) → IsEncoded labels repeated kept one codes kept'
    → AreTagged repeated kept → AreTagged repeated kept'
tagged_step labels repeated kept (Repeat t) codes kept' is a = rw is.3 a
tagged_step labels repeated kept (Make t) codes kept' is a = ⊎_elim
    (λ p. tagged_more repeated kept kept' t p.0 p.2 a) (λ p. rw p.2 a) is.2

-- each step has two codes at most
encoded_two : (labels : List ℕ) (repeated kept : List Subtree) (one : SharedStep)
    (codes : List Code) (kept' : List Subtree) → IsEncoded labels repeated kept one codes kept'
    → length codes ≤ 2
encoded_two labels repeated kept (Repeat t) codes kept' a =
    let l = ap length a.2 in omega arith
encoded_two labels repeated kept (Make t) codes kept' a =
    ⊎_elim (λ p. let l = ap length p.1 in omega arith) (λ p. let l = ap length p.1 in omega arith)
    a.2

pub encoded_many : (labels : List ℕ) (repeated kept : List Subtree) (steps : List SharedStep)
    (codes : List Code) (kept' : List Subtree)
    → AreEncoded labels repeated kept steps codes kept' → length codes ≤ 2 * length steps
encoded_many labels repeated kept [] codes kept' a = let l = ap length a.0 in omega arith
encoded_many labels repeated kept (one ∷ steps) codes kept' a =
    let l = ap length a.3 ∙ length-append a.0 a.2 in
    let here = encoded_two labels repeated kept one a.0 a.1 a.4 in
    let later = encoded_many labels repeated a.1 steps a.2 kept' a.5 in omega arith

-- each step has one number among its codes
encoded_number : (labels : List ℕ) (repeated kept : List Subtree) (one : SharedStep)
    (codes : List Code) (kept' : List Subtree) → IsEncoded labels repeated kept one codes kept'
    → steps_of codes ≡ 1
encoded_number labels repeated kept (Repeat t) codes kept' a = ap steps_of a.2
encoded_number labels repeated kept (Make t) codes kept' a =
    ⊎_elim (λ p. ap steps_of p.1) (λ p. ap steps_of p.1) a.2

encoded_steps : (labels : List ℕ) (repeated kept : List Subtree) (steps : List SharedStep)
    (codes : List Code) (kept' : List Subtree)
    → AreEncoded labels repeated kept steps codes kept' → steps_of codes ≡ length steps
encoded_steps labels repeated kept [] codes kept' a = ap steps_of a.0
encoded_steps labels repeated kept (one ∷ steps) codes kept' a =
    let all = ap steps_of a.3 ∙ count_append is_number a.0 a.2 in
    let here = encoded_number labels repeated kept one a.0 a.1 a.4 in
    let later = encoded_steps labels repeated a.1 steps a.2 kept' a.5 in omega arith

pub encoded_next : (labels : List ℕ) (repeated : List Subtree) (steps : List SharedStep) (i : ℕ) (d : SharedStep) (codes codes' : List Code) (kept kept' : List Subtree) → i < length steps
    → AreEncoded labels repeated [] (take i steps) codes kept → (here : List Code) × (codes' ≡ codes ++ here) × IsEncoded labels repeated kept (get_or steps i d) here kept'
    → AreEncoded labels repeated [] (take (i + 1) steps) codes' kept'
encoded_next labels repeated steps i d codes codes' kept kept' less are is =
    rw (take_more steps i d less, is.1)
    (encoded_more labels repeated [] (take i steps) codes kept (get_or steps i d) is.0 kept' are is.2)

-- ---- trees that are tagged

-- each tree that was made and is repeated is tagged
abbrev pub AreTaggedSo : (repeated kept : List Subtree) → List SharedStep → Type 0
AreTaggedSo repeated kept steps = (t : Subtree) → Contains steps (Make t) → Contains repeated t → Contains kept t

-- one step more
tagged_one : (labels : List ℕ) (repeated kept : List Subtree) (steps : List SharedStep) (one : SharedStep) (codes : List Code) (kept' : List Subtree)
    → AreTaggedSo repeated kept steps → IsEncoded labels repeated kept one codes kept' → AreTaggedSo repeated kept' (steps ++ one ∷ [])
tagged_one labels repeated kept steps (Repeat u) codes kept' are is t h among =
    let cases = Contains-push_cases steps (Repeat u) (Make t) h in
    let old = are t in rw is.3 (grind arith)
tagged_one labels repeated kept steps (Make u) codes kept' are is t h among =
    let cases = Contains-push_cases steps (Make u) (Make t) h in
    let old = are t in
    ⊎_elim
    (λ p.
    let stays = adds_old kept kept' u t p.2 in
    let new = adds_new kept kept' u p.2 in grind arith)
    (λ p. rw p.2 (grind arith)) is.2

pub tagged_next : (labels : List ℕ) (repeated : List Subtree) (steps : List SharedStep) (i : ℕ) (d : SharedStep) (codes : List Code) (kept kept' : List Subtree) → i < length steps → AreTaggedSo repeated kept (take i steps)
    → IsEncoded labels repeated kept (get_or steps i d) codes kept' → AreTaggedSo repeated kept' (take (i + 1) steps)
tagged_next labels repeated steps i d codes kept kept' less are is =
    rw (one_more steps i d _ less refl)
    (tagged_one labels repeated kept (take i steps) (get_or steps i d) codes kept' are is)

-- a tree that is repeated at an index was tagged before
pub repeated_tagged : (repeated kept : List Subtree) (steps : List SharedStep) (i : ℕ) (d : SharedStep) (t : Subtree) → i < length steps → AreMadeBefore steps → ((u : Subtree) → Contains steps (Repeat u) → Contains repeated u)
    → AreTaggedSo repeated kept (take i steps) → get_or steps i d ≡ Repeat t → Contains kept t
repeated_tagged repeated kept steps i d t less made each are is =
    let there = slice_get-get_or steps i d less ∙ ap Some is in
    are t (made i t there) (each t (in_contains steps (Repeat t) (get_in steps i (Repeat t) there)))

-- ---- what is packed

-- the labels that were numbered are those of the hypotheses, and then the listed ones
pub steps_packed : (hypotheses given labels listed : List ℕ) (repeated : List Subtree)
    (steps : List SharedStep) (codes : List Code) → AreFirstNumbers [] hypotheses given
    → labels ≡ given ++ listed → AreFirstNumbers given (labels_made steps) listed
    → ((t : Subtree) → Contains repeated t ↔ Contains steps (step.Repeat t))
    → ((kept : List Subtree) × AreEncoded labels repeated [] steps codes kept)
    → AreStepsPacked hypotheses steps listed codes
steps_packed hypotheses given labels listed repeated steps codes own whole others each said = record {
  given = given;
  own = own;
  others = others;
  repeated = repeated;
  each = each;
  kept = said.0;
  said = subst (λ ls. AreEncoded ls repeated [] steps codes said.0) whole said.1;
}

-- the codes have as many steps as they say
pub packed_steps : (hypotheses : List ℕ) (steps : List SharedStep) (listed : List ℕ)
    (codes : List Code) → AreStepsPacked hypotheses steps listed codes
    → steps_of codes ≡ length steps
packed_steps hypotheses steps listed codes a =
    encoded_steps (a.given ++ listed) a.repeated [] steps codes a.kept a.said
