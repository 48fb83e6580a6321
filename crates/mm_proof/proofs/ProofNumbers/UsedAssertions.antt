-- The assertions that a tree uses are those of the moves that make it, and the numbers that are
-- picked.
use Rattle.std.proofs.Common.{◌≡◌, ℕ, zero, suc, List, [], ◌∷◌, ◌++◌, slice_get, Contains, Some}
use Rattle.std.proofs.Common.{◌⊎◌, inl, inr, ⊎_elim, ◌↔◌, sym, ap, subst, ◌∙◌, ◌≤◌, arith, ◌<◌}
use Rattle.std.proofs.Common.{length, take, refl, get_or, set, eqb, Bool, true}
use Rattle.std.proofs.Common.{false, IsTrue}
use Rattle.std.specs.List.{AllByRecursion}
use Rattle.std.proofs.lemmas.Option.{same_Some, none-some}
use Rattle.std.proofs.lemmas.List.Elements.{Contains-append_left, Contains-append_right}
use Rattle.std.proofs.lemmas.List.Elements.{Contains-append_cases, Contains-push}
use Rattle.std.proofs.lemmas.List.Elements.{Contains-push_cases}
use Rattle.mm_base.proofs.Lists.{all_push, all_at, all_weaker, zip_left, zip_right, get_take}
use Rattle.mm_base.proofs.Lists.{get_from_take, get_kept, get_pushed, pushed_cases}
use Rattle.mm_frame.specs.Sentence.{Sentence, IsAssertion, IsLabelled}
use Rattle.mm_step.specs.Tree.{Trees, none, tree, spelling}
use Rattle.mm_step.specs.Moves.{Move, name, again, mark, MakesOne, Makes}
use Rattle.mm_step.proofs.ProofSteps.Derivations.{spelling-beside}
use Rattle.mm_proof.proofs.ProofTokens.SpelledOver.{spelling_over}
use Rattle.std.proofs.lemmas.List.{take-take, get_or-set_same}
use Rattle.std.proofs.lemmas.List.{get_or-set_other}
use Rattle.mm_frame.specs.Rules.{AllMeant}
use Rattle.mm_frame.specs.Numbers.{labelled_sentences, IsNumbered, IsAssertionNumber}
use Rattle.mm_frame.proofs.Names.LabelNumbers.{numbered_from_get, numbered_get}
use Rattle.mm_step.specs.Steps.{IsNumberedMove, AreNumberedMoves, IsUsable, IsUsableMove}
use Rattle.mm_proof.specs.Used.{IsUsedNumber}
use Rattle.mm_step.proofs.ProofSteps.OneStep.{one_label, hypothesis_or_assertion}
use Rattle.std.proofs.lemmas.Bool.Decides.{Decides-eqb}
use Rattle.mm_frame.specs.declared.number.LabelId.{LabelId}
use Rattle.mm_step.specs.Plain.{ids_in}
use Rattle.mm_step.specs.Mirror.CodeRun.{AreMarked}
use Rattle.std.proofs.lemmas.Bool.{false≢true}
use Rattle.mm_step.proofs.ByNumbers.CalledAssertions.{entry_at, entry_within}

-- ==== the labels in the trees that moves make are those of the moves; so the assertions that are
-- used are those of the moves

-- some move is a step by the label
abbrev pub IsStepOf : List (Move (List ℕ)) → List ℕ → Type 0
IsStepOf moves label = (i : ℕ) × (slice_get moves i ≡ Some (name label))

-- ---- rows

-- what is kept stands in the row
abbrev KeptInRow : Trees → Trees → Type 0
KeptInRow row t = (x : List ℕ) → Contains (spelling t) x → Contains (spelling row) x

-- what one move makes: the row keeps its labels, gets that of the move, and no others
pub record RowGrows (move : Move (List ℕ)) (row row' : Trees) (kept' : List Trees) : Type 0 where
  pub keeps : (x : List ℕ) → Contains (spelling row) x → Contains (spelling row') x
  pub gets : (x : List ℕ) → move ≡ name x → Contains (spelling row') x
  pub no_more : (x : List ℕ) → Contains (spelling row') x → Contains (spelling row) x ⊎ (move ≡ name x)
  pub kept_in : AllByRecursion (KeptInRow row') kept'

row_grows : (before : List Sentence) (move : Move (List ℕ)) (a b : Trees) (k l : List Trees) → AllByRecursion (KeptInRow a) k → MakesOne before move a k b l → RowGrows move a b l
row_grows before (name label) a b k l inside m =
    let word : spelling b ≡ spelling a ++ label ∷ [] = ap spelling m.4 ∙ spelling_over m.0 m.1 label ∙ ap (λ t. spelling t ++ label ∷ []) (sym m.2) in
    let keeps : KeptInRow b a = λ x h. rw word (Contains-append_left (spelling a) (label ∷ []) x h) in
    record {
      keeps = keeps;
      gets = λ x e.
          let same : label ≡ x = cc in rw (word, ← same) (Contains-push (spelling a) label);
      no_more = λ x h. ⊎_elim inl (λ e. inr (ap name e)) (Contains-push_cases (spelling a) label x (rw word at h));
      kept_in = rw m.5 (all_weaker (KeptInRow a) (KeptInRow b) (λ t p x h. keeps x (p x h)) k inside);
    }
row_grows before (again tag) a b k l inside m =
    let word : spelling b ≡ spelling a ++ spelling m.0 = ap spelling m.2 ∙ spelling-beside a m.0 in
    let keeps : KeptInRow b a = λ x h. rw word (Contains-append_left (spelling a) (spelling m.0) x h) in
    let inner : KeptInRow a m.0 = all_at (KeptInRow a) k tag m.0 inside m.1 in
    record {
      keeps = keeps;
      gets = λ x e. absurd cc;
      no_more = λ x h. inl (⊎_elim (λ c. c) (λ c. inner x c) (Contains-append_cases (spelling a) (spelling m.0) x (subst (λ w. Contains w x) word h)));
      kept_in = subst (AllByRecursion (KeptInRow b)) (sym m.3) (all_weaker (KeptInRow a) (KeptInRow b) (λ t p x h. keeps x (p x h)) k inside);
    }
row_grows before mark a b k l inside m =
    let t : Trees = tree m.1 m.2 none in
    let keeps : (x : List ℕ) → Contains (spelling a) x → Contains (spelling b) x = λ x h. subst (λ r. Contains (spelling r) x) (sym m.4) h in
    let last : KeptInRow b t =
    λ x h. keeps x (subst (λ w. Contains w x) (sym (ap spelling m.3 ∙ spelling-beside m.0 t)) (Contains-append_right (spelling m.0) (spelling t) x h)) in
    record {
      keeps = keeps;
      gets = λ x e. absurd cc;
      no_more = λ x h. inl (subst (λ r. Contains (spelling r) x) m.4 h);
      kept_in = subst (AllByRecursion (KeptInRow b)) (sym m.5)
          (all_push (KeptInRow b) k t (all_weaker (KeptInRow a) (KeptInRow b) (λ u p x h. keeps x (p x h)) k inside) last);
    }

-- ---- the labels of what moves make

labels_kept : (before : List Sentence) (moves : List (Move (List ℕ))) (a b : Trees) (k l : List Trees) → AllByRecursion (KeptInRow a) k → Makes before moves a k b l
    → (x : List ℕ) → Contains (spelling a) x ⊎ IsStepOf moves x → Contains (spelling b) x
labels_kept before [] a b k l inside m x (inl h) = subst (λ r. Contains (spelling r) x) (sym m.0) h
labels_kept before [] a b k l inside m x (inr h) = absurd (none-some (name x) h.1)
labels_kept before (move ∷ moves) a b k l inside m x h =
    let g = row_grows before move a m.0 k m.1 inside m.2 in
    labels_kept before moves m.0 b m.1 l g.kept_in m.3 x (elim h [
      | inl c ↦ inl (g.keeps x c)
      | inr (zero, e) ↦ inl (g.gets x (same_Some move (name x) e))
      | inr (suc i, e) ↦ inr (i, e)
    ])

labels_from : (before : List Sentence) (moves : List (Move (List ℕ))) (a b : Trees) (k l : List Trees) → AllByRecursion (KeptInRow a) k → Makes before moves a k b l
    → (x : List ℕ) → Contains (spelling b) x → Contains (spelling a) x ⊎ IsStepOf moves x
labels_from before [] a b k l inside m x h = inl (subst (λ r. Contains (spelling r) x) m.0 h)
labels_from before (move ∷ moves) a b k l inside m x h =
    let g = row_grows before move a m.0 k m.1 inside m.2 in
    ⊎_elim
    (λ c. ⊎_elim (λ d. inl d) (λ e. inr (0, ap Some e)) (g.no_more x c))
    (λ s. inr (suc s.0, s.1))
    (labels_from before moves m.0 b m.1 l g.kept_in m.3 x h)

-- the labels in the trees are those of the moves
labels_of_moves : (before : List Sentence) (moves : List (Move (List ℕ))) (row : Trees) (kept : List Trees) → Makes before moves none [] row kept
    → (label : List ℕ) → Contains (spelling row) label ↔ IsStepOf moves label
labels_of_moves before moves row kept m label = (
  λ h. ⊎_elim (λ c. absurd (let less : suc c.0 ≤ 0 = c.1 in omega arith)) (λ s. s) (labels_from before moves none row [] kept tt m label h),
  λ s. labels_kept before moves none row [] kept tt m label (inr s),
)

-- ==== the numbers of the assertions that a tree uses are those of the moves that make it

-- ---- numbers and indices

-- in a prefix it has the same number
numbered_prefix : (statements : List Sentence) (id index end : ℕ) (s : Sentence) → index < end → IsNumbered statements id index s → IsNumbered (take end statements) id index s
numbered_prefix statements id index end s less n = record {
  there = get_take statements end index less ∙ n.there;
  named = n.named;
  number = ap (λ (l : List Sentence). length (labelled_sentences l)) (take-take index end statements (omega arith)) ∙ n.number;
}

numbered_whole : (statements : List Sentence) (id index end : ℕ) (s : Sentence) → IsNumbered (take end statements) id index s → (index < end) × IsNumbered statements id index s
numbered_whole statements id index end s n =
    let there = get_from_take statements end index s n.there in
    let less : index < end = there.0 in (
      less,
      record {
        there = there.1;
        named = n.named;
        number = ap (λ (l : List Sentence). length (labelled_sentences l)) (sym (take-take index end statements (omega arith))) ∙ n.number;
      },
    )

-- ---- the moves

-- a numbered step by a label has the label's number
pub named_by : (statements : List Sentence) (x : Move ℕ) (label : List ℕ) → IsNumberedMove statements x (name label)
    → (id : ℕ) × (t : Sentence) × (x ≡ name id) × (slice_get (labelled_sentences statements) id ≡ Some t) × IsLabelled label t
named_by statements (name id) label n =
    let same : n.1 ≡ label = (let f : name label ≡ name n.1 = n.4 in cc) in
    (id, n.0, refl, n.2, subst (λ l. IsLabelled l n.0) same n.3)
named_by statements move label n = absurd cc

-- The assertions of the tree that moves make after the statements before an index are the
-- assertions among the moves.
pub used_numbers : (statements : List Sentence) (index : ℕ) (xs : List (Move ℕ)) (moves : List (Move (List ℕ))) (row : Trees) (kept : List Trees) → AllMeant statements
    → AreNumberedMoves statements xs moves → AllByRecursion (IsUsableMove (take index statements)) moves → Makes (take index statements) moves none [] row kept
    → (id : ℕ) → IsUsedNumber (take index statements) row id ↔ (((i : ℕ) × (slice_get xs i ≡ Some (name id))) × IsAssertionNumber statements id)
used_numbers statements index xs moves row kept all numbered usable made id = (used, uses)
  where
    used : IsUsedNumber (take index statements) row id → ((i : ℕ) × (slice_get xs i ≡ Some (name id))) × IsAssertionNumber statements id
    used u =
        let n = (numbered_whole statements id u.0 index u.1 u.3).1 in
        let step = (labels_of_moves (take index statements) moves row kept made u.2).0 u.6 in
        let z = zip_right (IsNumberedMove statements) xs moves step.0 (name u.2) numbered step.1 in
        let by = named_by statements z.0 u.2 z.2 in
        let p = numbered_from_get statements by.0 by.1 by.3 in
        let one : u.0 ≡ p.0 = one_label statements u.0 p.0 u.1 by.1 u.2 all n.there p.1.there u.5 by.4 in
        let same : by.0 ≡ id = sym p.1.number ∙ ap (λ k. length (labelled_sentences (take k statements))) (sym one) ∙ n.number in
        ((step.0, z.1 ∙ ap Some (by.2 ∙ ap name same)), (u.0, u.1, n, u.4))

    of_usable : (p : ℕ) (a : Sentence) (label : List ℕ) → IsNumbered statements id p a → IsAssertion a.kind → IsLabelled label a → IsUsable (take index statements) label → p < index
    of_usable p a label n kind named (inl h) =
        absurd (hypothesis_or_assertion statements h.0 p h.1 a label all (get_from_take statements index h.0 h.1 h.2).1 n.there h.4.0 named h.4.1 kind)
    of_usable p a label n kind named (inr b) =
        let t = get_from_take statements index b.0 b.1 b.2 in
        let one : b.0 ≡ p = one_label statements b.0 p b.1 a label all t.1 n.there b.3.0 named in
        subst (λ k. k < index) one t.0

    uses : ((i : ℕ) × (slice_get xs i ≡ Some (name id))) × IsAssertionNumber statements id → IsUsedNumber (take index statements) row id
    uses h =
        let z = zip_left (IsNumberedMove statements) xs moves h.0.0 (name id) numbered h.0.1 in
        let (p, a, n, kind) = h.1 in
        let same : z.2.0 ≡ a = same_Some z.2.0 a (sym z.2.2 ∙ numbered_get statements id p a n) in
        let named : IsLabelled z.2.1 a = subst (λ s. IsLabelled z.2.1 s) same z.2.3 in
        let may = rw z.2.4 at (all_at _ moves h.0.0 z.0 usable z.1) in
        let less : p < index = of_usable p a z.2.1 n kind named may in
        let stands = (labels_of_moves (take index statements) moves row kept made z.2.1).1 (h.0.0, z.1 ∙ ap Some z.2.4) in
        (p, a, z.2.1, numbered_prefix statements id p index a less n, kind, named, stands)

-- ==== the labels that moves name, by their numbers

-- ---- one more at the end of a list

get_push : {X : Type 0} (xs : List X) (x y : X) (i : ℕ) → slice_get (xs ++ x ∷ []) i ≡ Some y → (slice_get xs i ≡ Some y) ⊎ (x ≡ y)
get_push xs x y i e = ⊎_elim inl (λ last. inr last.1) (pushed_cases xs x i y e)

pub marked_other : (entries : List ℕ) (prefix : List (Move ℕ)) (m : Move ℕ) (marks : List Bool) → ((id : ℕ) → m ≡ name id → ⊥) → AreMarked entries prefix marks
    → AreMarked entries (prefix ++ m ∷ []) marks
marked_other entries prefix m marks not old = record {
  named = λ index t. let o = old.named index t in (o.0, o.1, o.2, get_kept prefix (m ∷ []) o.0 (name o.1) o.3);
  marked = λ i id e. ⊎_elim (λ there. old.marked i id there) (λ same. absurd (not id same)) (get_push prefix m (name id) i e);
}

pub marked_more : (entries : List ℕ) (prefix : List (Move ℕ)) (index id : ℕ) (marks : List Bool) → slice_get entries index ≡ Some id → index < length marks
    → AreMarked entries prefix marks → AreMarked entries (prefix ++ name id ∷ []) (set marks index true)
marked_more entries prefix index id marks there within old = record {
  named = λ p t. back p t (eqb p index) refl;
  marked = λ i n e. ⊎_elim (λ before. let o = old.marked i n before in (o.0, o.1, stays o.0 o.2 (eqb o.0 index) refl))
      (λ same. (index, cc (there, same), here)) (get_push prefix (name id) (name n) i e);
}
  where
    here : IsTrue (get_or (set marks index true) index false)
    here = get_or-set_same marks index true false within

    other : (p : ℕ) → eqb p index ≡ false → get_or (set marks index true) p false ≡ get_or marks p false
    other p e = get_or-set_other marks index p true false (λ same. absurd (false≢true (sym e ∙ (Decides-eqb p index).1 same)))

    stays : (p : ℕ) → IsTrue (get_or marks p false) → (b : Bool) → eqb p index ≡ b → IsTrue (get_or (set marks index true) p false)
    stays p t true e = subst (λ k. IsTrue (get_or (set marks index true) k false)) (sym ((Decides-eqb p index).0 e)) here
    stays p t false e = other p e ∙ t

    back : (p : ℕ) → IsTrue (get_or (set marks index true) p false) → (b : Bool) → eqb p index ≡ b
        → (i : ℕ) × (n : ℕ) × (slice_get entries p ≡ Some n) × (slice_get (prefix ++ name id ∷ []) i ≡ Some (name n))
    back p t true e = (length prefix, id, ap (slice_get entries) ((Decides-eqb p index).0 e) ∙ there, get_pushed prefix (name id))
    back p t false e = let o = old.named p (sym (other p e) ∙ t) in (o.0, o.1, o.2, get_kept prefix (name id ∷ []) o.0 (name o.1) o.3)

-- what stands at the index of a number
pub entry_is : (entries : List LabelId) (index n : ℕ) (d : LabelId) → slice_get (ids_in entries) index ≡ Some n → (index < length entries) × ((get_or entries index d).0 ≡ n)
entry_is entries index n d there =
    let less = entry_within entries index n there in (less, same_Some _ n (sym (entry_at entries index d less) ∙ there))
