-- A number stands for one row of trees, and a row of trees has one number, as moves make them.
use Rattle.std.proofs.Common.{◌≡◌, ℕ, zero, suc, List, [], ◌∷◌, ◌++◌, Bool, true, false}
use Rattle.std.proofs.Common.{if◌then◌else◌, slice_get, Some, refl, sym, ap, subst, ◌∙◌, ◌&&◌, eqb}
use Rattle.std.proofs.Common.{eq-eqb, get_or, inl, inr, length, take, arith, ◌<◌}
use Rattle.std.proofs.Common.{drop, ◌↔◌}
use Rattle.std.specs.List.{IsDistinct, list_any}
use Rattle.std.proofs.lemmas.Map.Keys.{IsDistinct-head, IsDistinct-tail}
use Rattle.std.proofs.lemmas.Bool.{false≢true, eqb-true, and_parts, and_from}
use Rattle.std.proofs.lemmas.Option.{same_Some, none-some}
use Rattle.mm_base.proofs.Lists.{all_at, get_kept, zip_push, zip_right, zip_weaker}
use Rattle.mm_forms.specs.declared.subtrees.Row.{Row}
use Rattle.mm_forms.specs.Mirror.Subtrees.{AreOnce, KeepNumbers, StandsFor, IsTreeOf, AreTreesOf}
use Rattle.mm_forms.specs.Mirror.Subtrees.{IsNumberOfRow, IsSubtreeOf, AreSubtreesOf}
use Rattle.mm_forms.specs.declared.subtrees.Subtree.{Subtree}
use Rattle.mm_forms.specs.Mirror.CodeSharing.{Adds}
use Rattle.mm_frame.specs.Sentence.{Sentence}
use Rattle.mm_frame.specs.Rules.{AllMeant}
use Rattle.mm_frame.specs.Numbers.{labelled_sentences}
use Rattle.mm_frame.proofs.Names.LabelNumbers.{numbered_from_get}
use Rattle.mm_step.specs.Tree.{Trees, none, tree, beside, roots}
use Rattle.mm_forms.specs.Spelled.{IsNumberOfLabel}
use Rattle.mm_step.proofs.ProofSteps.OneStep.{one_label}
use Rattle.std.proofs.lemmas.List.{length-append}
use Rattle.std.proofs.Math.Seq.{drop-cons}
use Rattle.mm_forms.specs.Mirror.Builders.{IsKept}
use Rattle.mm_step.proofs.ProofSteps.Derivations.{roots-beside}
use Rattle.mm_step.specs.Moves.{Move}
use Rattle.mm_forms.specs.OneTree.{MakeTree, MakeOneTree, MakeSameTree}
use Rattle.mm_proof.proofs.ProofNumbers.Insertions.{Tells, any_contains}

-- ==== rows of a table: each once, and where they were

-- a row differs from those after it
apart : (eq : Row → Row → Bool) → ((r : Row) → eq r r ≡ true) → (r : Row) (rows : List Row) (j : ℕ) (row : Row) → IsDistinct eq (r ∷ rows) → r ≡ row → slice_get rows j ≡ Some row → ⊥
apart eq same r rows j row d is there =
    let differ : eq r row ≡ false = all_at (λ y. eq r y ≡ false) rows j row (IsDistinct-head eq r rows d) there in
    false≢true (sym differ ∙ ap (λ z. eq z row) is ∙ same row)

-- no two rows are equal
pub once_of_distinct : (eq : Row → Row → Bool) → ((r : Row) → eq r r ≡ true) → (rows : List Row) → IsDistinct eq rows → AreOnce rows
once_of_distinct eq same [] d i j row a b = absurd (none-some row a)
once_of_distinct eq same (r ∷ rows) d zero zero row a b = refl
once_of_distinct eq same (r ∷ rows) d zero (suc j) row a b = absurd (apart eq same r rows j row d (same_Some r row a) b)
once_of_distinct eq same (r ∷ rows) d (suc i) zero row a b = absurd (apart eq same r rows i row d (same_Some r row b) a)
once_of_distinct eq same (r ∷ rows) d (suc i) (suc j) row a b = ap suc (once_of_distinct eq same rows (IsDistinct-tail eq r rows d) i j row a b)

-- a row more, or none, leaves the others where they were
pub kept_inserted : (held : Bool) (row : Row) (rows new : List Row) → new ≡ (if held then rows else rows ++ row ∷ []) → KeepNumbers rows new
kept_inserted true row rows new is index r there = subst (λ (l : List Row). slice_get l index ≡ Some r) (sym is) there
kept_inserted false row rows new is index r there = subst (λ (l : List Row). slice_get l index ≡ Some r) (sym is) (get_kept rows (row ∷ []) index r there)

-- an insertion adds
pub inserted_adds : {X : Type 0} (eq : X → X → Bool) → Tells eq → (old new : List X) (t : X) → new ≡ (if list_any (eq t) old then old else old ++ t ∷ []) → Adds old t new
inserted_adds eq tells old new t e = go (list_any (eq t) old) refl e
  where
    go : (b : Bool) → list_any (eq t) old ≡ b → new ≡ (if b then old else old ++ t ∷ []) → Adds old t new
    go true is e = inl ((any_contains eq tells old t).0 is, e)
    go false is e = inr (λ c. false≢true (sym is ∙ (any_contains eq tells old t).1 c), e)

-- the derived test of equality
pub fields_told : Tells (λ (a b : Subtree). eqb a.label b.label && eqb a.below b.below)
fields_told = record {
  told = λ a b e.
      let h = and_parts (eqb a.label b.label) (eqb a.below b.below) e in
      let label : a.label ≡ b.label = eqb-true a.label b.label h.0 in
      let below : a.below ≡ b.below = eqb-true a.below b.below h.1 in
      let subtree : ℕ → ℕ → Subtree = λ l k. record { label = l; below = k } in
      ap (λ l. subtree l a.below) label ∙ ap (λ k. subtree b.label k) below;
  same = λ a. and_from _ _ (eq-eqb a.label a.label refl) (eq-eqb a.below a.below refl);
}

pub ruleset subtree_insertions = (inserted_adds, fields_told)

-- ==== a number stands for one row of trees, and a row of trees has one number

-- ---- labels

pub one_label_of : (st : List Sentence) (id : ℕ) (l m : List ℕ) → IsNumberOfLabel st id l → IsNumberOfLabel st id m → l ≡ m
one_label_of st id l m a b =
    let same : a.s ≡ b.s = same_Some a.s b.s (sym a.there ∙ b.there) in
    same_Some l m (sym a.named ∙ ap (λ (s : Sentence). s.label) same ∙ b.named)

pub one_number_of : (st : List Sentence) (i j : ℕ) (label : List ℕ) → AllMeant st → IsNumberOfLabel st i label → IsNumberOfLabel st j label → i ≡ j
one_number_of st i j label all a b =
    let p = numbered_from_get st i a.s a.there in
    let q = numbered_from_get st j b.s b.there in
    let same : p.0 ≡ q.0 = one_label st p.0 q.0 a.s b.s label all p.1.there q.1.there a.named b.named in
    sym p.1.number ∙ ap (λ (k : ℕ). length (labelled_sentences (take k st))) same ∙ q.1.number

-- ---- rows

-- a number stands for one row of trees
stands_once : (st : List Sentence) (rows : List Row) (t u : Trees) (n : ℕ) → StandsFor st rows n t → StandsFor st rows n u → t ≡ u
stands_once st rows none none n a b = refl
stands_once st rows none (tree m y s) n a b = absurd (let next = b.1.next in omega arith)
stands_once st rows (tree l x r) none n a b = absurd (let next = a.1.next in omega arith)
stands_once st rows (tree l x r) (tree m y s) n a b =
    let index : a.1.index ≡ b.1.index = omega (arith, a.1.next, b.1.next) in
    let same : a.0 ≡ b.0 = cc (a.1.there, b.1.there) in
    let label : l ≡ m = one_label_of st b.0.first.label l m (subst (λ (k : Row). IsNumberOfLabel st k.first.label l) same a.2) b.2 in
    let below : x ≡ y = stands_once st rows x y b.0.first.below (subst (λ (k : Row). StandsFor st rows k.first.below x) same a.3) b.3 in
    let right : r ≡ s = stands_once st rows r s b.0.right (subst (λ (k : Row). StandsFor st rows k.right r) same a.4) b.4 in
    cc

-- a row of trees has one number
number_once : (st : List Sentence) (rows : List Row) (t : Trees) (n m : ℕ) → AllMeant st → AreOnce rows → StandsFor st rows n t → StandsFor st rows m t → n ≡ m
number_once st rows none n m all once a b = a ∙ sym b
number_once st rows (tree l x r) n m all once a b =
    let label : a.0.first.label ≡ b.0.first.label = one_number_of st a.0.first.label b.0.first.label l all a.2 b.2 in
    let below : a.0.first.below ≡ b.0.first.below = number_once st rows x a.0.first.below b.0.first.below all once a.3 b.3 in
    let right : a.0.right ≡ b.0.right = number_once st rows r a.0.right b.0.right all once a.4 b.4 in
    let row : a.0 ≡ b.0 =
    λ i. record { first = record { label = label i; below = below i }; right = right i } in
    let index : a.1.index ≡ b.1.index =
    once a.1.index b.1.index b.0 (subst (λ (k : Row). slice_get rows a.1.index ≡ Some k) row a.1.there) b.1.there in
    omega (arith, a.1.next, b.1.next, index)

-- ---- subtrees

-- a subtree is one tree
pub tree_once : (st : List Sentence) (rows : List Row) (t : Subtree) (l m : List ℕ) (x y : Trees) → IsTreeOf st rows t l x → IsTreeOf st rows t m y → (l ≡ m) × (x ≡ y)
tree_once st rows t l m x y a b = (one_label_of st t.label l m a.named b.named, stands_once st rows x y t.below a.stands b.stands)

-- a tree is one subtree
pub subtree_once : (st : List Sentence) (rows : List Row) (t u : Subtree) (l : List ℕ) (x : Trees) → AllMeant st → AreOnce rows → IsTreeOf st rows t l x → IsTreeOf st rows u l x → t ≡ u
subtree_once st rows t u l x all once a b =
    let subtree : ℕ → ℕ → Subtree = λ label below. record { label = label; below = below } in
    ap (λ z. subtree z t.below) (one_number_of st t.label u.label l all a.named b.named)
    ∙ ap (λ z. subtree u.label z) (number_once st rows x t.below u.below all once a.stands b.stands)

-- ---- what stands for trees later on

pub stands_later : (st : List Sentence) (old new : List Row) (n : ℕ) (t : Trees) → KeepNumbers old new → StandsFor st old n t → StandsFor st new n t
stands_later st old new n none keep a = a
stands_later st old new n (tree l x r) keep a = (
  a.0,
  record { index = a.1.index; next = a.1.next; there = keep a.1.index a.0 a.1.there },
  a.2,
  stands_later st old new a.0.first.below x keep a.3,
  stands_later st old new a.0.right r keep a.4,
)

pub tree_later : (st : List Sentence) (old new : List Row) (t : Subtree) (l : List ℕ) (x : Trees) → KeepNumbers old new → IsTreeOf st old t l x → IsTreeOf st new t l x
tree_later st old new t l x keep a = record { named = a.named; stands = stands_later st old new t.below x keep a.stands }

pub trees_later : (st : List Sentence) (old new : List Row) (ts : List Subtree) (row : Trees) → KeepNumbers old new → AreTreesOf st old ts row → AreTreesOf st new ts row
trees_later st old new [] none keep a = tt
trees_later st old new (t ∷ ts) (tree l x r) keep a = (tree_later st old new t l x keep a.0, trees_later st old new ts r keep a.1)
trees_later st old new ts row keep a = absurd a

-- ---- trees side by side

pub trees_join : (st : List Sentence) (rows : List Row) (ts us : List Subtree) (a b : Trees) → AreTreesOf st rows ts a → AreTreesOf st rows us b → AreTreesOf st rows (ts ++ us) (beside a b)
trees_join st rows [] us none b p q = q
trees_join st rows (t ∷ ts) us (tree l x r) b p q = (p.0, trees_join st rows ts us r b p.1 q)
trees_join st rows ts us a b p q = absurd p

pub trees_count : (st : List Sentence) (rows : List Row) (ts : List Subtree) (row : Trees) → AreTreesOf st rows ts row → length ts ≡ roots row
trees_count st rows [] none a = refl
trees_count st rows (t ∷ ts) (tree l x r) a = ap suc (trees_count st rows ts r a.1)
trees_count st rows ts row a = absurd a

-- ==== the trees of the moves so far, by the numbers of their subtrees, one move more

-- ---- the number of a row

-- the trees from an index on have their number, and so do those from the index before it on
pub stands_more : (st : List Sentence) (old now new : List Row) (trees : List Subtree) (at index : ℕ) (d : Subtree) (right number : ℕ) (row : Trees) → suc at ≡ index → at < length trees → KeepNumbers old new → KeepNumbers now new
    → IsNumberOfRow new number (record { first = get_or trees at d; right = right }) → ((others : Trees) → AreTreesOf st old (drop index trees) others → StandsFor st now right others)
    → AreTreesOf st old (drop at trees) row → StandsFor st new number row
stands_more st old now new trees at index d right number row next less keep later is stands a =
    go row (subst (λ ts. AreTreesOf st old ts row) (drop-cons trees at d less ∙ ap (λ (k : ℕ). get_or trees at d ∷ drop k trees) next) a)
  where
    go : (row : Trees) → AreTreesOf st old (get_or trees at d ∷ drop index trees) row → StandsFor st new number row
    go none a = absurd a
    go (tree label below others) a =
        (record { first = get_or trees at d; right = right }, is, a.0.named, stands_later st old new (get_or trees at d).below below keep a.0.stands, stands_later st now new right others later (stands others a.1))

-- ---- one move more

-- nothing stands for no trees
pub no_subtrees : (rows : List Row) (st : List Sentence) → AreOnce rows → AreSubtreesOf rows rows st [] none [] []
no_subtrees rows st once = record { keep = λ index row there. there; once = once; stands = tt; shelved = tt }

pub no_rows : (rows : List Row) (st : List Sentence) → rows ≡ [] → AreSubtreesOf rows rows st [] none [] []
no_rows rows st empty = no_subtrees rows st (subst AreOnce (sym empty) (λ i j row there. absurd (none-some row there)))

trees_split : (st : List Sentence) (rows : List Row) (ts us : List Subtree) (a b : Trees) → roots b ≡ length us → AreTreesOf st rows (ts ++ us) (beside a b) → AreTreesOf st rows ts a × AreTreesOf st rows us b
trees_split st rows [] us none b many p = (tt, p)
trees_split st rows [] us (tree l x r) b many p = absurd (let n = trees_count st rows us (tree l x (beside r b)) p in let m = roots-beside r b in omega arith)
trees_split st rows (t ∷ ts) us none b many p = absurd (let n = trees_count st rows (t ∷ (ts ++ us)) b p in let m = length-append ts us in omega arith)
trees_split st rows (t ∷ ts) us (tree l x r) b many p = let h = trees_split st rows ts us r b many p.1 in ((p.0, h.0), h.1)

-- a step by a label
pub subtrees_make : (st : List Sentence) (first old new : List Row) (stack items shelf : List Subtree) (t : Subtree) (rest below : Trees) (kept : List Trees) (label : List ℕ)
    → ((row : Trees) → AreTreesOf st old items row → StandsFor st new t.below row) → KeepNumbers old new → (AreOnce old → AreOnce new) → IsNumberOfLabel st t.label label → roots below ≡ length items
    → AreSubtreesOf first old st (stack ++ items) (beside rest below) shelf kept → AreSubtreesOf first new st (stack ++ t ∷ []) (beside rest (tree label below none)) shelf kept
subtrees_make st first old new stack items shelf t rest below kept label number keep once named many h =
    let parts = trees_split st old stack items rest below many h.stands in
    record {
      keep = λ index row there. keep index row (h.keep index row there);
      once = once h.once;
      stands = trees_join st new stack (t ∷ []) rest (tree label below none) (trees_later st old new stack rest keep parts.0) (record { named = named; stands = number below parts.1 }, tt);
      shelved = zip_weaker _ _ (λ t u is. trees_later st old new (t ∷ []) u keep is) shelf kept
          h.shelved;
    }

module _ (st : List Sentence) (first rows : List Row) (stack shelf : List Subtree) where
  -- the last tree is the one that was made
  pub last_made : (t : Subtree) (rest below : Trees) (kept : List Trees) (label : List ℕ)
      → AreSubtreesOf first rows st (stack ++ t ∷ []) (beside rest (tree label below none)) shelf kept
      → IsTreeOf st rows t label below
  last_made t rest below kept label h = (trees_split st rows stack (t ∷ []) rest (tree label below none) refl h.stands).1.0

  module _ (t : Subtree) (row : Trees) (kept : List Trees) (label : List ℕ) (below : Trees)
      (is : IsKept shelf kept t label below) where
    -- a step by a tag
    pub kept_is : AreSubtreesOf first rows st stack row shelf kept → IsTreeOf st rows t label below
    kept_is h =
        let found = zip_right (IsSubtreeOf st rows) shelf kept is.tag (tree label below none) h.shelved is.tree_there in
        (subst (λ (x : Subtree). IsSubtreeOf st rows x (tree label below none)) (same_Some found.0 t (sym found.1 ∙ is.item_there)) found.2).0

    pub subtrees_repeat : AreSubtreesOf first rows st stack row shelf kept
        → AreSubtreesOf first rows st (stack ++ t ∷ []) (beside row (tree label below none)) shelf kept
    subtrees_repeat h =
        assumption (trees_join st rows stack (t ∷ []) row (tree label below none) h.stands (kept_is h, tt))

  -- a mark
  pub subtrees_keep : (t : Subtree) (rest below : Trees) (kept : List Trees) (label : List ℕ)
      → AreSubtreesOf first rows st (stack ++ t ∷ []) (beside rest (tree label below none)) shelf kept
      → AreSubtreesOf first rows st (stack ++ t ∷ []) (beside rest (tree label below none)) (shelf ++ t ∷ []) (kept ++ tree label below none ∷ [])
  subtrees_keep t rest below kept label h =
      assumption (zip_push (IsSubtreeOf st rows) shelf kept t (tree label below none) h.shelved (last_made t rest below kept label h, tt))

-- ==== two subtrees of one table are equal exactly if the moves that made them make the same tree

-- the subtree is the tree that the moves make
abbrev pub IsTreeOfMoves : List Sentence → ℕ → List Row → Subtree → List (Move (List ℕ)) → Type 0
IsTreeOfMoves st index rows t moves = (label : List ℕ) (below : Trees) → MakeTree (take index st) moves label below → IsTreeOf st rows t label below

pub same_trees_made : (st : List Sentence) (index : ℕ) (rows : List Row) (t u : Subtree) (moves others : List (Move (List ℕ))) → AllMeant st → AreOnce rows
    → IsTreeOfMoves st index rows t moves → IsTreeOfMoves st index rows u others → MakeOneTree (take index st) moves → MakeOneTree (take index st) others
    → (t ≡ u) ↔ MakeSameTree (take index st) moves others
same_trees_made st index rows t u moves others all once is is' m n = (
  λ same.
      let one = tree_once st rows u m.0 n.0 m.1 n.1 (subst (λ x. IsTreeOf st rows x m.0 m.1) same (is m.0 m.1 m.2)) (is' n.0 n.1 n.2) in
      (m.0, m.1, m.2, subst (λ l. MakeTree (take index st) others l m.1) (sym one.0) (subst (MakeTree (take index st) others n.0) (sym one.1) n.2)),
  λ both. subtree_once st rows t u both.0 both.1 all once (is both.0 both.1 both.2) (is' both.0 both.1 both.3),
)
