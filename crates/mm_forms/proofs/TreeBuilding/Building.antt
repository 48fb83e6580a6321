-- What is built of the moves so far.
use Rattle.std.proofs.Common.{◌≡◌, ℕ, ◌+◌, ◌-◌, ◌<◌, ◌≤◌, List, [], ◌∷◌, ◌++◌, length, take, drop}
use Rattle.std.proofs.Common.{slice_get, get_or, Some, refl, sym, ap, subst, ◌∙◌, arith}
use Rattle.std.specs.List.{AllByRecursion}
use Rattle.std.proofs.lemmas.Option.{same_Some, slice_get_within, slice_get_read}
use Rattle.std.proofs.lemmas.Option.{get_or_from_slice_get}
use Rattle.std.proofs.lemmas.Slice.Zip.{AllZip-long}
use Rattle.std.proofs.lemmas.List.{length-append, length-drop, take-append-drop, drop_all}
use Rattle.std.proofs.lemmas.List.{drop_more, take_all}
use Rattle.mm_base.proofs.Lists.{zip_push, zip_left, zip_right, zip_take, all_at, all_there}
use Rattle.mm_base.proofs.Lists.{get_from_take}
use Rattle.mm_frame.specs.Sentence.{Sentence}
use Rattle.mm_frame.specs.Rules.{AllMeant}
use Rattle.mm_step.specs.Tree.{Trees, none, tree, spelling, beside, roots, MayStandOver}
use Rattle.mm_step.specs.Moves.{Move, name, again, mark, MakesOne, Makes}
use Rattle.mm_forms.specs.OneTree.{MakeRow, MakeTree}
use Rattle.mm_step.specs.Steps.{IsNumberedMove, AreNumberedMoves, AreSteps, IsProofNumber}
use Rattle.mm_forms.specs.Spelled.{IsNumberOfLabel}
use Rattle.mm_step.specs.Mirror.CodeSteps.{MayBeUsed}
use Rattle.mm_step.specs.Mirror.CodeRun.{MayBeMade}
use Rattle.mm_forms.specs.declared.builder.Forest.{Forest}
use Rattle.mm_proof.specs.Mirror.Machines.{IsNext}
use Rattle.mm_forms.specs.Mirror.Builders.{Holding, MakesItem, IsKept, RepeatsItem, KeepsItem}
use Rattle.mm_forms.specs.Mirror.Builders.{IsFull, IsTooLong, MakeRowAt, AreBuilt, IsBuilt}
use Rattle.mm_forms.specs.Mirror.Builders.{AreItemsAt}
use Rattle.mm_proof.specs.Mirror.Builders.{AreFirst}
use Rattle.mm_forms.specs.Mirror.Builders.{HasBuilt, MayGrow}
use Rattle.mm_step.proofs.ProofSteps.Derivations.{roots-beside, spelling-beside}
use Rattle.mm_proof.proofs.ProofVerdicts.JudgedMoves.{last_split, steps_made, only_entry, seen_moves}
use Rattle.mm_forms.proofs.PackedProofs.LabelWidths.{same_use}

-- ---- the word only grows

spelled_over : (rest below : Trees) (label : List ℕ) → length (spelling (beside rest (tree label below none))) ≡ length (spelling (beside rest below)) + 1
spelled_over rest below label = simp (spelling-beside, length-append) (omega arith)

spelled_again : (row t : Trees) → length (spelling (beside row t)) ≡ length (spelling row) + length (spelling t)
spelled_again row t = ap length (spelling-beside row t) ∙ length-append (spelling row) (spelling t)

grows_one : (before : List Sentence) (move : Move (List ℕ)) (row row' : Trees) (kept kept' : List Trees) → MakesOne before move row kept row' kept' → length (spelling row) ≤ length (spelling row')
grows_one before (name label) row row' kept kept' m = omega (arith, ap (λ (x : Trees). length (spelling x)) m.2, ap (λ (x : Trees). length (spelling x)) m.4, spelled_over m.0 m.1 label)
grows_one before (again tag) row row' kept kept' m = omega (arith, ap (λ (x : Trees). length (spelling x)) m.2, spelled_again row m.0)
grows_one before mark row row' kept kept' m = omega (arith, ap (λ (x : Trees). length (spelling x)) m.4)

word_grows : (before : List Sentence) (moves : List (Move (List ℕ))) (row last : Trees) (kept end : List Trees) → Makes before moves row kept last end → length (spelling row) ≤ length (spelling last)
word_grows before [] row last kept end m = omega (arith, ap (λ (x : Trees). length (spelling x)) m.0)
word_grows before (move ∷ moves) row last kept end m = omega (arith, grows_one before move row m.0 kept m.1 m.2, word_grows before moves m.0 last m.1 end m.3)

-- ---- the moves so far

-- moves with one more in front of others
pub first_more : (prefix moves : List (Move ℕ)) (x : Move ℕ) → AreFirst (prefix ++ x ∷ []) moves → AreFirst prefix moves × (slice_get moves (length prefix) ≡ Some x)
first_more [] [] x first = absurd cc
first_more [] (m ∷ moves) x first = (refl, cc)
first_more (f ∷ prefix) [] x first = absurd cc
first_more (f ∷ prefix) (m ∷ moves) x first =
    let rest : AreFirst (prefix ++ x ∷ []) moves = cc in
    let h = first_more prefix moves x rest in
    (cc, h.1)

-- all moves
pub first_all : (moves : List (Move ℕ)) → AreFirst moves moves
first_all moves = take_all (length moves) moves (omega arith)

-- the steps make the row of trees, by the moves that are seen of them
abbrev pub make_row_at : (st : List Sentence) (id : ℕ) (xs ys : List (Move ℕ)) (index : ℕ)
    (s : Sentence) (names : List (Move (List ℕ))) (row : Trees) → AllMeant st → AreSteps st id xs
    → xs ≡ ys → IsProofNumber st id index s → AreNumberedMoves st xs names
    → MakeRow (take index st) names row → MakeRowAt st ys
make_row_at st id xs ys index s names row all steps same proof numbered makes = record {
  index = index;
  names = names;
  usable = subst (AllByRecursion (MayBeMade st index)) same
      (steps_made st id xs index s all steps proof.numbered);
  numbered = subst (λ (l : List (Move ℕ)). AreNumberedMoves st l names) same numbered;
  row = row;
  makes = makes;
}

-- a tree alone is a row
abbrev pub tree_row : (before : List Sentence) (names : List (Move (List ℕ))) (label : List ℕ)
    (below : Trees) → MakeTree before names label below
    → MakeRow before names (tree label below none)
tree_row before names label below makes = record { kept = makes.kept; made = makes.made }

-- of so many first elements it is said where it is said of all
pub all_front : {A : Type 0} (P : A → Type 0) (xs : List A) (n : ℕ) → AllByRecursion P xs
    → AllByRecursion P (take n xs)
all_front P xs n all =
    all_there P (take n xs) (λ k x there. all_at P xs k x all (get_from_take xs n k x there).1)

-- so many first steps make the row
abbrev pub make_front_at : (st : List Sentence) (id : ℕ) (xs ys : List (Move ℕ)) (count index : ℕ)
    (s : Sentence) (names : List (Move (List ℕ))) (row : Trees) → AllMeant st → AreSteps st id xs
    → take count xs ≡ ys → IsProofNumber st id index s → AreNumberedMoves st xs names
    → MakeRow (take index st) (take count names) row → MakeRowAt st ys
make_front_at st id xs ys count index s names row all steps same proof numbered makes = record {
  index = index;
  names = take count names;
  usable = subst (AllByRecursion (MayBeMade st index)) same
      (all_front (MayBeMade st index) xs count
      (steps_made st id xs index s all steps proof.numbered));
  numbered = subst (λ (l : List (Move ℕ)). AreNumberedMoves st l (take count names)) same
      (zip_take (IsNumberedMove st) xs names count numbered);
  row = row;
  makes = makes;
}

pub ruleset tree_steps = (seen_moves, make_row_at)

-- ---- the next move

record Next {X : Type 0} (held : Holding X) (st : List Sentence) (moves : List (Move ℕ)) (m : MakeRowAt st moves) (i : ℕ) (stack shelf : List X) (x : Move ℕ) (h : AreItemsAt held st moves m i stack shelf) : Type 0 where
  move : Move (List ℕ)
  numbered : IsNumberedMove st x move
  usable : MayBeMade st m.index x
  row' : Trees
  kept' : List Trees
  one : MakesOne (take m.index st) move h.row h.kept row' kept'
  others : Makes (take m.index st) (drop (i + 1) m.names) row' kept' m.row m.makes.kept

next : {X : Type 0} (held : Holding X) (st : List Sentence) (moves : List (Move ℕ)) (m : MakeRowAt st moves) (i : ℕ) (stack shelf : List X) (x : Move ℕ) (h : AreItemsAt held st moves m i stack shelf)
    → slice_get moves i ≡ Some x → Next held st moves m i stack shelf x h
next {X} held st moves m i stack shelf x h here =
    let at = zip_left (IsNumberedMove st) moves m.names i x m.numbered here in
    let split = drop_more m.names i at.0 (slice_get_within m.names i at.0 at.1) in
    let left = rw (split, get_or_from_slice_get m.names i at.0 at.0 at.1) at h.made in
    record { move = at.0; numbered = at.2; usable = all_at (MayBeMade st m.index) moves i x m.usable here; row' = left.0; kept' = left.1; one = left.2; others = left.3 }

-- a step by a label, by the trees that it takes
pub record NextMake {X : Type 0} (held : Holding X) (st : List Sentence) (moves : List (Move ℕ)) (m : MakeRowAt st moves) (i : ℕ) (stack shelf : List X) (id : ℕ) (h : AreItemsAt held st moves m i stack shelf) : Type 0 where
  pub label : List ℕ
  pub rest : Trees
  pub below : Trees
  pub named : IsNumberOfLabel st id label
  pub used : MayBeUsed st m.index label id
  pub stands : MayStandOver (take m.index st) label below
  pub was : h.row ≡ beside rest below
  pub others : Makes (take m.index st) (drop (i + 1) m.names) (beside rest (tree label below none)) h.kept m.row m.makes.kept

pub next_make : {X : Type 0} (held : Holding X) (st : List Sentence) (moves : List (Move ℕ)) (m : MakeRowAt st moves) (i : ℕ) (stack shelf : List X) (id : ℕ) (h : AreItemsAt held st moves m i stack shelf)
    → slice_get moves i ≡ Some (name id) → NextMake held st moves m i stack shelf id h
next_make {X} held st moves m i stack shelf id h here =
    let n = next held st moves m i stack shelf (name id) h here in
    let by = n.numbered in
    let one = subst (λ y. MakesOne (take m.index st) y h.row h.kept n.row' n.kept') by.4 n.one in
    let named : IsNumberOfLabel st id by.1 = record { s = by.0; there = by.2; named = by.3 } in
    record {
      label = by.1;
      rest = one.0;
      below = one.1;
      named = named;
      used = same_use st m.index id n.usable.0 by.1 by.0 n.usable.1 named;
      stands = one.3;
      was = one.2;
      others = rw (one.5, one.4) at n.others;
    }

-- so many trees are there
pub make_within : {X : Type 0} (held : Holding X) (st : List Sentence) (moves : List (Move ℕ)) (m : MakeRowAt st moves) (i : ℕ) (stack shelf : List X) (id width : ℕ) (h : AreItemsAt held st moves m i stack shelf)
    → (n : NextMake held st moves m i stack shelf id h) → roots n.below ≡ width → width ≤ length stack
make_within held st moves m i stack shelf id width h n wide = omega (arith, h.deep, ap roots n.was, roots-beside n.rest n.below, wide)

pub at_make : {X : Type 0} (old new : Holding X) (st : List Sentence) (moves : List (Move ℕ)) (m : MakeRowAt st moves) (i : ℕ) (stack shelf : List X) (item : X) (id width base : ℕ) (h : AreItemsAt old st moves m i stack shelf)
    → (n : NextMake old st moves m i stack shelf id h) → roots n.below ≡ width → base ≡ length stack - width
    → MakesItem old new (IsNumberOfLabel st id) (take (length stack - base) (drop base stack)) item
    → AreItemsAt new st moves m (i + 1) (take base stack ++ item ∷ []) shelf
at_make {X} old new st moves m i stack shelf item id width base h n wide at makes =
    let within = make_within old st moves m i stack shelf id width h n wide in
    let behind = drop base stack in
    let long = length-drop base stack in
    let all = take_all (length stack - base) behind (omega arith) in
    let many : roots n.below ≡ length behind = omega (arith, wide, at, within) in
    let split : old (take base stack ++ drop base stack) (beside n.rest n.below) shelf h.kept h.steps =
    subst (λ s. old s (beside n.rest n.below) shelf h.kept h.steps) (sym (take-append-drop base stack)) (subst (λ r. old stack r shelf h.kept h.steps) n.was h.holds) in
    record {
      row = beside n.rest (tree n.label n.below none);
      kept = h.kept;
      steps = h.steps + 1;
      holds = (subst (λ items. MakesItem old new (IsNumberOfLabel st id) items item) all makes)
          (take base stack) shelf n.rest n.below h.kept h.steps n.label n.named many split;
      deep = omega (
        arith,
        length-append (take base stack) (item ∷ []),
        length-drop base stack,
        length-append (take base stack) (drop base stack),
        ap length (take-append-drop base stack),
        at,
        wide,
        within,
        h.deep,
        ap roots n.was,
        roots-beside n.rest n.below,
        roots-beside n.rest (tree n.label n.below none),
      );
      ones = h.ones;
      few = let f = h.few in omega arith;
      made = n.others;
    }

pub make_long : {X : Type 0} (held : Holding X) (st : List Sentence) (moves : List (Move ℕ)) (m : MakeRowAt st moves) (i : ℕ) (stack shelf : List X) (id most : ℕ) (h : AreItemsAt held st moves m i stack shelf)
    → NextMake held st moves m i stack shelf id h → IsFull held most → most < length (spelling m.row)
make_long held st moves m i stack shelf id most h n full =
    omega (arith, full stack shelf h.row h.kept h.steps h.holds, ap (λ (x : Trees). length (spelling x)) n.was, spelled_over n.rest n.below n.label, word_grows _ _ _ _ _ _ n.others)

-- a step by a tag, by the kept tree that has the item
pub record NextRepeat {X : Type 0} (held : Holding X) (st : List Sentence) (moves : List (Move ℕ)) (m : MakeRowAt st moves) (i : ℕ) (stack shelf : List X) (item : X) (h : AreItemsAt held st moves m i stack shelf) : Type 0 where
  pub label : List ℕ
  pub below : Trees
  pub has : IsKept shelf h.kept item label below
  pub others : Makes (take m.index st) (drop (i + 1) m.names) (beside h.row (tree label below none)) h.kept m.row m.makes.kept

pub repeat_within : {X : Type 0} (held : Holding X) (st : List Sentence) (moves : List (Move ℕ)) (m : MakeRowAt st moves) (i : ℕ) (stack shelf : List X) (tag : ℕ) (h : AreItemsAt held st moves m i stack shelf)
    → slice_get moves i ≡ Some (again tag) → tag < length shelf
repeat_within {X} held st moves m i stack shelf tag h here =
    let n = next held st moves m i stack shelf (again tag) h here in
    let one = subst (λ y. MakesOne (take m.index st) y h.row h.kept n.row' n.kept') n.numbered n.one in
    omega (arith, slice_get_within h.kept tag one.0 one.1, AllZip-long (λ (x : X) (t : Trees). roots t ≡ 1) shelf h.kept h.ones)

one_tree : (t : Trees) → roots t ≡ 1 → (label : List ℕ) × (below : Trees) × (t ≡ tree label below none)
one_tree (tree l x none) one = (l, x, refl)
one_tree t one = absurd (omega arith)

pub next_repeat : {X : Type 0} (held : Holding X) (st : List Sentence) (moves : List (Move ℕ)) (m : MakeRowAt st moves) (i : ℕ) (stack shelf : List X) (item : X) (tag : ℕ) (h : AreItemsAt held st moves m i stack shelf)
    → slice_get moves i ≡ Some (again tag) → item ≡ get_or shelf tag item → NextRepeat held st moves m i stack shelf item h
next_repeat {X} held st moves m i stack shelf item tag h here read =
    let there = slice_get_read shelf (length shelf) tag item refl
    (repeat_within held st moves m i stack shelf tag h here) read in
    let n = next held st moves m i stack shelf (again tag) h here in
    let one = subst (λ y. MakesOne (take m.index st) y h.row h.kept n.row' n.kept') n.numbered n.one in
    let found = zip_right (λ (x : X) (t : Trees). roots t ≡ 1) shelf h.kept tag one.0 h.ones one.1 in
    let single = one_tree one.0 found.2 in
    record {
      label = single.0;
      below = single.1;
      has = record { tag = tag; item_there = there; tree_there = one.1 ∙ ap Some single.2 };
      others = rw (one.3, one.2, single.2) at n.others;
    }

pub at_repeat : {X : Type 0} (old new : Holding X) (st : List Sentence) (moves : List (Move ℕ)) (m : MakeRowAt st moves) (i : ℕ) (stack shelf : List X) (item more : X) (h : AreItemsAt old st moves m i stack shelf)
    → NextRepeat old st moves m i stack shelf item h → RepeatsItem old new item more → AreItemsAt new st moves m (i + 1) (stack ++ more ∷ []) shelf
at_repeat {X} old new st moves m i stack shelf item more h n repeats = record {
  row = beside h.row (tree n.label n.below none);
  kept = h.kept;
  steps = h.steps + 1;
  holds = repeats stack shelf h.row h.kept h.steps n.label n.below n.has h.holds;
  deep = omega (arith, length-append stack (more ∷ []), h.deep, roots-beside h.row (tree n.label n.below none));
  ones = h.ones;
  few = let f = h.few in omega arith;
  made = n.others;
}

pub repeat_long : {X : Type 0} (held : Holding X) (st : List Sentence) (moves : List (Move ℕ)) (m : MakeRowAt st moves) (i : ℕ) (stack shelf : List X) (item : X) (most : ℕ) (h : AreItemsAt held st moves m i stack shelf)
    → NextRepeat held st moves m i stack shelf item h → IsTooLong held item most → most < length (spelling m.row)
repeat_long held st moves m i stack shelf item most h n long =
    omega (arith, long stack shelf h.row h.kept h.steps n.label n.below n.has h.holds, spelled_again h.row (tree n.label n.below none), word_grows _ _ _ _ _ _ n.others)

-- a mark, by the last tree
pub record NextKeep {X : Type 0} (held : Holding X) (st : List Sentence) (moves : List (Move ℕ)) (m : MakeRowAt st moves) (i : ℕ) (stack shelf : List X) (h : AreItemsAt held st moves m i stack shelf) : Type 0 where
  pub rest : Trees
  pub label : List ℕ
  pub below : Trees
  pub some : 0 < length stack
  pub was : h.row ≡ beside rest (tree label below none)
  pub others : Makes (take m.index st) (drop (i + 1) m.names) (beside rest (tree label below none)) (h.kept ++ tree label below none ∷ []) m.row m.makes.kept

module _ {X : Type 0} (held : Holding X) (st : List Sentence) (moves : List (Move ℕ))
    (m : MakeRowAt st moves) (i : ℕ) (stack shelf : List X) where
  pub next_keep : (h : AreItemsAt held st moves m i stack shelf) → slice_get moves i ≡ Some mark
      → NextKeep held st moves m i stack shelf h
  next_keep h here =
      let n = next held st moves m i stack shelf mark h here in
      let one = subst (λ y. MakesOne (take m.index st) y h.row h.kept n.row' n.kept') n.numbered n.one in
      record {
        rest = one.0;
        label = one.1;
        below = one.2;
        some = omega (arith, h.deep, ap roots one.3, roots-beside one.0 (tree one.1 one.2 none));
        was = one.3;
        others = subst (λ k. Makes (take m.index st) (drop (i + 1) m.names) (beside one.0 (tree one.1 one.2 none)) k m.row m.makes.kept) one.5
            (subst (λ r. Makes (take m.index st) (drop (i + 1) m.names) r n.kept' m.row m.makes.kept) (one.4 ∙ one.3) n.others);
      }

  pub at_keep : (item : X) (h : AreItemsAt held st moves m i stack shelf)
      → NextKeep held st moves m i stack shelf h → slice_get stack (length stack - 1) ≡ Some item
      → KeepsItem held → AreItemsAt held st moves m (i + 1) stack (shelf ++ item ∷ [])
  at_keep item h n there keeps =
      let parts = last_split stack n.some in
      let split : stack ≡ parts.0 ++ item ∷ [] = parts.2 ∙ ap (λ x. parts.0 ++ x ∷ []) (same_Some parts.1 item (sym parts.3 ∙ there)) in
      let t : Trees = tree n.label n.below none in
      let holds : held (parts.0 ++ item ∷ []) (beside n.rest t) shelf h.kept h.steps = subst (λ s. held s (beside n.rest t) shelf h.kept h.steps) split (subst (λ r. held stack r shelf h.kept h.steps) n.was h.holds) in
      record {
        row = beside n.rest t;
        kept = h.kept ++ t ∷ [];
        steps = h.steps;
        holds = subst (λ s. held s (beside n.rest t) (shelf ++ item ∷ []) (h.kept ++ t ∷ []) h.steps) (sym split) (keeps parts.0 shelf item n.rest h.kept h.steps n.label n.below holds);
        deep = h.deep ∙ ap roots n.was;
        ones = zip_push (λ (x : X) (t : Trees). roots t ≡ 1) shelf h.kept item t h.ones refl;
        few = let f = h.few in omega arith;
        made = n.others;
      }

  -- ---- after all moves

  pub row_items : i ≡ length moves → AreItemsAt held st moves m i stack shelf
      → AreBuilt held m.names m.row stack
  row_items all h =
      let long : length m.names ≡ length moves =
      AllZip-long (IsNumberedMove st) moves m.names m.numbered in
      let made = rw (drop_all i m.names (omega arith)) at h.made in
      record {
        shelf = shelf;
        kept = h.kept;
        steps = h.steps;
        deep = h.deep ∙ ap roots (sym made.0);
        few = let f = h.few in omega arith;
        holds = subst (λ r. held stack r shelf h.kept h.steps) (sym made.0) h.holds;
      }

-- where they are those of one tree, there is one
pub only_item : {X : Type 0} (held : Holding X) (stack : List X) (t : Trees) → roots t ≡ 1
    → (names : List (Move (List ℕ))) → AreBuilt held names t stack → (length stack ≡ 1)
    × ((item : X) → item ≡ get_or stack 0 item → IsBuilt held names t item)
only_item held stack t single names b =
    let one : length stack ≡ 1 = b.deep ∙ single in (
      one,
      λ item read. subst (AreBuilt held names t) (only_entry stack item one
          (slice_get_read stack (length stack) 0 item refl (omega (arith, one)) read)) b,
    )

-- they are the same by other names for the builder and the items
pub same_built : {B X : Type 0} (holds : B → B → List Sentence → Holding X) (first was now : B)
    (st : List Sentence) (names : List (Move (List ℕ))) (row : Trees) (items stack : List X)
    → was ≡ now → items ≡ stack → AreBuilt (holds first was st) names row items
    → AreBuilt (holds first now st) names row stack
same_built holds first was now st names row items stack builder same b =
    subst (λ n. AreBuilt (holds first n st) names row stack) builder
    (subst (AreBuilt (holds first was st) names row) same b)

-- ---- a forest

module _ {B X : Type 0} (holds : B → B → List Sentence → Holding X) where
  -- a move more
  pub built_more : (first old new : Forest B X) (prefix : List (Move ℕ)) (x : Move ℕ)
      → HasBuilt holds first old prefix → new.builder.ghost_name ≡ old.builder.ghost_name
      → new.book ≡ old.book → new.entries ≡ old.entries
      → new.stack.ghost_name ≡ old.stack.ghost_name
      → let held = λ (now : Forest B X). holds first.builder.now now.builder.now first.book.now.statements in ((moves : List (Move ℕ)) (m : MakeRowAt first.book.now.statements moves) → slice_get moves (length prefix) ≡ Some x → AreItemsAt (held old) _ moves m (length prefix) old.stack.now.items old.shelf.now.items → AreItemsAt (held new) _ moves m (length prefix + 1) new.stack.now.items new.shelf.now.items)
      → HasBuilt holds first new (prefix ++ x ∷ [])
  built_more first old new prefix x was builder book entries stack goes = record {
    same_builder = builder ∙ was.same_builder;
    same_book = book ∙ was.same_book;
    same_entries = entries ∙ was.same_entries;
    same_stack = stack ∙ was.same_stack;
    sound = was.sound;
    keeps = was.keeps;
    at = λ moves m begun.
        let more = first_more prefix moves x begun in
        rw (length-append prefix (x ∷ [])) (goes moves m more.1 (was.at moves m more.0));
  }

  -- some moves go on by the next move
  pub some_next : (now : Forest B X) (x : Move ℕ)
      (next : IsNext (HasBuilt holds) (λ first prefix move. MayGrow first.book.now.statements prefix move) now x)
      → let statements = next.first.book.now.statements in (moves : List (Move ℕ)) × (m : MakeRowAt statements moves) × (slice_get moves (length next.prefix) ≡ Some x) × AreItemsAt (holds next.first.builder.now now.builder.now statements) statements moves m (length next.prefix) now.stack.now.items now.shelf.now.items
  some_next now x next =
      let moves = next.allowed.0 in
      let more = first_more next.prefix moves x next.allowed.2 in
      (moves, next.allowed.1, more.1, next.ran.at moves next.allowed.1 more.0)

  -- where a mark comes next, something is on the stack
  pub keep_within : (now : Forest B X)
      → IsNext (HasBuilt holds) (λ first prefix move. MayGrow first.book.now.statements prefix move) now mark
      → 0 < length now.stack.now.items
  keep_within now next =
      let s = some_next now mark next in (next_keep _ _ s.0 s.1 _ _ _ s.3 s.2).some
