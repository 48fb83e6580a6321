-- Moves that make trees in two databases. The same moves make one tree where their labels stand
-- over as many trees in both; and of one tree the fully shared moves are the same in both. On this
-- file rest the contracts of `trees`.
use Rattle.std.proofs.Common.{◌≡◌, ℕ, List, [], ◌∷◌, take, Some, refl, sym, ap}
use Rattle.std.proofs.Common.{subst, ◌∙◌}
use Rattle.std.specs.List.{AllByRecursion, AllZip}
use Rattle.std.proofs.lemmas.Option.{same_Some}
use Rattle.mm_frame.specs.Rules.{AllMeant}
use Rattle.mm_frame.specs.Sentence.{Sentence}
use Rattle.mm_step.specs.Moves.{Move, name, again, mark, Makes}
use Rattle.mm_step.specs.Steps.{IsNumberedMove, AreNumberedMoves}
use Rattle.mm_step.specs.Tree.{Trees, none, tree, beside, roots, MayStandOver, TreesFit}
use Rattle.mm_step.proofs.ProofSteps.Derivations.{makes_once, one_row_end}
use Rattle.mm_forms.specs.BigSubtrees.{IsBig}
use Rattle.mm_forms.specs.OneTree.{MakeTree}
use Rattle.mm_forms.specs.Sharing.{ShareThose, MakeOnce, KeepMade}
use Rattle.mm_forms.specs.Spelled.{IsNumberOfLabel}
use Rattle.mm_forms.specs.Visits.{Visit, makes, repeats, keeps, visits}
use Rattle.mm_forms.proofs.FullSharing.OneSharing.{shared_once}
use Rattle.mm_forms.proofs.PackedProofs.SubtreeNumbers.{one_label_of}
use Rattle.mm_forms.proofs.TreeBuilding.TreeWords.{fit_apart, fit_beside, made_word}
use Rattle.mm_alike.specs.Mirror.Steps.{AreSameMoves, IsSameMove, MakeTreeInBoth}
use Rattle.mm_alike.proofs.WidthsInBoth.{stands_width, width_stands}

module _ (one other : List Sentence) where
  -- ---- what is made after the one is made after the other

  -- the label of a step by a label may stand over the same trees in both
  abbrev pub StandsInBoth : Move (List ℕ) → Type 0
  StandsInBoth (name label) =
      (below : Trees) × MayStandOver one label below × MayStandOver other label below
  StandsInBoth (again tag) = Unit {0}
  StandsInBoth mark = Unit {0}

  -- the moves make the same after the other, by the same visits
  record IsCarried (moves : List (Move (List ℕ))) (row : Trees) (kept : List Trees) (row' : Trees)
      (kept' : List Trees) (m : Makes one moves row kept row' kept') : Type 0 where
    fit : TreesFit other row
    made : Makes other moves row kept row' kept'
    seen : visits other moves row kept row' kept' made ≡ visits one moves row kept row' kept' m
    stand : AllByRecursion StandsInBoth moves

  carried : (moves : List (Move (List ℕ))) (row : Trees) (kept : List Trees) (row' : Trees)
      (kept' : List Trees) (m : Makes one moves row kept row' kept') → TreesFit other row'
      → IsCarried moves row kept row' kept' m
  carried [] row kept row' kept' m fit =
      record { fit = subst (TreesFit other) m.0 fit; made = m; seen = refl; stand = tt }
  carried (name label ∷ moves) row kept row' kept' m fit =
      let step = m.2 in
      let rest = carried moves m.0 m.1 row' kept' m.3 fit in
      let parts = fit_apart other step.0 (tree label step.1 none)
      (subst (TreesFit other) step.4 rest.fit) in
      record {
        fit = subst (TreesFit other) (sym step.2)
            (fit_beside other step.0 step.1 parts.0 parts.1.1);
        made = (
          m.0,
          m.1,
          (step.0, step.1, step.2, parts.1.0, step.4, step.5),
          rest.made,
        );
        seen = ap (λ (v : List Visit). makes (tree label step.1 none) ∷ v) rest.seen;
        stand = ((step.1, step.3, parts.1.0), rest.stand);
      }
  carried (again tag ∷ moves) row kept row' kept' m fit =
      let step = m.2 in
      let rest = carried moves m.0 m.1 row' kept' m.3 fit in
      let parts = fit_apart other row step.0 (subst (TreesFit other) step.2 rest.fit) in
      record {
        fit = parts.0;
        made = (m.0, m.1, step, rest.made);
        seen = ap (λ (v : List Visit). repeats step.0 ∷ v) rest.seen;
        stand = (tt, rest.stand);
      }
  carried (mark ∷ moves) row kept row' kept' m fit =
      let step = m.2 in
      let rest = carried moves m.0 m.1 row' kept' m.3 fit in
      record {
        fit = subst (TreesFit other) step.4 rest.fit;
        made = (m.0, m.1, step, rest.made);
        seen = ap (λ (v : List Visit). keeps (tree step.1 step.2 none) ∷ v) rest.seen;
        stand = (tt, rest.stand);
      }

  -- so do moves that share all, and they do so there
  shared_there : (t : Trees) (moves : List (Move (List ℕ))) → TreesFit other t
      → ShareThose IsBig one t moves → ShareThose IsBig other t moves
      × AllByRecursion StandsInBoth moves
  shared_there t moves fit s =
      let c = carried moves none [] t s.kept s.made fit in (
        record {
          kept = s.kept;
          made = c.made;
          once = subst (MakeOnce IsBig) (sym c.seen) s.once;
          marked = subst (KeepMade IsBig) (sym c.seen) s.marked;
          referred = s.referred;
        },
        c.stand,
      )

  -- moves that share all of one tree in both are the same
  pub shared_in_both : (t : Trees) (moves others : List (Move (List ℕ))) → TreesFit other t
      → ShareThose IsBig one t moves → ShareThose IsBig other t others
      → (moves ≡ others) × AllByRecursion StandsInBoth moves
  shared_in_both t moves others fit s s' =
      let there = shared_there t moves fit s in
      (shared_once IsBig other t moves others there.0 s', there.1)

  -- ---- the same moves make one tree

  -- the label of a step by a label stands over as many trees in both
  abbrev pub StandsAsWide : Move (List ℕ) → Type 0
  StandsAsWide (name label) =
      (below below' : Trees) → MayStandOver one label below → MayStandOver other label below'
      → roots below ≡ roots below'
  StandsAsWide (again tag) = Unit {0}
  StandsAsWide mark = Unit {0}

  pub made_in_both : (moves : List (Move (List ℕ))) (row a b : Trees) (kept k l : List Trees)
      → AllByRecursion StandsAsWide moves → Makes one moves row kept a k
      → Makes other moves row kept b l → a ≡ b
  made_in_both [] row a b kept k l wide m n = m.0 ∙ sym n.0
  made_in_both (name label ∷ moves) row a b kept k l wide m n =
      let p = m.2 in
      let q = n.2 in
      let parts = one_row_end p.0 p.1 q.0 q.1 (sym p.2 ∙ q.2) (wide.0 p.1 q.1 p.3 q.3) in
      let next : m.0 ≡ n.0 = cc (p.4, q.4, parts.0, parts.1) in
      let more : m.1 ≡ n.1 = cc (p.5, q.5) in
      made_in_both moves n.0 a b n.1 k l wide.1 (rw (← next, ← more) m.3) n.3
  made_in_both (again tag ∷ moves) row a b kept k l wide m n =
      let p = m.2 in
      let q = n.2 in
      let same : p.0 ≡ q.0 = same_Some p.0 q.0 (sym p.1 ∙ q.1) in
      let next : m.0 ≡ n.0 = cc (p.2, q.2, same) in
      let more : m.1 ≡ n.1 = cc (p.3, q.3) in
      made_in_both moves n.0 a b n.1 k l wide.1 (rw (← next, ← more) m.3) n.3
  made_in_both (mark ∷ moves) row a b kept k l wide m n =
      let p = m.2 in
      let q = n.2 in
      let parts = one_row_end p.0 (tree p.1 p.2 none) q.0 (tree q.1 q.2 none) (sym p.3 ∙ q.3) refl in
      let next : m.0 ≡ n.0 = cc (p.4, q.4) in
      let more : m.1 ≡ n.1 = cc (p.5, q.5, parts.1) in
      made_in_both moves n.0 a b n.1 k l wide.1 (rw (← next, ← more) m.3) n.3

-- ---- moves by numbers and by names

-- two lists beside two that correspond
zip_between : {A B C D : Type 0} (R : A → B → Type 0) (S : A → C → Type 0) (T : B → D → Type 0)
    (U : C → D → Type 0)
    → ((a : A) (b : B) (c : C) (d : D) → R a b → S a c → T b d → U c d)
    → (xs : List A) (ys : List B) (us : List C) (vs : List D) → AllZip R xs ys → AllZip S xs us
    → AllZip T ys vs → AllZip U us vs
zip_between R S T U step [] [] [] [] r s t = tt
zip_between R S T U step [] [] (c ∷ us) vs r s t = absurd s
zip_between R S T U step [] [] [] (d ∷ vs) r s t = absurd t
zip_between R S T U step (a ∷ xs) (b ∷ ys) [] vs r s t = absurd s
zip_between R S T U step (a ∷ xs) (b ∷ ys) (c ∷ us) [] r s t = absurd t
zip_between R S T U step (a ∷ xs) (b ∷ ys) (c ∷ us) (d ∷ vs) r s t =
    (step a b c d r.0 s.0 t.0, zip_between R S T U step xs ys us vs r.1 s.1 t.1)
zip_between R S T U step xs ys us vs r s t = absurd r

-- two lists beside one, of each of whose elements something holds
zip_around : {A B C : Type 0} (R : A → C → Type 0) (S : B → C → Type 0) (P : C → Type 0)
    (U : A → B → Type 0) → ((a : A) (b : B) (c : C) → R a c → S b c → P c → U a b)
    → (xs : List A) (ys : List B) (zs : List C) → AllZip R xs zs → AllZip S ys zs
    → AllByRecursion P zs → AllZip U xs ys
zip_around R S P U step [] [] [] r s p = tt
zip_around R S P U step [] (b ∷ ys) [] r s p = absurd s
zip_around R S P U step (a ∷ xs) [] (c ∷ zs) r s p = absurd s
zip_around R S P U step (a ∷ xs) (b ∷ ys) (c ∷ zs) r s p =
    (step a b c r.0 s.0 p.0, zip_around R S P U step xs ys zs r.1 s.1 p.1)
zip_around R S P U step xs ys zs r s p = absurd r

-- lists of equal elements are one
zip_same : {A : Type 0} (P : A → Type 0) (xs ys : List A) → AllZip (λ a b. (a ≡ b) × P a) xs ys
    → (xs ≡ ys) × AllByRecursion P xs
zip_same P [] [] z = (refl, tt)
zip_same P (a ∷ xs) (b ∷ ys) z =
    let rest = zip_same P xs ys z.1 in
    let first : a ≡ b = z.0.0 in
    let others : xs ≡ ys = rest.0 in
    (cc, (z.0.1, rest.1))
zip_same P xs ys z = absurd z

module _ (old new : List Sentence) (i j : ℕ) (meant : AllMeant old) (meant_too : AllMeant new) where
  abbrev Wide : Move (List ℕ) → Type 0
  Wide move = StandsAsWide (take i old) (take j new) move

  -- one move by its two numbers
  one_name : (x y : Move ℕ) (n m : Move (List ℕ)) → IsSameMove old new x y
      → IsNumberedMove old x n → IsNumberedMove new y m → (n ≡ m) × Wide n
  one_name (name a) (name b) n m same (s, l, there, named, is) (t, k, there', named', is') =
      let label : List ℕ = same.0.0 in
      let here : l ≡ label =
      one_label_of old a l label (record { s = s; there = there; named = named }) same.0.1 in
      let there_too : k ≡ label =
      one_label_of new b k label (record { s = t; there = there'; named = named' }) same.0.2 in
      let first : n ≡ name label = is ∙ ap (λ (x : List ℕ). name x) here in
      let second : m ≡ name label = is' ∙ ap (λ (x : List ℕ). name x) there_too in (
        first ∙ sym second,
        subst (λ (z : Move (List ℕ)). Wide z) (sym first)
            (λ below below' stands stands'.
            stands_width old i a label below meant same.0.1 same.1.0 same.1.1 stands
            ∙ sym (stands_width new j b label below' meant_too same.0.2 same.1.0 same.1.2 stands')),
      )
  one_name (again t) (again u) n m same is is' =
      let first : n ≡ again t = is in
      let second : m ≡ again u = is' in
      let tags : t ≡ u = same in
      (cc, subst (λ (z : Move (List ℕ)). Wide z) (sym first) tt)
  one_name mark mark n m same is is' =
      let first : n ≡ mark = is in
      let second : m ≡ mark = is' in
      (first ∙ sym second, subst (λ (z : Move (List ℕ)). Wide z) (sym first) tt)
  one_name _ _ n m same is is' = absurd same

  -- the same moves have the same names
  pub names_in_both : (moves others : List (Move ℕ)) (names other_names : List (Move (List ℕ)))
      → AreSameMoves old new moves others → AreNumberedMoves old moves names
      → AreNumberedMoves new others other_names
      → (names ≡ other_names) × AllByRecursion Wide names
  names_in_both moves others names other_names same here there =
      zip_same Wide names other_names
      (zip_between (IsSameMove old new) (IsNumberedMove old) (IsNumberedMove new)
      (λ n m. (n ≡ m) × Wide n) one_name moves others names other_names same here there)

  abbrev Both : Move (List ℕ) → Type 0
  Both move = StandsInBoth (take i old) (take j new) move

  -- one name is of one move
  one_number : (x y : Move ℕ) (n : Move (List ℕ)) → IsNumberedMove old x n
      → IsNumberedMove new y n → Both n → IsSameMove old new x y
  one_number (name a) (name b) n (s, l, there, named, is) (t, k, there', named', is') both =
      let labels : name l ≡ name k = sym is ∙ is' in
      let same : k ≡ l = cc in
      let stands : Both (name l) = subst (λ (z : Move (List ℕ)). Both z) is both in
      let one : IsNumberOfLabel old a l = record { s = s; there = there; named = named } in
      let two : IsNumberOfLabel new b l = record {
        s = t;
        there = there';
        named = named' ∙ ap (λ (x : List ℕ). Some x) same;
      } in (
        (l, one, two),
        (
          roots stands.0,
          width_stands old i a l stands.0 meant one stands.1,
          width_stands new j b l stands.0 meant_too two stands.2,
        ),
      )
  one_number (again t) (again u) n is is' both =
      let first : n ≡ again t = is in
      let second : n ≡ again u = is' in cc
  one_number mark mark n is is' both = tt
  one_number (name a) (again u) n is is' both = absurd (cc)
  one_number (name a) mark n is is' both = absurd (cc)
  one_number (again t) (name b) n is is' both = absurd (cc)
  one_number (again t) mark n is is' both = absurd (cc)
  one_number mark (name b) n is is' both = absurd (cc)
  one_number mark (again u) n is is' both = absurd (cc)

  -- moves with the same names are the same
  pub numbers_in_both : (moves others : List (Move ℕ)) (names : List (Move (List ℕ)))
      → AreNumberedMoves old moves names → AreNumberedMoves new others names
      → AllByRecursion Both names → AreSameMoves old new moves others
  numbers_in_both moves others names here there both =
      zip_around (IsNumberedMove old) (IsNumberedMove new) Both (IsSameMove old new) one_number
      moves others names here there both

-- ---- one tree in both

-- the parts of equal trees
tree_parts : (l m : List ℕ) (a b : Trees) → tree l a none ≡ tree m b none → (l ≡ m) × (a ≡ b)
tree_parts l m a b e = (cc, cc)

-- moves that make equal trees make one tree
pub make_in_both : (one other : List Sentence) (names other_names : List (Move (List ℕ)))
    (l m : List ℕ) (a b : Trees) → tree l a none ≡ tree m b none → MakeTree one names l a
    → MakeTree other other_names m b → MakeTreeInBoth one other names other_names
make_in_both one other names other_names l m a b same here there =
    let (label, below) = tree_parts l m a b same in (
      l,
      a,
      here,
      subst (λ (x : List ℕ). MakeTree other other_names x a) (sym label)
          (subst (λ (y : Trees). MakeTree other other_names m y) (sym below) there),
    )

-- and the tree that moves make is one
pub tree_in_both : (one : List Sentence) (names : List (Move (List ℕ))) (l m : List ℕ)
    (a b : Trees) → AllMeant one → MakeTree one names l a → MakeTree one names m b
    → tree l a none ≡ tree m b none
tree_in_both one names l m a b meant here there =
    (makes_once one names none (tree l a none) (tree m b none) [] here.kept there.kept meant
    here.made there.made).0

-- what is made fits
pub made_fits : (other : List Sentence) (names : List (Move (List ℕ))) (l : List ℕ) (a : Trees)
    → MakeTree other names l a → TreesFit other (tree l a none)
made_fits other names l a m = (made_word other names (tree l a none) m.kept m.made).1
