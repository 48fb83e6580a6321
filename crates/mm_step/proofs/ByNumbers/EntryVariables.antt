-- The variables of expressions, each once, by numbers and by names: what holds of the pairs of these
-- holds of the expressions.
use Rattle.std.proofs.Common.{◌≡◌, ℕ, zero, suc, ◌+◌, ◌-◌, ◌<◌, ◌≤◌, List, [], ◌∷◌, ◌++◌, length, take}
use Rattle.std.proofs.Common.{drop, get_or, slice_get, Contains, Bool, true, false, eqb, Option, Some}
use Rattle.std.proofs.Common.{MatchBool, inl, inr, ⊎_elim, refl, sym, ap, subst, ◌∙◌}
use Rattle.std.proofs.Common.{arith}
use Rattle.std.specs.Ordering.{nat_cmp, eq_by_cmp}
use Rattle.std.specs.declared.cmp.Ordering.TheVariants.{Less}
use Rattle.std.specs.List.{AllZip, dedup}
use Rattle.std.specs.List.Sorted.{IsPermutation, IsSorted, IsStrictlySortedBy}
use Rattle.std.specs.List.Retain.{IsFiltered, DiffersFromLast}
use Rattle.std.specs.Cmp.{IsTotalOrder, IsEquivalence}
use Rattle.std.proofs.lemmas.Bool.{cases_lt, eqb-true, cases_Bool}
use Rattle.std.proofs.lemmas.Bool.Decides.{nat_tests}
use Rattle.std.proofs.lemmas.Cmp.{nat_cmp_total, on_total, nat_eq_equiv, on_equiv}
use Rattle.std.proofs.lemmas.Option.{none-some, same_Some, get_or_from_slice_get}
use Rattle.std.proofs.lemmas.List.{take_all, take_more, length-drop}
use Rattle.std.proofs.lemmas.List.Filters.{dedup_is}
use Rattle.std.proofs.lemmas.List.Kept.{Contains-dedup, Contains-from_dedup}
use Rattle.std.proofs.lemmas.List.Kept.{IsStrictlySortedBy-dedup}
use Rattle.std.proofs.lemmas.List.Sorted.{Contains-permutation, IsPermutation-sym}
use Rattle.std.proofs.lemmas.List.Elements.{Contains-push, Contains-push_cases}
use Rattle.std.proofs.lemmas.List.Elements.{Contains-append_left}
use Rattle.std.proofs.lemmas.List.Elements.{AllZip-push}
use Rattle.mm_base.proofs.Lists.{all_at, all_within}
use Rattle.mm_frame.specs.declared.number.Sym.{Sym}
use Rattle.mm_frame.specs.Sentence.{Sentence, Declares}
use Rattle.mm_frame.specs.Active.{IsVariable}
use Rattle.mm_frame.specs.Pieces.{is_of}
use Rattle.mm_base.specs.declared.statement.Kind.TheVariants.{Variables}
use Rattle.mm_frame.proofs.Rules.ObeyedRules.{some_later}
use Rattle.mm_step.specs.Tree.{ShareNoVariable, AreDistinct}
use Rattle.mm_step.specs.Stores.{numbers_in}
use Rattle.mm_step.specs.Mirror.CodeRun.{DoRise}
use Rattle.mm_step.specs.Mirror.CodeAsked.{IsVariableNumber, AreOnce}
use Rattle.mm_step.specs.Mirror.CodeVariables.{HaveSame, AddsVariable, AreItsVariables}
use Rattle.mm_step.specs.Mirror.CodeVariables.{HasItsVariables}
use Rattle.mm_step.specs.Mirror.CodeVerify.{name_at, names_at, IsSymbol, AreDeclaredSymbols}
use Rattle.mm_step.specs.Mirror.CodeVerify.{AreStackEntries, value_of, EachPairValues}
use Rattle.mm_step.specs.Mirror.CodeVerify.{SomePairValues}
use Rattle.mm_step.proofs.ByNumbers.NumberedSymbols.{number_of_name, within_at, drop_get}
use Rattle.mm_step.proofs.ByNumbers.SharedVariables.{has_named, named_has, number_among, symbol_at}
use Rattle.mm_step.proofs.ByNumbers.SharedVariables.{value_symbols}
use Rattle.mm_step.proofs.ByNumbers.VariablesOfLists.{mapped_at, mapped_contains, contains_mapped}
use Rattle.mm_step.proofs.ByNumbers.VariablesOfLists.{taken_more, more_taken, last_taken}
use Rattle.mm_step.proofs.ByNumbers.RisingVariables.{by_number}

-- ==== symbols that were sorted, each once

abbrev same_symbol : Sym → Sym → Bool
same_symbol x y = eqb x.0 y.0

symbols_equiv : IsEquivalence same_symbol
symbols_equiv = on_equiv (λ (s : Sym). s.0) nat_eq_equiv

one_symbol : (x y : Sym) → same_symbol x y ≡ true → x ≡ y
one_symbol x y e = let same : x.0 ≡ y.0 = eqb-true x.0 y.0 e in λ k. record { 0 = same k }

by_number_total : IsTotalOrder by_number
by_number_total = on_total (λ (s : Sym). s.0) nat_cmp_total

ties : (x y : Sym) → same_symbol x y ≡ eq_by_cmp by_number x y
ties x y = grind (arith, nat_tests)

lower : (a b : ℕ) → nat_cmp a b ≡ Less → a < b
lower a b e = grind (arith, nat_tests)

numbers_rise : (zs : List Sym) → IsStrictlySortedBy by_number zs → DoRise (numbers_in zs)
unfolding IsStrictlySortedBy
numbers_rise [] h i j a b less p q = absurd (none-some a p)
numbers_rise (z ∷ zs) h i zero a b less p q = absurd (omega (arith, less))
numbers_rise (z ∷ zs) h zero (suc j) a b less p q =
    let y = mapped_at (λ (s : Sym). s.0) zs j b q in
    let below = all_at (λ (x : Sym). by_number z x ≡ Less) zs j y.0 h.0 y.1 in
    subst (λ k. k < b) (same_Some z.0 a p)
    (subst (λ k. z.0 < k) y.2 (lower z.0 y.0.0 below))
numbers_rise (z ∷ zs) h (suc i) (suc j) a b less p q =
    numbers_rise zs h.1 i j a b (omega (arith, less)) p q

module _ (xs ys zs : List Sym) (moved : IsPermutation xs ys)
    (filtered : IsFiltered (DiffersFromLast same_symbol) [] ys zs) where
  pub once_same : HaveSame (numbers_in xs) (numbers_in zs)
  once_same n = (
    λ c.
        let x = mapped_contains (λ (s : Sym). s.0) zs n c in
        subst (Contains (numbers_in xs)) x.2 (contains_mapped (λ (s : Sym). s.0) xs x.0
        (Contains-permutation ys xs x.0 (IsPermutation-sym xs ys moved)
        (Contains-from_dedup same_symbol ys x.0 (subst (λ l. Contains l x.0) is x.1)))),
    λ c.
        let x = mapped_contains (λ (s : Sym). s.0) xs n c in
        subst (Contains (numbers_in zs)) x.2 (contains_mapped (λ (s : Sym). s.0) zs x.0
        (subst (λ l. Contains l x.0) (sym is)
        (Contains-dedup symbols_equiv one_symbol ys x.0
        (Contains-permutation xs ys x.0 moved x.1)))),
  )
    where
      is : zs ≡ dedup same_symbol ys
      is = dedup_is same_symbol ys zs filtered

  pub once_rising : IsSorted by_number ys → DoRise (numbers_in zs)
  once_rising sorted =
      numbers_rise zs (subst (IsStrictlySortedBy by_number) (sym (dedup_is same_symbol ys zs filtered))
      (IsStrictlySortedBy-dedup by_number_total ties ys sorted))

-- a number stands once among rising ones
rising_once : (ns : List ℕ) → DoRise ns → (i j n : ℕ) → slice_get ns i ≡ Some n
    → slice_get ns j ≡ Some n → i ≡ j
rising_once ns rising i j n p q = elim (cases_lt i j) [
  | inl less ↦ absurd (let below : n < n = rising i j n n less p q in omega (arith, below))
  | inr most ↦ elim (cases_lt j i) [
    | inl less ↦ absurd (let below : n < n = rising j i n n less q p in omega (arith, below))
    | inr least ↦ omega (arith, most, least)
  ]
]

-- ==== the variables of an expression, one symbol after the other

module _ (st : List Sentence) where
  -- a symbol that is no variable
  pub adds_none : (m : ℕ) (old : List ℕ) → ¬ (IsVariableNumber st m) → AddsVariable st m old old
  adds_none m old not n = (
    inl,
    ⊎_elim (λ c. c) (λ v. absurd (not (subst (IsVariableNumber st) (sym v.1) v.0))),
  )

  -- a variable, which was put behind the others
  pub adds_one : (m : ℕ) (old before new : List ℕ) → IsVariableNumber st m → HaveSame old before
      → new ≡ before ++ m ∷ [] → AddsVariable st m old new
  adds_one m old before new is same pushed n = (
    λ c. elim (Contains-push_cases before m n (subst (λ l. Contains l n) pushed c)) [
      | inl b ↦ inl ((same n).0 b)
      | inr e ↦ inr (subst (IsVariableNumber st) e is, e)
    ],
    λ h. subst (λ l. Contains l n) (sym pushed)
        (⊎_elim (λ c. Contains-append_left before (m ∷ []) n ((same n).1 c))
        (λ v. subst (Contains (before ++ m ∷ [])) v.1 (Contains-push before m)) h),
  )

  -- one symbol more
  pub variables_more : (e old new : List ℕ) (i : ℕ) → i < length e
      → AddsVariable st (get_or e i 0) old new → AreItsVariables st (take i e) old
      → AreItsVariables st (take (i + 1) e) new
  variables_more e old new i less adds are n = (
    λ c. elim ((adds n).0 c) [
      | inl b ↦ let h = (are n).0 b in (h.0, more_taken e i less n h.1)
      | inr v ↦ (v.0, subst (Contains (take (i + 1) e)) v.1 (last_taken e i less))
    ],
    λ h. (adds n).1 (⊎_elim (λ b. inl ((are n).1 (h.0, b))) (λ s. inr (h.0, s))
        (taken_more e i less n h.1)),
  )

  -- all of them, in order
  pub variables_once : (e found sorted : List ℕ) (i : ℕ) → length e ≤ i
      → AreItsVariables st (take i e) found → HaveSame found sorted → DoRise sorted
      → AreOnce (IsVariableNumber st) e sorted
  variables_once e found sorted i all are same rising = record {
    each = λ n.
        let here = subst (λ l. AreItsVariables st l found) (take_all i e all) are in (
          λ c. (here n).0 ((same n).0 c),
          λ h. (same n).1 ((here n).1 h),
        );
    once = rising_once sorted rising;
  }

  -- an entry, whose first symbol stays
  first_listed : (code : ℕ) (rest variables : List ℕ) → AreOnce (IsVariableNumber st) rest variables
      → HasItsVariables st (code ∷ rest) (code ∷ variables)
  first_listed code rest variables are = record { only = only; variables = are.each }
    where
      only : (n : ℕ) → Contains (code ∷ variables) n → Contains (code ∷ rest) n
      only n (zero, less, e) = (0, omega arith, e)
      only n (suc k, less, e) =
          let within : suc k < length (code ∷ variables) = less in
          let h = ((are.each n).0 (k, omega arith, e)).1 in
          let there : h.0 < length rest = h.1 in
          (suc h.0, omega arith, h.2)

  pub entry_listed : (entry found none made row : List Sym) (d : Sym) → 1 ≤ length entry
      → AreOnce (IsVariableNumber st) (numbers_in (take (length entry - 1) (drop 1 entry)))
      (numbers_in found)
      → none ≡ [] → made ≡ none ++ get_or entry 0 d ∷ [] → row ≡ made ++ found
      → HasItsVariables st (numbers_in entry) (numbers_in row)
  entry_listed [] found none made row d least are empty first is = absurd (omega (arith, least))
  entry_listed (x ∷ xs) found none made row d least are empty first is =
      let all : length xs ≤ length (x ∷ xs) - 1 = omega arith in
      let rest = subst (λ l. AreOnce (IsVariableNumber st) (numbers_in l) (numbers_in found))
      (take_all (length (x ∷ xs) - 1) xs all) are in
      rw (is, first, empty) (first_listed x.0 (numbers_in xs) (numbers_in found) rest)

  pub none_listed : (entry : List ℕ) → entry ≡ [] → HasItsVariables st entry []
  none_listed entry is = subst (λ e. HasItsVariables st e []) (sym is) (record {
    only = λ n c. c;
    variables = λ n. (
      λ c. absurd (let less : c.0 < 0 = c.1 in omega arith),
      λ h. h.1,
    );
  })

-- ==== what holds of the variables holds of the expressions

module _ (st : List Sentence) (index : ℕ) where
  -- ---- of two expressions

  -- the variables have each name of a variable that the expression has
  listed_has : (e a : List ℕ) (u : List ℕ) → AreDeclaredSymbols st (take index st) e
      → AreItsVariables st e a → IsVariable (take index st) u → Contains (names_at st e) u
      → Contains (names_at st a) u
  listed_has e a u symbols are variable c =
      let k = has_named st e u c in
      let n = get_or e k.0 0 in
      let number = number_of_name st n (symbol_at st (take index st) e k.0 symbols k.1).below in
      let is : IsVariable st (name_at st n) =
      subst (IsVariable st) (sym k.2) (some_later st index (Declares Variables u) variable) in
      subst (Contains (names_at st a)) k.2 (named_has st a n
      ((are n).1 ((name_at st n, number, is), number_among e k.0 k.1)))

  -- and none but those
  has_listed : (e a : List ℕ) (u : List ℕ) → AreItsVariables st e a → Contains (names_at st a) u
      → Contains (names_at st e) u
  has_listed e a u are c =
      let k = has_named st a u c in
      let n = get_or a k.0 0 in
      subst (Contains (names_at st e)) k.2
      (named_has st e n ((are n).0 (number_among a k.0 k.1)).1)

  -- it holds of expressions where it holds of their variables, and only there
  abbrev pub IsOfVariables : (P : List ℕ → List ℕ → Type 0) → Type 0
  IsOfVariables P =
      (e f a b : List ℕ) → AreDeclaredSymbols st (take index st) e
      → AreDeclaredSymbols st (take index st) f → AreItsVariables st e a → AreItsVariables st f b
      → (P e f → P a b) × (P a b → P e f)

  pub share_of_variables : IsOfVariables (λ e f.
      ShareNoVariable (take index st) (names_at st e) (names_at st f))
  share_of_variables e f a b se sf in_e in_f = (
    λ h u v in_a in_b. h u v (has_listed e a u in_e in_a) (has_listed f b u in_f in_b),
    λ h u v c d. h u v (listed_has e a u se in_e v c) (listed_has f b u sf in_f v d),
  )

  pub apart_of_variables : IsOfVariables (λ e f.
      AreDistinct (take index st) (names_at st e) (names_at st f))
  apart_of_variables e f a b se sf in_e in_f = (
    λ h u v p q c d. h u v p q (has_listed e a u in_e c) (has_listed f b v in_f d),
    λ h u v p q c d. h u v p q (listed_has e a u se in_e p c) (listed_has f b v sf in_f q d),
  )

-- ---- of entries, one after the other

module _ (st : List Sentence) (stack : List (List ℕ)) (base : ℕ) where
  -- the entry at an index, and a row for it
  pub rows_more : (index : ℕ) (rows more : List (List ℕ)) (entry row : List ℕ) → base ≤ index
      → index < length stack → slice_get stack index ≡ Some entry → HasItsVariables st entry row
      → more ≡ rows ++ row ∷ []
      → AllZip (HasItsVariables st) (take (index - base) (drop base stack)) rows
      → AllZip (HasItsVariables st) (take (index + 1 - base) (drop base stack)) more
  rows_more index rows more entry row from less at has pushed zip =
      let es = drop base stack in
      let k = index - base in
      let within : k < length es = omega (arith, length-drop base stack) in
      let same : base + k ≡ index = omega arith in
      let there : slice_get es k ≡ Some entry = drop_get stack base k ∙ ap (slice_get stack) same ∙ at in
      let next : index + 1 - base ≡ k + 1 = omega arith in
      let read = get_or_from_slice_get es k entry entry there in
      rw (next, pushed, take_more es k entry within, read)
      (AllZip-push (HasItsVariables st) (take k es) rows entry row zip has)

  pub rows_all : (index : ℕ) (rows : List (List ℕ)) → length stack ≤ index
      → AllZip (HasItsVariables st) (take (index - base) (drop base stack)) rows
      → AllZip (HasItsVariables st) (drop base stack) rows
  rows_all index rows all zip =
      subst (λ l. AllZip (HasItsVariables st) l rows)
      (take_all (index - base) (drop base stack) (omega (arith, length-drop base stack))) zip

-- ---- of what replaces two variables

module _ (st : List Sentence) where
  -- the variables that replace one
  pub listed_value : (vs : List (Option ℕ)) (es rows : List (List ℕ)) (n : ℕ) (e : List ℕ)
      → AllZip (HasItsVariables st) es rows → value_of vs es n ≡ Some e
      → (a : List ℕ) × (value_of vs rows n ≡ Some a) × AreItsVariables st e a
  listed_value (v ∷ vs) (x ∷ es) (y ∷ rows) n e zip is = ⊎_elim
      (λ t. rw t (
        drop 1 y,
        refl,
        subst (λ l. AreItsVariables st l (drop 1 y))
            (same_Some (drop 1 x) e (rw t at is)) zip.0.variables,
      ))
      (λ t. rw t (listed_value vs es rows n e zip.1 (rw t at is))) (cases_Bool (is_of n v))
  listed_value [] es rows n e zip is = absurd cc
  listed_value (v ∷ vs) [] rows n e zip is = absurd cc
  listed_value (v ∷ vs) (x ∷ es) [] n e zip is = absurd zip

  pub value_listed : (vs : List (Option ℕ)) (es rows : List (List ℕ)) (n : ℕ) (a : List ℕ)
      → AllZip (HasItsVariables st) es rows → value_of vs rows n ≡ Some a
      → (e : List ℕ) × (value_of vs es n ≡ Some e) × AreItsVariables st e a
  value_listed (v ∷ vs) (x ∷ es) (y ∷ rows) n a zip is = ⊎_elim
      (λ t. rw t (
        drop 1 x,
        refl,
        subst (AreItsVariables st (drop 1 x))
            (same_Some (drop 1 y) a (rw t at is)) zip.0.variables,
      ))
      (λ t. rw t (value_listed vs es rows n a zip.1 (rw t at is))) (cases_Bool (is_of n v))
  value_listed [] es rows n a zip is = absurd cc
  value_listed (v ∷ vs) es [] n a zip is = absurd cc
  value_listed (v ∷ vs) [] (y ∷ rows) n a zip is = absurd zip

  -- the rows have declared symbols alone, as the entries have
  pub rows_symbols : (before : List Sentence) (es rows : List (List ℕ))
      → AllZip (HasItsVariables st) es rows → AreStackEntries st before es
      → AreStackEntries st before rows
  rows_symbols before [] [] zip all = tt
  rows_symbols before (e ∷ es) (row ∷ rows) zip all = (
    all_within (IsSymbol st before) row (λ n c.
        let h = zip.0.only n c in
        subst (IsSymbol st before) h.2 (within_at (IsSymbol st before) e h.0 n all.0 h.1)),
    rows_symbols before es rows zip.1 all.1,
  )
  rows_symbols before es rows zip all = absurd zip

module _ (st : List Sentence) (index : ℕ) (P : List ℕ → List ℕ → Type 0)
    (of : IsOfVariables st index P) (vs : List (Option ℕ)) (es rows : List (List ℕ))
    (pairs : List (ℕ × ℕ)) (zip : AllZip (HasItsVariables st) es rows)
    (symbols : AreStackEntries st (take index st) es) where
  both_of : (x y : ℕ) (e f a b : List ℕ) → value_of vs es x ≡ Some e → value_of vs es y ≡ Some f
      → AreItsVariables st e a → AreItsVariables st f b → (P e f → P a b) × (P a b → P e f)
  both_of x y e f a b at_e at_f =
      of e f a b (value_symbols st (take index st) vs es x e symbols at_e)
      (value_symbols st (take index st) vs es y f symbols at_f)

  each_of : EachPairValues (value_of vs rows) pairs P → EachPairValues (value_of vs es) pairs P
  each_of h k p at e f at_e at_f =
      let a = listed_value st vs es rows p.0 e zip at_e in
      let b = listed_value st vs es rows p.1 f zip at_f in
      (both_of p.0 p.1 e f a.0 b.0 at_e at_f a.2 b.2).1 (h k p at a.0 b.0 a.1 b.1)

  some_of : SomePairValues (value_of vs rows) pairs (λ a b. ¬ (P a b))
      → SomePairValues (value_of vs es) pairs (λ e f. ¬ (P e f))
  some_of (k, p, at, (a, b, at_a, at_b, not)) =
      let e = value_listed st vs es rows p.0 a zip at_a in
      let f = value_listed st vs es rows p.1 b zip at_b in (
        k,
        p,
        at,
        (
          e.0,
          f.0,
          e.1,
          f.1,
          λ h.
              not ((both_of p.0 p.1 e.0 f.0 a b e.1 f.1 e.2 f.2).0 h),
        ),
      )

  pub each_told : (r : Bool) → MatchBool r (EachPairValues (value_of vs rows) pairs P)
      (SomePairValues (value_of vs rows) pairs (λ a b. ¬ (P a b)))
      → MatchBool r (EachPairValues (value_of vs es) pairs P)
      (SomePairValues (value_of vs es) pairs (λ e f. ¬ (P e f)))
  each_told true h = each_of h
  each_told false h = some_of h

  pub some_told : (r : Bool) → MatchBool r
      (SomePairValues (value_of vs rows) pairs (λ a b. ¬ (P a b)))
      (EachPairValues (value_of vs rows) pairs P)
      → MatchBool r (SomePairValues (value_of vs es) pairs (λ e f. ¬ (P e f)))
      (EachPairValues (value_of vs es) pairs P)
  some_told true h = some_of h
  some_told false h = each_of h
