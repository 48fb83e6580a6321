-- Variables that two expressions share, by numbers and by names: what distinct pairs forbid.
use Rattle.std.proofs.Common.{ℕ, List, refl, ◌≡◌, zero, suc, ◌+◌, ◌<◌, ◌≤◌, [], ◌∷◌, length, take}
use Rattle.std.proofs.Common.{drop, get_or, slice_get, Contains, Bool, true, false, not, Option}
use Rattle.std.proofs.Common.{Some, IsTrue, MatchBool, inl, inr, ⊎_elim, sym, ap, subst, ◌∙◌, arith}
use Rattle.mm_frame.specs.Sentence.{Sentence, Declares}
use Rattle.mm_frame.proofs.Frames.FrameLaws.{distinct_other}
use Rattle.mm_step.specs.Tree.{ShareNoVariable, AreDistinct}
use Rattle.std.proofs.lemmas.Bool.{false≢true, cases_lt}
use Rattle.std.proofs.lemmas.List.{length-map, get_or-map, get_or_default}
use Rattle.mm_base.proofs.Lists.{all_weaker}
use Rattle.mm_base.specs.declared.statement.Kind.TheVariants.{Constants, Variables}
use Rattle.mm_frame.specs.declared.distinct.DistinctPair.{DistinctPair}
use Rattle.mm_frame.specs.declared.number.Sym.{Sym}
use Rattle.mm_frame.specs.Active.{IsVariable}
use Rattle.mm_frame.specs.Rules.{AllMeant}
use Rattle.mm_frame.specs.Numbers.{symbols_of}
use Rattle.mm_frame.specs.Laws.{OneNumber}
use Rattle.mm_step.specs.Stores.{numbers_in}
use Rattle.mm_step.specs.Mirror.CodeVerify.{name_at, names_at, IsSymbol, AreDeclaredSymbols}
use Rattle.mm_step.specs.Mirror.CodeVerify.{AreBelow, IsDisjointFromEach, AreStackEntries, value_of}
use Rattle.mm_step.specs.Mirror.CodeVerify.{EachValues, SomeValues, pairs_in}
use Rattle.std.proofs.lemmas.Option.{same_Some, slice_get-map, slice_get-get_or}
use Rattle.mm_frame.specs.Frame.{IsDistinct}
use Rattle.mm_frame.proofs.Rules.DecidedStatements.{distinct_dec}
use Rattle.mm_frame.proofs.Rules.ObeyedRules.{some_later, one_role}
use Rattle.mm_step.proofs.ByNumbers.NumberedSymbols.{one_name, within_at, all_rest, value_all}

-- ==== pairs of expressions that are judged in the other order

module _ (before : List Sentence) (e f : List (List ℕ)) where
  -- what is said of a pair's replacements holds in either order
  pub share_turned : ShareNoVariable before e f → ShareNoVariable before f e
  share_turned h u v a b = h u v b a

  -- expressions that are distinct share no variable: none is an active pair with itself
  pub distinct_share_none : AreDistinct before e f → ShareNoVariable before e f
  distinct_share_none distinct u variable in_e in_f = (distinct u u variable variable in_e in_f).0 refl

  pub apart_turned : AreDistinct before e f → AreDistinct before f e
  apart_turned h u v p q a b = distinct_other before v u (h v u q p b a)

-- ==== variables that two expressions share, by numbers and by names

pub number_at : (symbols : List Sym) (k : ℕ) (d : Sym) → k < length symbols → get_or (numbers_in symbols) k 0 ≡ (get_or symbols k d).0
number_at symbols k d less = get_or-map (λ s. s.0) symbols k d 0 less

-- numbers of symbols are below the count
pub symbols_below : (st before : List Sentence) (ns : List ℕ) → AreDeclaredSymbols st before ns → AreBelow st ns
symbols_below st before ns all = all_weaker (IsSymbol st before) _ (λ n s. s.below) ns all

pub symbol_at : (st before : List Sentence) (ns : List ℕ) (k : ℕ) → AreDeclaredSymbols st before ns → k < length ns → IsSymbol st before (get_or ns k 0)
symbol_at st before ns k all less = within_at (IsSymbol st before) ns k 0 all less

-- a variable of all statements that was declared before is a variable of those before
pub variable_before : (st : List Sentence) (index n : ℕ) → AllMeant st
    → IsSymbol st (take index st) n → IsVariable st (name_at st n)
    → ¬ (¬ (IsVariable (take index st) (name_at st n)))
variable_before st index n all s variable none =
    s.declared (λ d. ⊎_elim (λ c. one_role st (name_at st n) all (some_later st index (Declares Constants (name_at st n)) c) variable) none d)

-- a name stands among the names as the number does among the numbers
pub named_has : (st : List Sentence) (ns : List ℕ) (n : ℕ) → Contains ns n → Contains (names_at st ns) (name_at st n)
named_has st ns n (k, less, is) = (
  k,
  omega (arith, less, length-map ns (name_at st)),
  get_or-map (name_at st) ns k n (name_at st n) less ∙ ap (name_at st) is,
)

pub has_named : (st : List Sentence) (ns : List ℕ) (u : List ℕ) → Contains (names_at st ns) u → (k : ℕ) × (k < length ns) × (name_at st (get_or ns k 0) ≡ u)
has_named st ns u (k, less, is) =
    let within : k < length ns = omega (arith, less, length-map ns (name_at st)) in
    (k, within, sym (get_or-map (name_at st) ns k 0 u within) ∙ is)

-- the number at an index is one of the numbers
pub number_among : (ns : List ℕ) (k : ℕ) → k < length ns → Contains ns (get_or ns k 0)
number_among ns k less = (k, less, get_or_default ns k (get_or ns k 0) 0 less)

-- a shared variable
pub shared_told : (st : List Sentence) (index : ℕ) (e f : List ℕ) (k : ℕ) → AllMeant st → AreDeclaredSymbols st (take index st) e → k < length e
    → IsVariable st (name_at st (get_or e k 0)) → Contains f (get_or e k 0) → ¬ (ShareNoVariable (take index st) (names_at st e) (names_at st f))
shared_told st index e f k all symbols less variable has none =
    variable_before st index (get_or e k 0) all (symbol_at st (take index st) e k symbols less) variable
    (λ v. none (name_at st (get_or e k 0)) v (named_has st e (get_or e k 0) (number_among e k less)) (named_has st f (get_or e k 0) has))

-- no variable is shared
pub not_shared_told : OneNumber → (st : List Sentence) (index : ℕ) (e f : List ℕ) → AreDeclaredSymbols st (take index st) e → AreDeclaredSymbols st (take index st) f
    → ((k : ℕ) → k < length e → IsVariable st (name_at st (get_or e k 0)) → ¬ (Contains f (get_or e k 0))) → ShareNoVariable (take index st) (names_at st e) (names_at st f)
not_shared_told one st index e f se sf none u variable in_e in_f =
    let i = has_named st e u in_e in
    let j = has_named st f u in_f in
    let bi = (symbol_at st (take index st) e i.0 se i.1).below in
    let bj = (symbol_at st (take index st) f j.0 sf j.1).below in
    let same = one_name one st (get_or f j.0 0) (get_or e i.0 0) bj bi (j.2 ∙ sym i.2) in
    none i.0 i.1 (subst (IsVariable st) (sym i.2) (some_later st index (Declares Variables u) variable)) (subst (Contains f) same (number_among f j.0 j.1))

pub and_told : (V H : Type 0) (r : Bool) → (IsTrue r → H) → (H → IsTrue r) → V → MatchBool r (V × H) (V → ¬ H)
and_told V H true to from v = (v, to refl)
and_told V H false to from v = λ w h. false≢true (from h)

pub not_told : (V H : Type 0) (r : Bool) → r ≡ false → (V → IsTrue r) → MatchBool r (V × H) (V → ¬ H)
not_told V H true is from = absurd (false≢true (sym is))
not_told V H false is from = λ v h. false≢true (from v)

-- none of them up to the end
pub none_has : (ns : List ℕ) (n i : ℕ) → length ns ≤ i → ((k : ℕ) → k < i → get_or ns k 0 ≡ n → ⊥) → ¬ (Contains ns n)
none_has ns n i all none has =
    let within : has.0 < length ns = has.1 in
    none has.0 (omega arith) (get_or_default ns has.0 0 n within ∙ has.2)

pub ruleset symbol_steps = (number_at, none_has)

pub symbol_below : (st before : List Sentence) (e : List Sym) (k : ℕ) (d : Sym) → AreDeclaredSymbols st before (numbers_in e) → k < length e → (get_or e k d).0 < length (symbols_of st)
symbol_below st before e k d all less =
    subst (λ n. n < length (symbols_of st)) (number_at e k d less) (symbol_at st before (numbers_in e) k all (omega (arith, length-map e (λ s. s.0)))).below

pub apart_free : (V D : Type 0) (r : Bool) → r ≡ false → (V → IsTrue r) → MatchBool (not r) (V → D) (¬ (V → D))
apart_free V D true is from = absurd (false≢true (sym is))
apart_free V D false is from = λ v. absurd (false≢true (from v))

pub apart_told : (V D : Type 0) (q : Bool) → (IsTrue q → D) → (D → IsTrue q) → V → MatchBool q (V → D) (¬ (V → D))
apart_told V D true to from v = λ w. to refl
apart_told V D false to from v = λ f. false≢true (from (f v))

-- each of the one is apart from each of the other: the expressions are distinct
pub distinct_told : (st : List Sentence) (index : ℕ) (e f : List ℕ) → ((k : ℕ) → k < length e → IsDisjointFromEach st index f (get_or e k 0)) → AreDistinct (take index st) (names_at st e) (names_at st f)
distinct_told st index e f each u v var_u var_v in_e in_f =
    let i = has_named st e u in_e in
    let j = has_named st f v in_f in
    let d = each i.0 i.1 (subst (IsVariable st) (sym i.2) (some_later st index (Declares Variables u) var_u)) j.0 j.1 (subst (IsVariable st) (sym j.2) (some_later st index (Declares Variables v) var_v)) in
    subst (λ (x : List ℕ). IsDistinct (take index st) x v) i.2 (subst (λ (y : List ℕ). IsDistinct (take index st) (name_at st (get_or e i.0 0)) y) j.2 d)

-- one that isn't: they aren't
pub near_told : (st : List Sentence) (index : ℕ) (e f : List ℕ) (k : ℕ) → AllMeant st → AreDeclaredSymbols st (take index st) e → AreDeclaredSymbols st (take index st) f → k < length e
    → ¬ (IsDisjointFromEach st index f (get_or e k 0)) → ¬ (AreDistinct (take index st) (names_at st e) (names_at st f))
near_told st index e f k all se sf less near distinct =
    near (λ var_u j in_f var_v.
    decided (distinct_dec (take index st) (name_at st (get_or e k 0)) (name_at st (get_or f j 0)))
    (variable_before st index (get_or e k 0) all (symbol_at st (take index st) e k se less) var_u)
    (variable_before st index (get_or f j 0) all (symbol_at st (take index st) f j sf in_f) var_v)
    (λ u v. distinct (name_at st (get_or e k 0)) (name_at st (get_or f j 0)) u v (named_has st e _ (number_among e k less)) (named_has st f _ (number_among f j in_f))))
  where
    decided : {D U V : Type 0} → Dec D → ¬ (¬ U) → ¬ (¬ V) → (U → V → D) → D
    decided (yes d) u v f = d
    decided (no n) u v f = absurd (u (λ x. v (λ y. n (f x y))))

-- what follows the type code of an entry has symbols
pub entry_symbols : (st before : List Sentence) (es : List (List ℕ)) (i : ℕ) → AreStackEntries st before es → AreDeclaredSymbols st before (drop 1 (get_or es i []))
entry_symbols st before [] i all = tt
entry_symbols st before (e ∷ es) zero all = all_rest (IsSymbol st before) e all.0
entry_symbols st before (e ∷ es) (suc i) all = entry_symbols st before es i all.1

-- what replaces a symbol has symbols
pub value_symbols : (st before : List Sentence) (vs : List (Option ℕ)) (es : List (List ℕ)) (n : ℕ) (v : List ℕ) → AreStackEntries st before es → value_of vs es n ≡ Some v → AreDeclaredSymbols st before v
value_symbols st before vs es n v all is = value_all (IsSymbol st before) vs es n v all is

module _ (σ : ℕ → Option (List ℕ)) (x y : ℕ) (e f : List ℕ) (P : List ℕ → List ℕ → Type 0) where
  -- the one pair of values is so or not
  pub values_told : (r : Bool) → σ x ≡ Some e → σ y ≡ Some f → MatchBool r (¬ (P e f)) (P e f)
      → MatchBool r (SomeValues σ x y (λ a b. ¬ (P a b))) (EachValues σ x y P)
  values_told true at_x at_y h = (e, f, at_x, at_y, h)
  values_told false at_x at_y h =
      λ a b p q. subst (λ l. P l b) (same_Some e a (sym at_x ∙ p)) (subst (P e) (same_Some f b (sym at_y ∙ q)) h)

  pub values_apart : (r : Bool) → σ x ≡ Some e → σ y ≡ Some f → MatchBool r (P e f) (¬ (P e f))
      → MatchBool r (EachValues σ x y P) (SomeValues σ x y (λ a b. ¬ (P a b)))
  values_apart true at_x at_y h =
      λ a b p q. subst (λ l. P l b) (same_Some e a (sym at_x ∙ p)) (subst (P e) (same_Some f b (sym at_y ∙ q)) h)
  values_apart false at_x at_y h = (e, f, at_x, at_y, h)

pub pair_at : (pairs : List DistinctPair) (k : ℕ) (d : DistinctPair) → k < length pairs → slice_get (pairs_in pairs) k ≡ Some ((get_or pairs k d).variables.0.0, (get_or pairs k d).variables.1.0)
pair_at pairs k d less = rw (slice_get-map, slice_get-get_or pairs k d less)

pub pairs_more : (σ : ℕ → Option (List ℕ)) (pairs : List DistinctPair) (P : List ℕ → List ℕ → Type 0) (n : ℕ) (d : DistinctPair) → n < length pairs
    → ((k : ℕ) (p : ℕ × ℕ) → k < n → slice_get (pairs_in pairs) k ≡ Some p → EachValues σ p.0 p.1 P) → EachValues σ (get_or pairs n d).variables.0.0 (get_or pairs n d).variables.1.0 P
    → (k : ℕ) (p : ℕ × ℕ) → k < n + 1 → slice_get (pairs_in pairs) k ≡ Some p → EachValues σ p.0 p.1 P
pairs_more σ pairs P n d less below here k p lt at = elim (cases_lt k n) [
  | inl l ↦ below k p l at
  | inr m ↦
      let same : k ≡ n = omega arith in
      let one = same_Some ((get_or pairs n d).variables.0.0, (get_or pairs n d).variables.1.0) p (sym (pair_at pairs n d less) ∙ ap (slice_get (pairs_in pairs)) (sym same) ∙ at) in
      subst (λ (q : ℕ × ℕ). EachValues σ q.0 q.1 P) one here
]

-- what a pair that isn't there is read as
abbrev pub no_pair : DistinctPair
no_pair = record { variables = (record { 0 = 0 }, record { 0 = 0 }); indices = (0, 0) }

pub pairs_length : (pairs : List DistinctPair) → length (pairs_in pairs) ≡ length pairs
pairs_length pairs = length-map pairs _
