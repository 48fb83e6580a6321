-- Which symbol of a statement breaks a rule: the names that stand before an index, as they are
-- read, and that a symbol breaks each rule that isn't of a block or a label.
use Rattle.std.proofs.Common.{◌≡◌, ◌≢◌, ◌↔◌, ℕ, suc, ◌+◌, ◌<◌, ◌≤◌, length, List, [], ◌∷◌, ◌++◌}
use Rattle.std.proofs.Common.{take, slice_get, get_or, Contains, Bool, IsTrue, Option, Some}
use Rattle.std.proofs.Common.{MatchOption, is_some, ◌⊎◌, inl, inr, ⊎_elim, refl, sym, ap, ◌∙◌, subst}
use Rattle.std.proofs.Common.{arith, length-append}
use Rattle.std.proofs.lemmas.List.{length-map}
use Rattle.std.proofs.lemmas.Option.{slice_get_within}
use Rattle.std.proofs.str.Laws.{order}
use Rattle.mm_base.specs.declared.statement.Statement.{Statement}
use Rattle.mm_base.specs.declared.token.Token.{Token}
use Rattle.mm_base.proofs.Lists.{at_from_contains, contains_from_at, take_next, get_after, get_kept}
use Rattle.mm_base.proofs.Lists.{get_in_front}
use Rattle.mm_base.proofs.Lists.{pushed_cases}
use Rattle.mm_frame.specs.declared.rule.MeaningRule.{MeaningRule}
use Rattle.mm_frame.specs.declared.rule.MeaningRule.TheVariants.{M1, M2, M3, M4, M5, M6, M7, M8, M9}
use Rattle.mm_frame.specs.declared.rule.MeaningRule.TheVariants.{M10, M11, M12, M13, M14, M15}
use Rattle.mm_frame.specs.Sentence.{Sentence, Types, StandsTwice, sentence_in}
use Rattle.mm_frame.specs.Rules.{Breaks}
use Rattle.mm_frame.specs.Breaking.{StandsEarlier, SymbolBreaks, IsOfNoSymbol}
use Rattle.mm_frame.specs.Numbers.{with_name}
use Rattle.mm_frame.proofs.Names.NameNumbers.{with_name_cases}
use Rattle.mm_frame.proofs.Rules.RepeatedSymbols.{texts, texts_of, text_at}
use Rattle.mm_frame.proofs.Rules.SymbolLookups.{found_says, both_ways}

-- ==== the names that stand before an index

-- what stands in a list and one more
pushed_says : (xs : List (List ℕ)) (x y : List ℕ) → Contains (xs ++ x ∷ []) y ↔ (Contains xs y ⊎ (x ≡ y))
pushed_says xs x y = (
  (λ c.
      let (i, there) = at_from_contains _ y c in
      elim (pushed_cases xs x i y there) [
        | inl before ↦ inl (contains_from_at xs y (i, before))
        | inr (last, same) ↦ inr same
      ]),
  (λ either. ⊎_elim
      (λ c. let (i, there) = at_from_contains xs y c in
      contains_from_at _ y (i, get_kept xs (x ∷ []) i y there))
      (λ same. contains_from_at _ y (length xs + 0, get_after xs (x ∷ []) 0 y (ap Some same)))
      either),
)

-- what is among names once one is taken in
added_says : (names : List (List ℕ)) (x y : List ℕ) → Contains (with_name names x) y ↔ (Contains names y ⊎ (x ≡ y))
added_says names x y = elim (with_name_cases names x) [
  | inl (found, same) ↦ (
    (λ c. inl (subst (λ (ns : List (List ℕ)). Contains ns y) same c)),
    (λ either. subst (λ (ns : List (List ℕ)). Contains ns y) (sym same)
        (⊎_elim (λ c. c) (λ is. contains_from_at names y (found.0, found.1 ∙ ap Some is)) either)),
  )
  | inr (absent, longer) ↦ subst (λ (ns : List (List ℕ)). Contains ns y ↔ (Contains names y ⊎ (x ≡ y))) (sym longer) (pushed_says names x y)
]

pub added_few : (names : List (List ℕ)) (x : List ℕ) (n : ℕ) → length names ≤ n → length (with_name names x) ≤ n + 1
added_few names x n few = elim (with_name_cases names x) [
  | inl (found, same) ↦ let e = ap length same in omega arith
  | inr (absent, longer) ↦ let e = ap length longer in let f = length-append names (x ∷ []) in omega arith
]

-- the symbol at an index, as its token spells it
pub symbol_at : (s : Statement) (tokens : List Token) (i : ℕ) (d : Token) → tokens ≡ s.symbols.items → i < length tokens → slice_get (sentence_in s).symbols i ≡ Some (get_or tokens i d).text.now
symbol_at s tokens i d same lt =
    let all : (sentence_in s).symbols ≡ texts_of tokens = texts s.symbols.items ∙ ap texts_of (sym same) in
    subst (λ (xs : List (List ℕ)). slice_get xs i ≡ Some (get_or tokens i d).text.now) (sym all) (text_at tokens i d lt)

-- there are as many symbols as tokens
pub symbol_within : (s : Statement) (i : ℕ) (x : List ℕ) → slice_get (sentence_in s).symbols i ≡ Some x → i < length s.symbols.items
symbol_within s i x there =
    let lt = slice_get_within (sentence_in s).symbols i x there in
    let e = ap length (texts s.symbols.items) in
    let f = length-map s.symbols.items (λ (t : Token). t.text.now) in
    omega arith

-- the names are those of the symbols before an index
abbrev pub AreSeen : List (List ℕ) → ℕ → List (List ℕ) → Type 0
AreSeen symbols n names = (x : List ℕ) → Contains names x ↔ Contains (take n symbols) x

pub one_more_seen : (symbols names : List (List ℕ)) (i : ℕ) (x : List ℕ) → slice_get symbols i ≡ Some x → AreSeen symbols i names → AreSeen symbols (i + 1) (with_name names x)
one_more_seen symbols names i x there seen y =
    let next : suc i ≡ i + 1 = omega arith in
    let longer = subst (λ (k : ℕ). take k symbols ≡ take i symbols ++ x ∷ []) next (take_next symbols i x there) in
    let more = subst (λ (xs : List (List ℕ)). Contains xs y ↔ (Contains (take i symbols) y ⊎ (x ≡ y))) (sym longer) (pushed_says (take i symbols) x y) in
    let added = added_says names x y in (
      (λ c. more.1 (⊎_elim (λ before. inl ((seen y).0 before)) (λ is. inr is) (added.0 c))),
      (λ c. added.1 (⊎_elim (λ before. inl ((seen y).1 before)) (λ is. inr is) (more.0 c))),
    )

-- whether the name of a symbol was found says whether it stands earlier
pub earlier_says : (s : Sentence) (names : List (List ℕ)) (i : ℕ) (x : List ℕ) (o : Option ℕ) (r : Bool) → AreSeen s.symbols i names → r ≡ is_some o
    → MatchOption o (¬ (Contains names x)) (λ n. slice_get names n ≡ Some x) → IsTrue r ↔ StandsEarlier s i x
earlier_says s names i x o r seen is found =
    both_ways (subst (λ (b : Bool). IsTrue b ↔ Contains names x) (sym is) (found_says names x o found)) (seen x)

-- none of the first symbols breaks the rule, nor does the next
pub none_of_next : (P : ℕ → List ℕ → Type 0) (symbols : List (List ℕ)) (n : ℕ) (x : List ℕ) → slice_get symbols n ≡ Some x
    → ((i : ℕ) (y : List ℕ) → i < n → slice_get symbols i ≡ Some y → ¬ (P i y)) → ¬ (P n x) → (i : ℕ) (y : List ℕ) → i < n + 1 → slice_get symbols i ≡ Some y → ¬ (P i y)
none_of_next P symbols n x here none unbroken i y lt there broken =
    ⊎_elim (λ less. none i y less there broken) (λ from.
    let is : i ≡ n = omega arith in
    let at = subst (λ (k : ℕ). slice_get symbols k ≡ Some y) is there in
    let same : y ≡ x = cc in
    unbroken (subst (λ (k : ℕ). P k x) is (subst (λ (z : List ℕ). P i z) same broken))) (order i n)

-- ==== a symbol that breaks the rule

-- some symbol breaks the rule, by its index
abbrev pub SomeBreaks : MeaningRule → List Sentence → Sentence → Type 0
SomeBreaks rule before s = (index : ℕ) × (x : List ℕ) × (slice_get s.symbols index ≡ Some x) × SymbolBreaks rule before s index x

-- what holds of a symbol of the statement holds of one at an index
symbol_breaks : (rule : MeaningRule) (before : List Sentence) (s : Sentence) (x : List ℕ) → Contains s.symbols x → ((i : ℕ) → SymbolBreaks rule before s i x) → SomeBreaks rule before s
symbol_breaks rule before s x has breaks = let (i, there) = at_from_contains s.symbols x has in (i, x, there, breaks i)

-- the later of two symbols that are the same stands behind the earlier
twice_breaks : (rule : MeaningRule) (before : List Sentence) (s : Sentence) (x : List ℕ) (twice : StandsTwice s.symbols x) → (StandsEarlier s twice.j x → SymbolBreaks rule before s twice.j x) → SomeBreaks rule before s
twice_breaks rule before s x twice breaks =
    (twice.j, x, twice.at_j, breaks (contains_from_at (take twice.j s.symbols) x (twice.i, get_in_front s.symbols twice.j twice.i x twice.apart twice.at_i)))

-- the type code and the variable of a `$f`
code_breaks : (rule : MeaningRule) (before : List Sentence) (s : Sentence) (code x : List ℕ) → Types code x s → SymbolBreaks rule before s 0 code → SomeBreaks rule before s
code_breaks rule before s code x types breaks = (0, code, ap (λ (xs : List (List ℕ)). slice_get xs 0) types.1, breaks)

variable_breaks : (rule : MeaningRule) (before : List Sentence) (s : Sentence) (code x : List ℕ) → Types code x s → SymbolBreaks rule before s 1 x → SomeBreaks rule before s
variable_breaks rule before s code x types breaks = (1, x, ap (λ (xs : List (List ℕ)). slice_get xs 1) types.1, breaks)

-- a rule that the statement breaks is broken by a symbol, or it is of no symbol
pub some_breaks : (rule : MeaningRule) (before : List Sentence) (s : Sentence) → Breaks rule before s → IsOfNoSymbol rule ⊎ SomeBreaks rule before s
some_breaks M1 before s broken = inl (inl refl)
some_breaks M2 before s (kind, (x, has, inl c)) = inr (symbol_breaks M2 before s x has (λ i. inl c))
some_breaks M2 before s (kind, (x, has, inr (inl v))) = inr (symbol_breaks M2 before s x has (λ i. inr (inl v)))
some_breaks M2 before s (kind, (x, has, inr (inr twice))) = inr (twice_breaks M2 before s x twice (λ e. inr (inr e)))
some_breaks M3 before s (kind, (x, has, inl v)) = inr (symbol_breaks M3 before s x has (λ i. inl v))
some_breaks M3 before s (kind, (x, has, inr (inl c))) = inr (symbol_breaks M3 before s x has (λ i. inr (inl c)))
some_breaks M3 before s (kind, (x, has, inr (inr twice))) = inr (twice_breaks M3 before s x twice (λ e. inr (inr e)))
some_breaks M4 before s (kind, (x, has, labelled)) = inr (symbol_breaks M4 before s x has (λ i. labelled))
some_breaks M5 before s broken = inl (inr (inl refl))
some_breaks M6 before s broken = inl (inr (inr refl))
some_breaks M7 before s (kind, (x, has, inactive)) = inr (symbol_breaks M7 before s x has (λ i. inactive))
some_breaks M8 before s (kind, (x, has, c)) = inr (symbol_breaks M8 before s x has (λ i. c))
some_breaks M9 before s (kind, (x, has, twice)) = inr (twice_breaks M9 before s x twice (λ e. e))
some_breaks M10 before s (code, x, types, v) = inr (code_breaks M10 before s code x types refl)
some_breaks M11 before s (code, x, types, c) = inr (variable_breaks M11 before s code x types refl)
some_breaks M12 before s (code, x, types, typed) = inr (variable_breaks M12 before s code x types refl)
some_breaks M13 before s (code, x, types, other) = inr (variable_breaks M13 before s code x types refl)
some_breaks M14 before s (stated, (x, others, is, v)) = inr (0, x, ap (λ (xs : List (List ℕ)). slice_get xs 0) is, refl)
some_breaks M15 before s (stated, (x, has, untyped)) = inr (symbol_breaks M15 before s x has (λ i. untyped))

-- so some symbol breaks a rule that isn't of a block or a label
pub not_none : (rule : MeaningRule) (before : List Sentence) (s : Sentence) → Breaks rule before s → rule ≢ M1 → rule ≢ M5 → rule ≢ M6
    → ((index : ℕ) (x : List ℕ) → slice_get s.symbols index ≡ Some x → ¬ (SymbolBreaks rule before s index x)) → ⊥
not_none rule before s broken not_m1 not_m5 not_m6 none = elim (some_breaks rule before s broken) [
  | inl (inl is) ↦ not_m1 is
  | inl (inr (inl is)) ↦ not_m5 is
  | inl (inr (inr is)) ↦ not_m6 is
  | inr (index, x, there, breaks) ↦ none index x there breaks
]
