-- The parts of a step as the code takes them, by numbers: they mirror the code.
use Rattle.std.specs.Prelude.{◌≡◌, ◌≢◌, ℕ, ◌<◌, List, [], ◌∷◌, map, take, drop, length}
use Rattle.std.specs.Prelude.{slice_get, slice_index_or, Option, Some, None}
use Rattle.std.specs.Prelude.{true, option_map, is_some, unwrap_or, if◌then◌else◌, ◌⊎◌}
use Rattle.std.specs.List.{flat_map, AllByRecursion, AllZip}
use Rattle.mm_base.specs.declared.statement.Kind.TheVariants.{Floating, Essential}
use Rattle.mm_step.specs.Substitution.{Substitution, instance_of}
use Rattle.mm_frame.specs.declared.distinct.DistinctPair.{DistinctPair}
use Rattle.mm_frame.specs.Pieces.{is_of}
use Rattle.mm_frame.specs.Sentence.{Sentence, Types}
use Rattle.mm_frame.specs.Active.{IsConstant, IsVariable}
use Rattle.mm_frame.specs.Frame.{IsDistinct}
use Rattle.mm_frame.specs.Numbers.{symbols_of, labelled_sentences, IsNumberOf}

-- the symbol with a number, and the symbols with these numbers
abbrev pub name_at : List Sentence → ℕ → List ℕ
name_at statements n = slice_index_or (symbols_of statements) n []

abbrev pub names_at : List Sentence → List ℕ → List (List ℕ)
names_at statements ns = map (name_at statements) ns

abbrev pub all_names_at : List Sentence → List (List ℕ) → List (List (List ℕ))
all_names_at statements entries = map (λ e. map (name_at statements) e) entries

-- the number is that of a symbol that was declared before
pub record IsSymbol (statements before : List Sentence) (n : ℕ) : Type 0 where
  pub below : n < length (symbols_of statements)
  pub declared : ¬
      (¬ (IsConstant before (name_at statements n) ⊎ IsVariable before (name_at statements n)))

abbrev pub AreDeclaredSymbols : List Sentence → List Sentence → List ℕ → Type 0
AreDeclaredSymbols statements before ns = AllByRecursion (IsSymbol statements before) ns

abbrev pub AreStackEntries : List Sentence → List Sentence → List (List ℕ) → Type 0
AreStackEntries statements before entries =
    AllByRecursion (AreDeclaredSymbols statements before) entries

-- what replaces the symbol with this number: what follows the first symbol of the entry of its `$f`
abbrev pub value_of : List (Option ℕ) → List (List ℕ) → ℕ → Option (List ℕ)
value_of [] entries n = None
value_of (v ∷ variables) [] n = None
value_of (v ∷ variables) (e ∷ entries) n =
    if is_of n v then Some (drop 1 e) else value_of variables entries n

-- the numbers with each variable replaced
abbrev pub replaced_in : (ℕ → Option (List ℕ)) → List ℕ → List ℕ
replaced_in σ ns = flat_map (λ n. unwrap_or (σ n) (n ∷ [])) ns

-- each hypothesis is a `$f`
abbrev pub EachIsSome : List (Option ℕ) → Type 0
EachIsSome variables =
    (k : ℕ) → k < length variables → is_some (slice_index_or variables k None) ≡ true

-- the numbers of the hypotheses
abbrev pub AreHypothesesOf : List Sentence → List ℕ → List Sentence → Type 0
AreHypothesesOf statements ids hypotheses =
    map (slice_get (labelled_sentences statements)) ids ≡ map Some hypotheses

-- the number of the variable of a `$f`, and none for another statement
abbrev pub IsVariableOf : List Sentence → Option ℕ → Sentence → Type 0
IsVariableOf statements None h = ¬ (h.kind ≡ Floating)
IsVariableOf statements (Some n) h =
    (code : List ℕ) × (x : List ℕ) × Types code x h × IsNumberOf statements x n

abbrev pub AreVariablesOf : List Sentence → List (Option ℕ) → List Sentence → Type 0
AreVariablesOf statements variables hypotheses =
    AllZip (IsVariableOf statements) variables hypotheses

-- the numbers are those of symbols
abbrev pub AreBelow : List Sentence → List ℕ → Type 0
AreBelow statements ns = AllByRecursion (λ n. n < length (symbols_of statements)) ns

-- the type code of a `$f` is the first symbol of its entry
abbrev pub IsRightCode : Sentence → List (List ℕ) → Type 0
IsRightCode h entry = h.kind ≡ Floating → slice_get entry 0 ≡ slice_get h.symbols 0

-- each hypothesis and its entry are so
abbrev pub EachEntry : List Sentence → List (List (List ℕ)) → (Sentence → List (List ℕ) → Type 0)
    → Type 0
EachEntry hypotheses entries P =
    (i : ℕ) (h : Sentence) (entry : List (List ℕ)) → slice_get hypotheses i ≡ Some h
    → slice_get entries i ≡ Some entry → P h entry

-- the type code of a `$f` isn't the first symbol of its entry
abbrev pub IsWrongCode : Sentence → List (List ℕ) → Type 0
IsWrongCode h entry = (h.kind ≡ Floating) × (slice_get entry 0 ≢ slice_get h.symbols 0)

-- the entry is the `$e` with each variable replaced
abbrev pub IsEqual : Substitution → Sentence → List (List ℕ) → Type 0
IsEqual σ h entry = h.kind ≡ Essential → entry ≡ instance_of σ h.symbols

-- it isn't
abbrev pub IsUnequal : Substitution → Sentence → List (List ℕ) → Type 0
IsUnequal σ h entry = (h.kind ≡ Essential) × (entry ≢ instance_of σ h.symbols)

-- what replaces symbols by names is what does by numbers
abbrev pub Replaces : List Sentence → Substitution → List (Option ℕ)
    → List (List ℕ) → Type 0
Replaces statements σ variables entries =
    (n : ℕ) → n < length (symbols_of statements)
    → σ (name_at statements n) ≡ option_map (names_at statements) (value_of variables entries n)

-- if the second is a variable, both are an active pair at the index
abbrev pub IsDisjoint : List Sentence → ℕ → ℕ → ℕ → Type 0
IsDisjoint statements index m n =
    IsVariable statements (name_at statements n)
    → IsDistinct (take index statements) (name_at statements m) (name_at statements n)

-- if the symbol is a variable, it and each variable of these are
abbrev pub IsDisjointFromEach : List Sentence → ℕ → List ℕ → ℕ → Type 0
IsDisjointFromEach statements index ns m =
    IsVariable statements (name_at statements m) → (k : ℕ) → k < length ns
    → IsDisjoint statements index m (slice_index_or ns k 0)

-- what replaces two symbols, if something does, is so
abbrev pub EachValues : (ℕ → Option (List ℕ)) → ℕ → ℕ → (List ℕ → List ℕ → Type 0) → Type 0
EachValues σ x y P = (e f : List ℕ) → σ x ≡ Some e → σ y ≡ Some f → P e f

abbrev pub SomeValues : (ℕ → Option (List ℕ)) → ℕ → ℕ → (List ℕ → List ℕ → Type 0) → Type 0
SomeValues σ x y P = (e : List ℕ) × (f : List ℕ) × (σ x ≡ Some e) × (σ y ≡ Some f) × P e f

-- the variables of distinct pairs, by numbers
abbrev pub pairs_in : List DistinctPair → List (ℕ × ℕ)
pairs_in pairs = map (λ p. (p.variables.0.0, p.variables.1.0)) pairs

abbrev pub EachPairValues : (ℕ → Option (List ℕ)) → List (ℕ × ℕ) → (List ℕ → List ℕ → Type 0)
    → Type 0
EachPairValues σ pairs P = (k : ℕ) (p : ℕ × ℕ) → slice_get pairs k ≡ Some p → EachValues σ p.0 p.1 P

abbrev pub SomePairValues : (ℕ → Option (List ℕ)) → List (ℕ × ℕ) → (List ℕ → List ℕ → Type 0)
    → Type 0
SomePairValues σ pairs P =
    (k : ℕ) × (p : ℕ × ℕ) × (slice_get pairs k ≡ Some p) × SomeValues σ p.0 p.1 P
