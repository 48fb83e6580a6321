-- What is known of symbols and labels that were looked up, in the rules' words.
use Rattle.std.proofs.Common.{◌≡◌, ℕ, suc, ◌<◌, ◌≤◌, length, List, [], ◌∷◌, map, Option, Some, None}
use Rattle.std.proofs.Common.{slice_range, refl, sym, ap, ◌∙◌, subst, arith, slice_get, MatchOption}
use Rattle.std.proofs.Common.{option_map, unwrap_or, ◌≢◌, ◌⊎◌, inl, inr, ◌↔◌, IsTrue, Bool, true}
use Rattle.std.proofs.Common.{false, take, Contains, is_some, not, rules, ◌+◌, get_or, ◌++◌}
use Rattle.std.proofs.Common.{length-append}
use Rattle.std.proofs.lemmas.Option.{slice_get_within, slice_get_cases}
use Rattle.std.proofs.lemmas.List.{map-append}
use Rattle.mm_frame.specs.declared.number.Sym.{Sym}
use Rattle.mm_frame.specs.declared.tables.Entry.{Entry}
use Rattle.mm_frame.specs.declared.tables.Tables.{Tables}
use Rattle.mm_frame.specs.Sentence.{Sentence, SomeSentence, Types, Declares, IsLabelled, IsUse}
use Rattle.mm_frame.specs.Numbers.{symbols_of, AreNumbers, labelled_sentences, IsNumberOf}
use Rattle.mm_frame.specs.Mirror.Layout.{names_by, sentences_by, sentence_by, statements_of}
use Rattle.mm_frame.specs.Mirror.Layout.{AreEntries, GivesType, IsLatestIn, IsKnown, IsDeclared}
use Rattle.mm_frame.specs.Mirror.Layout.{AreInfos}
use Rattle.mm_frame.specs.Mirror.Latest.{IsLatest}
use Rattle.mm_frame.proofs.BookLists.GrownLists.{sentence_at, get_sliced}
use Rattle.mm_frame.proofs.BookLists.GrownLists.{few_statements, all_statements}
use Rattle.mm_base.proofs.Lists.{get_within, contains_from_at, at_from_contains, pushed_cases}
use Rattle.mm_base.proofs.Lists.{take_next}
use Rattle.mm_frame.proofs.Names.NameNumbers.{name_member, declared_from_number}
use Rattle.mm_frame.proofs.Names.NameNumbers.{number_from_declared, get_alike}
use Rattle.mm_base.specs.declared.statement.Kind.TheVariants.{Variables}
use Rattle.mm_frame.specs.declared.tables.SymbolInfo.{SymbolInfo}
use Rattle.mm_frame.specs.Active.{IsActive, SomeActive, IsConstant, IsVariable, IsActiveSymbol}
use Rattle.mm_frame.specs.Active.{IsTyped}
use Rattle.mm_frame.specs.Rules.{AllMeant, IsMeant}
use Rattle.mm_frame.proofs.Rules.ObeyedRules.{latest_variable, latest_typed, constant_active}
use Rattle.mm_frame.proofs.Rules.ObeyedRules.{one_role, meant_at, one_code, typed_variable}
use Rattle.mm_frame.proofs.Rules.ObeyedRules.{some_later, used_declared, declared_by_active}
use Rattle.mm_frame.proofs.Names.LabelNumbers.{numbered_from_get, numbered_get, numbered_at}
use Rattle.std.proofs.Math.Seq.{take-length}
use Rattle.std.specs.List.{FoldsTo}
use Rattle.std.specs.Iterator.{YieldsThen}
use Rattle.std.specs.Fn.{Called}
use denote.Param.Members.{Mut}
use Rattle.std.proofs.lemmas.Iterator.{YieldsList}
use Rattle.mm_base.specs.declared.token.Token.{Token}
use Rattle.mm_frame.specs.Mirror.Sought.{IsOfNumber, IsSought, AreSought, HasNumbers}
use Rattle.mm_frame.proofs.Rules.RepeatedSymbols.{SomeAt, some_says, texts_of, text_at}

-- ==== the symbols of a statement by their numbers

-- numbers within are those of their names
numbers_of_names : (names : List (List ℕ)) (numbers : List Sym) → ((i : ℕ) (n : Sym) → slice_get numbers i ≡ Some n → n.0 < length names)
    → map (slice_get names) (map (λ n. n.0) numbers) ≡ map (λ x. Some x) (names_by names numbers)
numbers_of_names names [] within = refl
numbers_of_names names (n ∷ numbers) within =
    let (x, there) = get_within names n.0 (within 0 n refl) in
    let head : slice_get names n.0 ≡ Some (unwrap_or (slice_get names n.0) []) = rw there refl in
    let tail = numbers_of_names names numbers (λ i m h. within (suc i) m h) in
    cc (head, tail)

-- the part of all symbols that an entry names has the numbers of its statement's symbols
pub numbers_at : (symbols labels : List (List ℕ)) (flat : List Sym) (log : List Entry) (index : ℕ) (e : Entry) (s : Sentence) (part : List Sym)
    → symbols ≡ symbols_of (sentences_by symbols labels flat log)
    → AreEntries symbols labels flat log → slice_get log index ≡ Some e
    → (e.symbols.start ≤ e.symbols.end → e.symbols.end ≤ length flat → part ≡ slice_range flat e.symbols.start e.symbols.end)
    → slice_get (sentences_by symbols labels flat log) index ≡ Some s
    → AreNumbers (sentences_by symbols labels flat log) (map (λ n. n.0) part) s.symbols
numbers_at symbols labels flat log index e s part all a there is said =
    let w = a.within index e there in
    let part_is : part ≡ slice_range flat e.symbols.start e.symbols.end = is w.ordered w.within in
    let same : Some (sentence_by symbols labels flat e) ≡ Some s = sym (sentence_at symbols labels flat log index e there) ∙ said in
    let says : sentence_by symbols labels flat e ≡ s = cc in
    let xs : names_by symbols (slice_range flat e.symbols.start e.symbols.end) ≡ s.symbols = ap (λ (t : Sentence). t.symbols) says in
    let within : (i : ℕ) (n : Sym) → slice_get (slice_range flat e.symbols.start e.symbols.end) i ≡ Some n → n.0 < length symbols
    = λ i n h. let (j, at) = get_sliced flat e.symbols.start e.symbols.end i n h in a.numbered j n at in
    let numbers = numbers_of_names symbols (slice_range flat e.symbols.start e.symbols.end) within in
    let whole = subst (λ (names : List (List ℕ)). map (slice_get names) (map (λ n. n.0) (slice_range flat e.symbols.start e.symbols.end)) ≡ map (λ x. Some x) (names_by symbols (slice_range flat e.symbols.start e.symbols.end))) all numbers in
    rw (part_is, ← xs) whole

-- what a look-up of a name by the first number gives
pub latest_code_says : (st : List Sentence) (names : List (List ℕ)) (numbers : List Sym) (x : List ℕ) (p : ℕ) (a : Sym) (text : Option (List ℕ)) → names ≡ symbols_of st
    → IsLatest (GivesType x) st p → ((s : Sentence) → slice_get st p ≡ Some s → AreNumbers st (map (λ n. n.0) numbers) s.symbols)
    → slice_get numbers 0 ≡ Some a → text ≡ slice_get names a.0 → (code : List ℕ) × (text ≡ Some code) × SomeSentence st (Types code x)
latest_code_says st names numbers x p a text all latest numbered first is =
    let f = latest.statement in
    let (code, types) = latest.holds in
    let e = numbered f latest.there in
    let whole : map (slice_get (symbols_of st)) (map (λ n. n.0) numbers) ≡ map (λ y. Some y) (code ∷ x ∷ []) = e ∙ ap (λ ys. map (λ y. Some y) ys) types.1 in
    let (b, at, named) = name_member (symbols_of st) numbers (code ∷ x ∷ []) 0 code whole refl in
    let joined : Some a ≡ Some b = sym first ∙ at in
    let same : a ≡ b = cc in
    (code, rw (is, all, same) named, (p, f, latest.there, types))

pub no_latest_code : (st : List Sentence) (numbers : List Sym) (x : List ℕ) (p : ℕ)
    → IsLatest (GivesType x) st p → ((s : Sentence) → slice_get st p ≡ Some s → AreNumbers st (map (λ n. n.0) numbers) s.symbols)
    → slice_get numbers 0 ≡ None → ⊥
no_latest_code st numbers x p latest numbered first =
    let (code, types) = latest.holds in
    let e = numbered latest.statement latest.there in
    let whole : map (slice_get (symbols_of st)) (map (λ n. n.0) numbers) ≡ map (λ y. Some y) (code ∷ x ∷ []) = e ∙ ap (λ ys. map (λ y. Some y) ys) types.1 in
    let (b, at, named) = name_member (symbols_of st) numbers (code ∷ x ∷ []) 0 code whole refl in
    let bad : None ≡ Some b = sym first ∙ at in
    absurd (cc)

-- there is an entry for each statement
pub entry_within : (t : Tables) (index : ℕ) (s : Sentence)
    → slice_get (statements_of t) index ≡ Some s → index < length t.log.items
entry_within t index s said =
    let lt = slice_get_within (statements_of t) index s said in
    let all = all_statements t in
    omega arith

-- what a text's look-up is, by its bytes
pub code_match : {T : Type 0} (f : T → List ℕ) (N : Type 0) (P : List ℕ → Type 0) (o : Option T) → (code : List ℕ) × (option_map f o ≡ Some code) × P code → MatchOption o N (λ t. P (f t))
code_match f N P None (code, is, holds) = absurd (cc)
code_match f N P (Some t) (code, is, holds) = let same : f t ≡ code = cc in subst P (sym same) holds

-- ==== what is known of a name, in the words of the rules of meaning

-- a symbol with a number is known
pub known_number : (st : List Sentence) (names : List (List ℕ)) (infos : List SymbolInfo) (x : List ℕ) (n : ℕ) (info : SymbolInfo) → AreInfos st names infos
    → slice_get names n ≡ Some x → slice_get infos n ≡ Some info → IsKnown st x info
known_number st names infos x n info a there known =
    record {
      declared = declared_from_number st x n (subst (λ (ns : List (List ℕ)). slice_get ns n ≡ Some x) a.all there);
      known = a.each n x info there known;
    }

-- a symbol with no number isn't declared
pub unknown : (st : List Sentence) (names : List (List ℕ)) (infos : List SymbolInfo) (x : List ℕ) → AreInfos st names infos → ¬ (Contains names x) → ¬ (IsDeclared st x)
unknown st names infos x a missing d =
    missing (subst (λ (ns : List (List ℕ)). Contains ns x) (sym a.all) (contains_from_at (symbols_of st) x (number_from_declared st x d)))

-- a variable has a latest `$v`
pub has_variable : (st : List Sentence) (x : List ℕ) (o : Option ℕ) → IsLatestIn (Declares Variables x) st o → IsTrue (is_some o) ↔ IsVariable st x
has_variable st x None h = ((λ t. absurd (cc t)), (λ v. absurd (h v)))
has_variable st x (Some p) h = ((λ t. (p, h.statement, h.there, h.holds)), (λ v. search rules))

-- a constant has none
pub has_constant : (st : List Sentence) (x : List ℕ) (info : SymbolInfo) → AllMeant st → IsKnown st x info → MatchOption info.variable (IsConstant st x) (λ p. ¬ (IsConstant st x))
has_constant st x info meant k = by info.variable k.known.variable k.declared
  where
    by : (o : Option ℕ) → IsLatestIn (Declares Variables x) st o → IsDeclared st x → MatchOption o (IsConstant st x) (λ p. ¬ (IsConstant st x))
    by None h (inl c) = c
    by None h (inr v) = absurd (h v)
    by (Some p) h d = λ c. one_role st x meant c (p, h.statement, h.there, h.holds)

-- an active sentence is one
pub some_of_active : (st : List Sentence) (P : Sentence → Type 0) → SomeActive st P → SomeSentence st P
some_of_active st P (p, s, there, active, holds) = (p, s, there, holds)

-- a symbol is active if it is a constant, or an active variable
pub active_symbol : (st : List Sentence) (x : List ℕ) → AllMeant st → IsActiveSymbol st x ↔ (IsConstant st x ⊎ SomeActive st (Declares Variables x))
active_symbol st x meant = (to, from)
  where
    to : IsActiveSymbol st x → IsConstant st x ⊎ SomeActive st (Declares Variables x)
    to (p, s, there, active, inl c) = inl (p, s, there, c)
    to (p, s, there, active, inr v) = inr (p, s, there, active, v)

    from : IsConstant st x ⊎ SomeActive st (Declares Variables x) → IsActiveSymbol st x
    from (inl c) =
        let (p, s, there, active, is) = constant_active st x meant c in
        (p, s, there, active, inl is)
    from (inr (p, s, there, active, v)) = (p, s, there, active, inr v)

-- what isn't declared has no `$f`
pub untyped : (st : List Sentence) (x : List ℕ) → AllMeant st → ¬ (IsDeclared st x) → ¬ (SomeSentence st (GivesType x))
untyped st x meant missing (p, f, there, (code, types)) =
    missing (inr (some_later st p (Declares Variables x) (typed_variable (take p st) f code x (meant_at st p f meant there) types)))

-- a label is one of the names of the labelled statements
pub label_number : (st : List Sentence) (labels : List (List ℕ)) (label : List ℕ) → map (λ s. s.label) (labelled_sentences st) ≡ map (λ l. Some l) labels
    → SomeSentence st (IsLabelled label) ↔ Contains labels label
label_number st labels label all = (
  (λ (p, s, there, named).
      let n : ℕ = length (labelled_sentences (take p st)) in
      let (l, at, same) = get_alike (λ (t : Sentence). t.label) Some (labelled_sentences st) labels
      n s all (numbered_get _ _ _ _ (numbered_at st p s there (rw named refl))) in
      let is : l ≡ label = cc in
      contains_from_at labels label (n, rw is at (at))),
  (λ c.
      let (n, at) = at_from_contains labels label c in
      let (s, there, same) = get_alike Some (λ (t : Sentence). t.label) labels
      (labelled_sentences st) n label (sym all) at in
      let (p, numbered) = numbered_from_get st n s there in
      (p, s, numbered.there, same)),
)

-- whether a look-up gave a number says whether the name is one
pub found_says : (names : List (List ℕ)) (name : List ℕ) (o : Option ℕ) → MatchOption o (¬ (Contains names name)) (λ n. slice_get names n ≡ Some name) → IsTrue (is_some o) ↔ Contains names name
found_says names name None h = ((λ t. absurd (cc t)), (λ c. absurd (h c)))
found_says names name (Some n) h = ((λ t. contains_from_at names name (n, h)), (λ c. search rules))

pub both_ways : {A B C : Type 0} → A ↔ B → B ↔ C → A ↔ C
both_ways h k = ((λ a. k.0 (h.0 a)), (λ c. h.1 (k.1 c)))

pub turned : {A B : Type 0} → A ↔ B → B ↔ A
turned h = (h.1, h.0)

-- the latest type code says whether a `$f` gave another
pub other_code : (st : List Sentence) (x code latest : List ℕ) (r : Bool) → AllMeant st → SomeSentence st (Types latest x) → (IsTrue r ↔ (latest ≢ code))
    → IsTrue r ↔ SomeSentence st (λ f. (other : List ℕ) × Types other x f × (other ≢ code))
other_code st x code latest r meant (p, f, there, types) h = (
  (λ t. (p, f, there, (latest, types, h.0 t))),
  (λ (k, g, there', (other, types', apart)). h.1 (λ same. apart (one_code st x other latest k p g f meant there' there types' types ∙ same))),
)

-- what is looked up under a symbol's number is known of it
pub known_match : (st : List Sentence) (names : List (List ℕ)) (infos : List SymbolInfo) (x : List ℕ) (n : ℕ) (o : Option SymbolInfo) → AreInfos st names infos
    → slice_get names n ≡ Some x → o ≡ slice_get infos n → MatchOption o (¬ (IsDeclared st x)) (λ info. IsKnown st x info)
known_match st names infos x n (Some info) a there is = known_number st names infos x n info a there (sym is)
known_match st names infos x n None a there is =
    let lt : n < length names = slice_get_within names n x there in
    let (info, known) = get_within infos n (let e = a.informed in omega (arith, e)) in
    absurd (cc)

-- after all statements is after the first so many
pub at_end : (st : List Sentence) (p n : ℕ) (r : Bool) → n ≡ length st → p < length st → (IsTrue r ↔ IsActive (take n st) p) → IsTrue r ↔ IsActive st p
at_end st p n r all lt h =
    let whole : take n st ≡ st = rw all (take-length st) in
    rw whole at h

-- what a look-up says of constants
pub constant_says : (st : List Sentence) (x : List ℕ) (info : SymbolInfo) (r : Bool) → AllMeant st → IsKnown st x info → is_some info.variable ≡ not r → IsTrue r ↔ IsConstant st x
constant_says st x info r meant k is = by info.variable r (has_constant st x info meant k) is
  where
    by : (o : Option ℕ) (r : Bool) → MatchOption o (IsConstant st x) (λ p. ¬ (IsConstant st x)) → is_some o ≡ not r → IsTrue r ↔ IsConstant st x
    by None true h e = ((λ t. h), (λ c. search rules))
    by (Some p) false h e = ((λ t. absurd (cc t)), (λ c. absurd (h c)))
    by o r h e = absurd cc

-- whether the latest `$v`, or `$f`, of a known variable is active says whether any is
pub variable_says : (st : List Sentence) (x : List ℕ) (info : SymbolInfo) (p : ℕ) (r : Bool)
    → AllMeant st → IsKnown st x info → info.variable ≡ Some p → (IsTrue r ↔ IsActive st p)
    → IsTrue r ↔ SomeActive st (Declares Variables x)
variable_says st x info p r meant k is h =
    both_ways h (turned (latest_variable st x p meant (rw is at k.known.variable)))

pub typed_says : (st : List Sentence) (x : List ℕ) (info : SymbolInfo) (p : ℕ) (r : Bool)
    → AllMeant st → IsKnown st x info → info.floating ≡ Some p → (IsTrue r ↔ IsActive st p)
    → IsTrue r ↔ IsTyped st x
typed_says st x info p r meant k is h =
    both_ways h (turned (latest_typed _ x _ meant (rw is at k.known.floating)))

-- the latest `$f` of a known variable
pub known_latest : (st : List Sentence) (x : List ℕ) (info : SymbolInfo) (p : ℕ) → IsKnown st x info → info.floating ≡ Some p → IsLatest (GivesType x) st p
known_latest st x info p k is = rw is at k.known.floating

pub ruleset code_steps = (
  entry_within,
  latest_code_says,
  no_latest_code,
  code_match,
  untyped,
  known_latest,
)

pub ruleset known_steps = (known_match, unknown)

pub ruleset activity_steps = (at_end, few_statements, all_statements)

-- ==== symbols that were looked up: what is said of their numbers is said of them

-- one symbol with a number is all symbols with it
pub of_number : (st : List Sentence) (x : List ℕ) (n : ℕ) (P : List ℕ → Type 0) (r : Bool) → IsNumberOf st x n → (IsTrue r ↔ P x) → IsTrue r ↔ IsOfNumber st n P
of_number st x n P r is h =
    ((λ t. (x, is, h.0 t)), (λ (y, there, p). let same : y ≡ x = cc in h.1 (subst P same p)))

-- nothing is said by a number that no symbol has
pub no_number : (st : List Sentence) (n : ℕ) (P : List ℕ → Type 0) (r : Bool) → slice_get (symbols_of st) n ≡ None → r ≡ false → IsTrue r ↔ IsOfNumber st n P
no_number st n P r none is_false = ((λ t. absurd (cc)), (λ (y, there, p). absurd (cc)))

-- what is known by a number
pub number_info : {st : List Sentence} {names : List (List ℕ)} {infos : List SymbolInfo} (n : ℕ) (o : Option SymbolInfo) → AreInfos st names infos → o ≡ slice_get infos n
    → MatchOption o (slice_get (symbols_of st) n ≡ None) (λ info. (x : List ℕ) × IsNumberOf st x n × IsKnown st x info)
number_info {st} {names} {infos} n (Some info) a is =
    let lt = slice_get_within infos n info (sym is) in
    let (x, there) = get_within names n (let e = a.informed in omega (arith, e)) in
    (x, subst (λ (ns : List (List ℕ)). slice_get ns n ≡ Some x) a.all there, known_number st names infos x n info a there (sym is))
number_info {st} {names} {infos} n None a is =
    elim (slice_get_cases names n).1 as (λ _. slice_get (symbols_of st) n ≡ None) [
      | inl (x, lt, there, at) ↦ absurd (let (info, known) = get_within infos n (let e = a.informed in omega (arith, e)) in cc)
      | inr (le, none) ↦ subst (λ (ns : List (List ℕ)). slice_get ns n ≡ None) a.all none
    ]

-- what a look-up gives
pub sought_found : (st : List Sentence) (names : List (List ℕ)) (infos : List SymbolInfo) (x : List ℕ) (n : ℕ) → AreInfos st names infos → slice_get names n ≡ Some x → IsSought st x n
sought_found st names infos x n a there = inl (subst (λ (ns : List (List ℕ)). slice_get ns n ≡ Some x) a.all there)

pub sought_missing : (st : List Sentence) (names : List (List ℕ)) (infos : List SymbolInfo) (x : List ℕ) (n : ℕ) → AreInfos st names infos → ¬ (Contains names x) → n ≡ length names → IsSought st x n
sought_missing st names infos x n a missing is =
    inr (
      unknown st names infos x a missing,
      elim (slice_get_cases names n).1 as (λ _. slice_get (symbols_of st) n ≡ None) [
        | inl (y, lt, there, at) ↦ absurd (omega arith)
        | inr (le, none) ↦ subst (λ (ns : List (List ℕ)). slice_get ns n ≡ None) a.all none
      ],
    )

-- what holds of declared symbols alone holds of a symbol if it does of the number that its look-up gave
pub same_by_number : (st : List Sentence) (P : List ℕ → Type 0) (x : List ℕ) (n : ℕ) → IsSought st x n → (¬ (IsDeclared st x) → ¬ (P x)) → IsOfNumber st n P ↔ P x
same_by_number st P x n (inl is) never =
    ((λ (y, there, p). let same : y ≡ x = cc in subst P same p), (λ p. (x, is, p)))
same_by_number st P x n (inr (missing, none)) never = ((λ (y, there, p). absurd (cc)), (λ p. absurd (never missing p)))

pub constant_by_number : (st : List Sentence) (x : List ℕ) (n : ℕ) → IsSought st x n → IsOfNumber st n (λ y. IsConstant st y) ↔ IsConstant st x
constant_by_number st x n sought = same_by_number st (λ y. IsConstant st y) x n sought (λ missing c. missing (inl c))

pub variable_by_number : (st : List Sentence) (x : List ℕ) (n : ℕ) → IsSought st x n → IsOfNumber st n (λ y. IsVariable st y) ↔ IsVariable st x
variable_by_number st x n sought = same_by_number st (λ y. IsVariable st y) x n sought (λ missing v. missing (inr v))

pub active_by_number : (st : List Sentence) (x : List ℕ) (n : ℕ) → IsSought st x n → IsOfNumber st n (λ y. IsActiveSymbol st y) ↔ IsActiveSymbol st x
active_by_number st x n sought = same_by_number st (λ y. IsActiveSymbol st y) x n sought
    (λ missing a. missing (declared_by_active st x a))

pub typed_by_number : (st : List Sentence) (x : List ℕ) (n : ℕ) → AllMeant st → IsSought st x n → IsOfNumber st n (λ y. IsTyped st y) ↔ IsTyped st x
typed_by_number st x n meant sought =
    same_by_number st (λ y. IsTyped st y) x n sought (λ missing typed. untyped st x meant missing (some_of_active st (GivesType x) typed))

pub neither : {A B : Type 0} → A ↔ B → (¬ A) ↔ (¬ B)
neither h = ((λ no b. no (h.1 b)), (λ no a. no (h.0 a)))

pub both : {A B C D : Type 0} → A ↔ B → C ↔ D → (A × C) ↔ (B × D)
both h k = ((λ (a, c). (h.0 a, k.0 c)), (λ (b, d). (h.1 b, k.1 d)))

-- some number is so if some symbol is
some_sought : (st : List Sentence) (ns : List ℕ) (xs : List (List ℕ)) (Q : ℕ → Type 0) (P : List ℕ → Type 0) → AreSought st ns xs → ((x : List ℕ) (n : ℕ) → IsSought st x n → Q n ↔ P x)
    → SomeAt ns Q ↔ ((x : List ℕ) × Contains xs x × P x)
some_sought st ns xs Q P are same = (
  (λ (k, n, there, q).
      let lt = slice_get_within ns k n there in
      let (x, at) = get_within xs k (let e = are.count in omega (arith, e)) in
      (x, contains_from_at xs x (k, at), (same x n (are.each k n x there at)).0 q)),
  (λ (x, c, p).
      let (k, at) = at_from_contains xs x c in
      let lt = slice_get_within xs k x at in
      let (n, there) = get_within ns k (let e = are.count in omega (arith, e)) in
      (k, n, there, (same x n (are.each k n x there at)).1 p)),
)

-- what `any` answers over the numbers of symbols, where the closure answers by the number whether P holds of the symbol
pub number_says : {S A F : Type 0} {steps : S → Option A → S → Type 0} {v : A → Sym} {g : Mut F (A × Unit {0}) Bool} {s : S} {all : List Sym} (st : List Sentence) (symbols : List (List ℕ)) (Q : ℕ → Type 0) (P : List ℕ → Type 0) (u : S) (f : F) (r : Bool)
    → (xs : List A) × (o : Option A) × (j : F) × YieldsThen steps s xs o u × FoldsTo (λ p x q. Called g p (x, tt) false q) f xs j × MatchOption o (r ≡ false) (λ x. (r ≡ true) × ((h : F) × Called g j (x, tt) true h))
    → YieldsList steps v s all → AreSought st (map (λ n. n.0) all) symbols → ((x : List ℕ) (n : ℕ) → IsSought st x n → Q n ↔ P x)
    → ((x : A) (b : Bool) (q : F) → Called g f (x, tt) b q → (q ≡ f) × (IsTrue b ↔ Q ((v x).0))) → IsTrue r ↔ ((x : List ℕ) × Contains symbols x × P x)
number_says {all = all} st symbols Q P u f r ran list are same calls =
    both_ways (some_says (λ (n : Sym). n.0) Q u f r ran list calls) (some_sought st _ symbols Q P are same)

-- one more was looked up
sought_pushed : (st : List Sentence) (ns : List ℕ) (xs : List (List ℕ)) (n : ℕ) (x : List ℕ) → AreSought st ns xs → IsSought st x n → AreSought st (ns ++ n ∷ []) (xs ++ x ∷ [])
sought_pushed st ns xs n x are is = record {
  count = let a = length-append ns (n ∷ []) in let b = length-append xs (x ∷ []) in let e = are.count in omega (arith, a, b, e);
  each = λ i m y there at.
      elim (pushed_cases ns n i m there) [
        | inl before ↦ elim (pushed_cases xs x i y at) [
          | inl there' ↦ are.each i m y before there'
          | inr (last, same) ↦ absurd (let lt = slice_get_within ns i m before in let e = are.count in omega (arith, e))
        ]
        | inr (last, same) ↦ elim (pushed_cases xs x i y at) [
          | inl before ↦ absurd (let lt = slice_get_within xs i y before in let e = are.count in omega (arith, e))
          | inr (last', same') ↦ subst (λ k. IsSought st y k) same (subst (λ z. IsSought st z n) same' is)
        ]
      ];
}

pub sought_more : (st : List Sentence) (numbers : List Sym) (n : Sym) (tokens : List Token) (i : ℕ) (d : Token) → i < length tokens
    → AreSought st (map (λ n. n.0) numbers) (take i (texts_of tokens)) → IsSought st (get_or tokens i d).text.now n.0
    → AreSought st (map (λ n. n.0) (numbers ++ n ∷ [])) (take (i + 1) (texts_of tokens))
sought_more st numbers n tokens i d lt are is =
    let x = (get_or tokens i d).text.now in
    let one : i + 1 ≡ suc i = omega arith in
    let next : take (i + 1) (texts_of tokens) ≡ take i (texts_of tokens) ++ x ∷ [] =
    ap (λ k. take k (texts_of tokens)) one ∙ take_next (texts_of tokens) i x (text_at tokens i d lt) in
    rw (map-append (λ (m : Sym). m.0) numbers (n ∷ [])) (rw next (sought_pushed _ _ _ n.0 x are is))

-- the numbers of declared symbols
numbers_each : (st : List Sentence) (ns : List ℕ) (xs : List (List ℕ)) → length ns ≡ length xs
    → ((i n : ℕ) (x : List ℕ) → slice_get ns i ≡ Some n → slice_get xs i ≡ Some x → IsNumberOf st x n) → AreNumbers st ns xs
numbers_each st [] [] count each = refl
numbers_each st [] (x ∷ xs) count each = absurd (omega (arith, count))
numbers_each st (n ∷ ns) [] count each = absurd (omega (arith, count))
numbers_each st (n ∷ ns) (x ∷ xs) count each =
    let rest = numbers_each st ns xs (omega (arith, count)) (λ i m y there at. each (suc i) m y there at) in
    let first = each 0 n x refl refl in
    ap (λ o. o ∷ map (slice_get (symbols_of st)) ns) first ∙ ap (λ os. Some x ∷ os) rest

pub numbers_found : (st : List Sentence) (ns : List ℕ) (xs : List (List ℕ)) → AreSought st ns xs → ((x : List ℕ) → Contains xs x → IsDeclared st x) → AreNumbers st ns xs
numbers_found st ns xs are all = numbers_each st ns xs are.count (λ i n x there at.
    elim (are.each i n x there at) [
      | inl is ↦ is
      | inr (missing, none) ↦ absurd (missing (all x (contains_from_at xs x (i, at))))
    ])

-- the numbers of what a statement uses that breaks no rule
pub numbers_used : (st : List Sentence) (s : Sentence) (ns : List ℕ) → HasNumbers st ns s → IsMeant st s → IsUse s.kind → AreNumbers st ns s.symbols
numbers_used st s ns has meant used = numbers_found st ns s.symbols (has.sought used) (λ x there. used_declared st s x meant used there)

-- the first number says what the first symbol is
pub first_says : (st : List Sentence) (numbers : List Sym) (xs : List (List ℕ)) (n : Sym) (r : Bool) → AreSought st (map (λ n. n.0) numbers) xs → slice_get numbers 0 ≡ Some n
    → (IsTrue r ↔ IsOfNumber st n.0 (λ y. IsVariable st y)) → IsTrue r ↔ ((first : List ℕ) × (others : List (List ℕ)) × (xs ≡ first ∷ others) × IsVariable st first)
first_says st [] xs n r are there h = absurd (cc)
first_says st (m ∷ numbers) [] n r are there h = absurd (let e = are.count in omega (arith, e))
first_says st (m ∷ numbers) (x ∷ xs) n r are there h =
    let is : m ≡ n = cc in
    let one = both_ways h (variable_by_number st x n.0 (rw is at (are.each 0 m.0 x refl refl))) in (
      (λ t. (x, xs, refl, one.0 t)),
      (λ (first, others, same, v). let e : first ≡ x = cc in one.1 (rw e at v)),
    )

pub no_first : (st : List Sentence) (numbers : List Sym) (xs : List (List ℕ)) → AreSought st (map (λ n. n.0) numbers) xs → slice_get numbers 0 ≡ None
    → ¬ ((first : List ℕ) × (others : List (List ℕ)) × (xs ≡ first ∷ others) × IsVariable st first)
no_first st (m ∷ numbers) xs are none h = absurd (cc)
no_first st [] [] are none (first, others, same, v) = absurd (cc)
no_first st [] (x ∷ xs) are none h = absurd (let e = are.count in omega (arith, e))

pub ruleset sought_steps = (sought_found, sought_missing)

pub ruleset typed_steps = (
  typed_says,
  some_of_active,
  known_latest,
  of_number,
  no_number,
  number_info,
  slice_get_within,
)
