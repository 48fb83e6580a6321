-- Names in lists: each stands once among the declared symbols, and keeps its number.
use Rattle.std.proofs.Common.{◌≡◌, ℕ, zero, suc, ◌<◌, inl, inr, List, [], ◌∷◌, ◌++◌, map, length}
use Rattle.std.proofs.Common.{Option, Some, None, Contains, refl, sym, ap, ◌∙◌, subst, arith}
use Rattle.std.proofs.Common.{MatchOption, Result, Ok, Err, IsOk, IfOk, bytes_eq, ◌⊎◌, true}
use Rattle.std.proofs.Common.{append-nil, ◌+◌, get_or, if◌then◌else◌, option_map}
use Rattle.std.specs.List.{slice_get, position, position_or_len, fold, flat_map, list_any}
use Rattle.std.proofs.lemmas.Slice.Eq.{bytes_eq-Decides}
use Rattle.std.proofs.lemmas.Option.{slice_get_within, slice_get-get_or, slice_get-map}
use Rattle.std.proofs.lemmas.Option.{get_or_from_slice_get}
use Rattle.std.proofs.lemmas.Bool.{cases_lt, false≢true, lt-ltb, cases_Bool}
use Rattle.mm_frame.specs.declared.number.Sym.{Sym}
use Rattle.std.proofs.lemmas.List.Quantifiers.{position-Some}
use Rattle.mm_base.proofs.Lists.{pushed_cases, get_kept, get_pushed, append_cases, get_after}
use Rattle.mm_base.proofs.Lists.{at_from_contains, contains_from_at}
use Rattle.std.proofs.lemmas.List.Sums.{fails_before_first, fold-append}
use Rattle.std.proofs.lemmas.List.Concat.{flat_map-append}
use Rattle.mm_base.specs.declared.statement.Kind.{Kind}
use Rattle.mm_base.specs.declared.statement.Kind.TheVariants.{Constants, Variables}
use Rattle.mm_frame.specs.Sentence.{Sentence, SomeSentence, Declares}
use Rattle.mm_frame.specs.Active.{IsConstant, IsVariable}
use Rattle.mm_frame.specs.Numbers.{declared_in, declared_by, with_name, symbols_of}
use Rattle.std.proofs.lemmas.List.Folds.{Any-from_list_any, list_any_at}

-- ==== names in lists of keys, by their bytes

-- what a name's index among keys says of the names
pub index_of_name : (name : List ℕ) (xs : List (List ℕ)) (o : Option ℕ) → position (bytes_eq name) xs ≡ o
    → MatchOption o (¬ (Contains xs name)) (λ n. slice_get xs n ≡ Some name)
index_of_name name xs None is = λ (k, lt, same).
    elim (cases_lt (position_or_len (bytes_eq name) xs) (length xs)) [
      | inl within ↦ absurd (let e = rw (lt-ltb _ _ within) at is in cc)
      | inr past ↦ false≢true (sym (fails_before_first (bytes_eq name) xs k name (omega arith))
          ∙ (bytes_eq-Decides name _).1 (sym same))
    ]
index_of_name name xs (Some n) is =
    let (lt, passes, before) = position-Some (bytes_eq name) xs n name is in
    slice_get-get_or xs n name lt ∙ ap Some (sym ((bytes_eq-Decides name _).0 passes))

-- what holds of the value of a success
pub holds_if_ok : {T E : Type 0} (r : Result T E) (P : Type 0) → IsOk r → IfOk r (λ _. P) → P
holds_if_ok (Ok x) P ok h = h
holds_if_ok (Err e) P ok h = absurd (cc ok)

-- the element at an index of a mapped list
pub get_mapped : {X Y : Type 0} (f : X → Y) (xs : List X) (i : ℕ) (x : X) → slice_get xs i ≡ Some x → slice_get (map f xs) i ≡ Some (f x)
get_mapped f xs i x there = slice_get-map f xs i ∙ ap (option_map f) there

pub get_unmapped : {X Y : Type 0} (f : X → Y) (xs : List X) (i : ℕ) (y : Y) → slice_get (map f xs) i ≡ Some y → (x : X) × (slice_get xs i ≡ Some x) × (f x ≡ y)
get_unmapped f [] i y there = absurd (cc)
get_unmapped f (z ∷ xs) zero y there = (z, refl, cc)
get_unmapped f (z ∷ xs) (suc i) y there = get_unmapped f xs i y there

-- where two lists map to one, beside an element of the one stands one of the other
pub get_alike : {X Y Z : Type 0} (f : X → Z) (g : Y → Z) (xs : List X) (ys : List Y) (i : ℕ) (x : X)
    → map f xs ≡ map g ys → slice_get xs i ≡ Some x → (y : Y) × (slice_get ys i ≡ Some y)
    × (g y ≡ f x)
get_alike f g xs ys i x same there = get_unmapped g ys i (f x)
    (subst (λ zs. slice_get zs i ≡ Some (f x)) same (get_mapped f xs i x there))

-- the name of a member with one of some numbers, and the number of a name
pub member_name : (names : List (List ℕ)) (members : List Sym) (symbols : List (List ℕ)) (u : ℕ)
    (a : Sym) → map (slice_get names) (map (λ n. n.0) members) ≡ map Some symbols
    → slice_get members u ≡ Some a
    → (x : List ℕ) × (slice_get symbols u ≡ Some x) × (slice_get names a.0 ≡ Some x)
member_name names members symbols u a are there =
    let number = get_mapped (λ (n : Sym). n.0) members u a there in
    let (x, at, same) = get_alike (slice_get names) Some _ symbols u a.0 are number in
    (x, at, sym same)

pub name_member : (names : List (List ℕ)) (members : List Sym) (symbols : List (List ℕ)) (u : ℕ)
    (x : List ℕ) → map (slice_get names) (map (λ n. n.0) members) ≡ map Some symbols
    → slice_get symbols u ≡ Some x
    → (a : Sym) × (slice_get members u ≡ Some a) × (slice_get names a.0 ≡ Some x)
name_member names members symbols u x are there =
    let (n, at, named) = get_alike Some (slice_get names) symbols _ u x (sym are) there in
    let (a, at_a, same) = get_unmapped (λ (n : Sym). n.0) members u n at in
    (a, at_a, subst (λ n. slice_get names n ≡ Some x) (sym same) named)

-- the number of one is below how many names there are
pub numbers_within : (names : List (List ℕ)) (members : List Sym) (symbols : List (List ℕ))
    → map (slice_get names) (map (λ n. n.0) members) ≡ map Some symbols
    → (i : ℕ) (n : Sym) → slice_get members i ≡ Some n → n.0 < length names
numbers_within names members symbols are i n there =
    let (x, in_it, at) = member_name names members symbols i n are there in
    slice_get_within names n.0 x at

-- what holds of each element, and of the one that is added
pub each_pushed : {X : Type 0} (P : X → Type 0) (xs : List X) (y : X)
    → ((i : ℕ) (x : X) → slice_get xs i ≡ Some x → P x) → P y
    → (i : ℕ) (x : X) → slice_get (xs ++ y ∷ []) i ≡ Some x → P x
each_pushed P xs y each last i x there = elim (pushed_cases xs y i x there) [
  | inl before ↦ each i x before
  | inr (at_end, same) ↦ subst P same last
]

-- ==== numbers of symbols: each name stands once among the declared symbols, and keeps its index as
-- statements are added

-- an element stands at some index
abbrev pub At : {X : Type 0} → List X → X → Type 0
At xs x = (i : ℕ) × (slice_get xs i ≡ Some x)

-- what the test whether a name is among names tells
found_at : (name : List ℕ) (names : List (List ℕ)) → list_any (bytes_eq name) names ≡ true → At names name
found_at name names found =
    let (k, x, lt, is, passes) = Any-from_list_any (bytes_eq name) names found in
    let same = (bytes_eq-Decides name x).0 passes in
    at_from_contains names name (k, lt, ap (λ d. get_or names k d) same ∙ is ∙ sym same)

found_from : (name : List ℕ) (names : List (List ℕ)) (i : ℕ) → slice_get names i ≡ Some name → list_any (bytes_eq name) names ≡ true
found_from name names i there =
    list_any_at (bytes_eq name) names i name (slice_get_within names i name there)
    ((bytes_eq-Decides name _).1 (sym (get_or_from_slice_get names i name name there)))

-- a name is among the names already, or is put at their end
pub with_name_cases : (names : List (List ℕ)) (name : List ℕ) → (At names name × (with_name names name ≡ names)) ⊎ (¬ (At names name) × (with_name names name ≡ names ++ name ∷ []))
with_name_cases names name = elim (cases_Bool (list_any (bytes_eq name) names)) [
  | inl found ↦ inl (found_at name names found, ap (λ b. if b then names else (names ++ name ∷ [])) found)
  | inr absent ↦ inr ((λ (i, there). let t = found_from name names i there in cc), ap (λ b. if b then names else (names ++ name ∷ [])) absent)
]

-- no name stands twice
abbrev pub StandOnce : {X : Type 0} → List X → Type 0
StandOnce {X} xs = (i j : ℕ) (x : X) → slice_get xs i ≡ Some x → slice_get xs j ≡ Some x → i ≡ j

pub once_pushed : {X : Type 0} (xs : List X) (y : X) → StandOnce xs → ¬ (At xs y) → StandOnce (xs ++ y ∷ [])
once_pushed xs y once absent i j x at_i at_j = elim (pushed_cases xs y i x at_i) [
  | inl i_before ↦ elim (pushed_cases xs y j x at_j) [
    | inl j_before ↦ once i j x i_before j_before
    | inr (j_last, same) ↦ absurd (absent (i, i_before ∙ ap (λ z. Some z) (sym same)))
  ]
  | inr (i_last, same) ↦ elim (pushed_cases xs y j x at_j) [
    | inl j_before ↦ absurd (absent (j, j_before ∙ ap (λ z. Some z) (sym same)))
    | inr (j_last, same') ↦ i_last ∙ sym j_last
  ]
]

pub once_with_name : (names : List (List ℕ)) (name : List ℕ) → StandOnce names → StandOnce (with_name names name)
once_with_name names name once = elim (with_name_cases names name) [
  | inl (found, same) ↦ subst (λ (xs : List (List ℕ)). StandOnce xs) (sym same) once
  | inr (absent, longer) ↦ subst (λ (xs : List (List ℕ)). StandOnce xs) (sym longer) (once_pushed names name once absent)
]

once_fold : (names more : List (List ℕ)) → StandOnce names → StandOnce (fold with_name names more)
once_fold names [] once = once
once_fold names (x ∷ more) once = once_fold (with_name names x) more (once_with_name names x once)

-- a name stays at its index
pub kept_with_name : (names : List (List ℕ)) (name : List ℕ) (i : ℕ) (x : List ℕ) → slice_get names i ≡ Some x → slice_get (with_name names name) i ≡ Some x
kept_with_name names name i x there = elim (with_name_cases names name) [
  | inl (found, same) ↦ subst (λ xs. slice_get xs i ≡ Some x) (sym same) there
  | inr (absent, longer) ↦ subst (λ xs. slice_get xs i ≡ Some x) (sym longer) (get_kept names (name ∷ []) i x there)
]

pub kept_fold : (names more : List (List ℕ)) (i : ℕ) (x : List ℕ) → slice_get names i ≡ Some x → slice_get (fold with_name names more) i ≡ Some x
kept_fold names [] i x there = there
kept_fold names (y ∷ more) i x there = kept_fold (with_name names y) more i x (kept_with_name names y i x there)

-- a name that is put in is there
put_with_name : (names : List (List ℕ)) (name : List ℕ) → At (with_name names name) name
put_with_name names name = elim (with_name_cases names name) [
  | inl (found, same) ↦ subst (λ xs. At xs name) (sym same) found
  | inr (absent, longer) ↦ subst (λ xs. At xs name) (sym longer) (length names, get_pushed names name)
]

put_fold : (names more : List (List ℕ)) (i : ℕ) (x : List ℕ) → slice_get more i ≡ Some x → At (fold with_name names more) x
put_fold names [] i x there = absurd (cc)
put_fold names (y ∷ more) zero x there =
    let (k, at) = put_with_name names y in
    let same : y ≡ x = cc in
    (k, kept_fold (with_name names y) more k x (at ∙ ap (λ z. Some z) same))
put_fold names (y ∷ more) (suc i) x there = put_fold (with_name names y) more i x there

-- what is there was there, or is put in
from_with_name : (names : List (List ℕ)) (name : List ℕ) (i : ℕ) (x : List ℕ) → slice_get (with_name names name) i ≡ Some x → At names x ⊎ (name ≡ x)
from_with_name names name i x there = elim (with_name_cases names name) [
  | inl (found, same) ↦ inl (i, subst (λ xs. slice_get xs i ≡ Some x) same there)
  | inr (absent, longer) ↦ elim (pushed_cases names name i x (subst (λ xs. slice_get xs i ≡ Some x) longer there)) [
    | inl before ↦ inl (i, before)
    | inr (last, is) ↦ inr is
  ]
]

from_fold : (names more : List (List ℕ)) (i : ℕ) (x : List ℕ) → slice_get (fold with_name names more) i ≡ Some x → At names x ⊎ At more x
from_fold names [] i x there = inl (i, there)
from_fold names (y ∷ more) i x there = elim (from_fold (with_name names y) more i x there) [
  | inl (j, before) ↦ elim (from_with_name names y j x before) [ inl old ↦ inl old | inr same ↦ inr (0, ap (λ z. Some z) same) ]
  | inr (j, after) ↦ inr (suc j, after)
]

pub symbols_append : (st more : List Sentence) → symbols_of (st ++ more) ≡ fold with_name (symbols_of st) (flat_map declared_by more)
unfolding symbols_of
symbols_append st more = ap (fold with_name []) (flat_map-append declared_by st more) ∙ fold-append with_name [] (flat_map declared_by st) (flat_map declared_by more)

pub symbols_push : (st : List Sentence) (e : Sentence) → symbols_of (st ++ e ∷ []) ≡ fold with_name (symbols_of st) (declared_by e)
symbols_push st e = symbols_append st (e ∷ []) ∙ ap (fold with_name (symbols_of st)) (append-nil (declared_by e))

pub symbols_unique : (st : List Sentence) (i j : ℕ) (x : List ℕ) → slice_get (symbols_of st) i ≡ Some x → slice_get (symbols_of st) j ≡ Some x → i ≡ j
unfolding symbols_of
symbols_unique st = once_fold [] (flat_map declared_by st) (λ i j x at_i at_j. absurd (cc))

pub symbols_grow : (st more : List Sentence) (i : ℕ) (x : List ℕ) → slice_get (symbols_of st) i ≡ Some x → slice_get (symbols_of (st ++ more)) i ≡ Some x
symbols_grow st more i x there = subst (λ xs. slice_get xs i ≡ Some x) (sym (symbols_append st more)) (kept_fold (symbols_of st) (flat_map declared_by more) i x there)

-- what is declared
in_declared : (kind : Kind) (symbols : List (List ℕ)) (x : List ℕ) → At (declared_in kind symbols) x → ((kind ≡ Constants) ⊎ (kind ≡ Variables)) × At symbols x
in_declared Constants symbols x at = (inl refl, at)
in_declared Variables symbols x at = (inr refl, at)
in_declared kind symbols x (i, there) = absurd (cc)

-- one statement more to the left
further : (s : Sentence) (st : List Sentence) (P : Sentence → Type 0) → SomeSentence st P → SomeSentence (s ∷ st) P
further s st P (i, t, there, holds) = (suc i, t, there, holds)

declared_from : (st : List Sentence) (x : List ℕ) (i : ℕ) → slice_get (flat_map declared_by st) i ≡ Some x → IsConstant st x ⊎ IsVariable st x
declared_from [] x i there = absurd (cc)
declared_from (s ∷ st) x i there = elim (append_cases (declared_by s) (flat_map declared_by st) i x there) [
  | inl here ↦
      let (kind, at) = in_declared s.kind s.symbols x (i, here) in
      let in_it = contains_from_at s.symbols x at in
      elim kind [
        | inl constants ↦ inl (0, s, refl, (constants, in_it))
        | inr variables ↦ inr (0, s, refl, (variables, in_it))
      ]
  | inr (j, is, after) ↦ elim (declared_from st x j after) [
    | inl constant ↦ inl (further s st (Declares Constants x) constant)
    | inr variable ↦ inr (further s st (Declares Variables x) variable)
  ]
]

declared_at : (st : List Sentence) (x : List ℕ) (p : ℕ) (s : Sentence) → slice_get st p ≡ Some s → At (declared_by s) x → At (flat_map declared_by st) x
declared_at [] x p s there at = absurd (cc)
declared_at (t ∷ st) x zero s there (i, at) =
    let same : t ≡ s = cc in
    (i, get_kept (declared_by t) (flat_map declared_by st) i x (subst (λ u. slice_get (declared_by u) i ≡ Some x) (sym same) at))
declared_at (t ∷ st) x (suc p) s there at =
    let (i, put) = declared_at st x p s there at in
    (length (declared_by t) + i, get_after (declared_by t) (flat_map declared_by st) i x put)

-- the numbers are those of the declared symbols
pub number_from_declared : (st : List Sentence) (x : List ℕ) → IsConstant st x ⊎ IsVariable st x → At (symbols_of st) x
unfolding symbols_of
number_from_declared st x (inl (p, s, there, (kind, in_it))) =
    let (k, at) = at_from_contains s.symbols x in_it in
    let (i, put) = declared_at st x p s there (k, subst (λ kind. slice_get (declared_in kind s.symbols) k ≡ Some x) (sym kind) at) in
    put_fold [] (flat_map declared_by st) i x put
number_from_declared st x (inr (p, s, there, (kind, in_it))) =
    let (k, at) = at_from_contains s.symbols x in_it in
    let (i, put) = declared_at st x p s there (k, subst (λ kind. slice_get (declared_in kind s.symbols) k ≡ Some x) (sym kind) at) in
    put_fold [] (flat_map declared_by st) i x put

pub declared_from_number : (st : List Sentence) (x : List ℕ) (i : ℕ) → slice_get (symbols_of st) i ≡ Some x → IsConstant st x ⊎ IsVariable st x
unfolding symbols_of
declared_from_number st x i there = elim (from_fold [] (flat_map declared_by st) i x there) [
  | inl (j, nowhere) ↦ absurd (cc)
  | inr (j, at) ↦ declared_from st x j at
]

-- the same numbers are those of the same symbols, and the same symbols have the same numbers
pub same_somes : {X : Type 0} (xs ys : List X) → map (λ x. Some x) xs ≡ map (λ x. Some x) ys
    → xs ≡ ys
same_somes [] [] e = refl
same_somes (x ∷ xs) (y ∷ ys) e =
    let more = same_somes xs ys cc in
    cc
same_somes xs ys e = absurd cc

pub ruleset adding_steps = (holds_if_ok, with_name_cases)
