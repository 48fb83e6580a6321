-- General lemmas on lists, on pairs of lists, on choices and on results. None of them names
-- anything of this crate, and those that the crates above need too stand here.
use Rattle.std.proofs.Common.{◌≡◌, ℕ, zero, suc, ◌+◌, ◌<◌, List, [], ◌∷◌, ◌++◌, map, length, take}
use Rattle.std.proofs.Common.{drop, set, get_or, refl, ap, sym, subst, ◌∙◌, ◌⊎◌, inl, inr, Some}
use Rattle.std.proofs.Common.{None, Option, option_map, arith, Bool, true, false, cond, filter}
use Rattle.std.proofs.Common.{Contains, zero-add, suc-add, Result, Ok, Err, IfErr, IsErrAnd}
use Rattle.std.proofs.Common.{slice_get, length-take, length-append, take_at, drop_at}
use Rattle.std.specs.List.{AllByRecursion, AllZip, list_any}
use Rattle.std.proofs.lemmas.List.{length-map, get_or-map}
use Rattle.std.proofs.lemmas.List.Elements.{All-filter, All-from_recursion, All-from_get_or}
use Rattle.std.proofs.lemmas.List.Elements.{recursion_from_All}
use Rattle.std.proofs.lemmas.Slice.Zip.{AllZip-long}
use Rattle.std.proofs.lemmas.List.Folds.{list_any_at}
use Rattle.std.proofs.lemmas.Option.{same_Some, none-some, slice_get_within, slice_get_read}
use Rattle.std.proofs.lemmas.Option.{get_or_from_slice_get}

-- ---- choices

-- two choices by one test
pub both_choices : {A B : Type 0} (R : A → B → Type 0) (b c : Bool) (x y : A) (u v : B) → b ≡ c
    → R x u → R y v → R (cond b x y) (cond c u v)
both_choices R true true x y u v e h k = h
both_choices R false false x y u v e h k = k
both_choices R _ _ x y u v e h k = absurd cc

pub choice_mapped : {A B C : Type 0} (f : A → C) (g : B → C) (c : Bool) (x y : A) (u v : B)
    → f x ≡ g u → f y ≡ g v → f (cond c x y) ≡ g (cond c u v)
choice_mapped f g c x y u v h k = both_choices (λ a b. f a ≡ g b) c c x y u v refl h k

-- nothing, where what is made of it is nothing
pub unmapped : {A B : Type 0} (f : A → B) (o : Option A) → option_map f o ≡ None → o ≡ None
unmapped f None e = refl
unmapped f (Some x) e = absurd cc

-- ---- lists from their parts

-- a first element and the others
pub cons_parts : {A : Type 0} (x y : A) (xs ys : List A) → x ∷ xs ≡ y ∷ ys → (x ≡ y) × (xs ≡ ys)
cons_parts x y xs ys e = (cc, cc)

pub nil_append : {A : Type 0} (prefix : List A) (x : A) (rest : List A) → [] ≡ prefix ++ x ∷ rest → ⊥
nil_append [] x rest e = absurd cc
nil_append (y ∷ prefix) x rest e = absurd cc

-- how two cuts of a list stand to each other
pub two_cuts : {A : Type 0} (a : List A) (x : A) (b c : List A) (y : A) (d : List A)
    → a ++ x ∷ b ≡ c ++ y ∷ d
    → ((a ≡ c) × (x ≡ y) × (b ≡ d)) ⊎ ((mid : List A) × (c ≡ a ++ x ∷ mid) × (b ≡ mid ++ y ∷ d))
    ⊎ ((mid : List A) × (a ≡ c ++ y ∷ mid) × (d ≡ mid ++ x ∷ b))
two_cuts [] x b [] y d e = inl (refl, cc, cc)
two_cuts [] x b (z ∷ c) y d e = inr (inl (c, cc, cc))
two_cuts (z ∷ a) x b [] y d e = inr (inr (a, cc, cc))
two_cuts (z ∷ a) x b (w ∷ c) y d e = elim (two_cuts a x b c y d cc) [
  | inl h ↦ inl (cc, h.1, h.2)
  | inr (inl h) ↦ inr (inl (h.0, cc, h.2))
  | inr (inr h) ↦ inr (inr (h.0, cc, h.2))
]

-- where an element stands in a list with one more at its end
pub last_cut : {A : Type 0} (pre : List A) (x : A) (before : List A) (y : A) (after : List A)
    → pre ++ x ∷ [] ≡ before ++ y ∷ after
    → ((mid : List A) × (pre ≡ before ++ y ∷ mid)) ⊎ ((before ≡ pre) × (x ≡ y))
last_cut pre x before y after e = elim (two_cuts pre x [] before y after e) [
  | inl same ↦ inr (sym same.0, same.1)
  | inr (inl past) ↦ absurd (nil_append past.0 y after past.2)
  | inr (inr within) ↦ inl (within.0, within.1)
]

-- ---- elements

-- there is an element at each index within
pub get_within : {A : Type 0} (xs : List A) (i : ℕ) → i < length xs → (x : A)
    × (slice_get xs i ≡ Some x)
get_within [] i lt = absurd (omega arith)
get_within (z ∷ xs) zero lt = (z, refl)
get_within (z ∷ xs) (suc i) lt = get_within xs i (omega arith)

-- an element stays at its index when more is appended
pub get_kept : {A : Type 0} (xs ys : List A) (i : ℕ) (x : A) → slice_get xs i ≡ Some x
    → slice_get (xs ++ ys) i ≡ Some x
get_kept [] ys i x there = absurd (cc)
get_kept (z ∷ xs) ys zero x there = there
get_kept (z ∷ xs) ys (suc i) x there = get_kept xs ys i x there

-- an element before the end stays what it was
pub get_before : {A : Type 0} (xs ys : List A) (i : ℕ) (x : A) → i < length xs
    → slice_get (xs ++ ys) i ≡ Some x → slice_get xs i ≡ Some x
get_before xs ys i x lt there =
    let (y, at) = get_within xs i lt in at ∙ sym (get_kept xs ys i y at) ∙ there

-- the element between two parts
pub get_parted : {A : Type 0} (xs ys : List A) (x : A)
    → slice_get (xs ++ x ∷ ys) (length xs) ≡ Some x
get_parted [] ys x = refl
get_parted (z ∷ xs) ys x = get_parted xs ys x

-- the one element more
pub get_pushed : {A : Type 0} (xs : List A) (y : A) → slice_get (xs ++ y ∷ []) (length xs) ≡ Some y
get_pushed xs y = get_parted xs [] y

-- one element stands at an index
pub one_there : {A : Type 0} (xs : List A) (i : ℕ) (x y : A) → slice_get xs i ≡ Some x
    → slice_get xs i ≡ Some y → x ≡ y
one_there xs i x y at_x at_y = same_Some x y (sym at_x ∙ at_y)

-- an element after one was written
pub get_set_same : {A : Type 0} (xs : List A) (i : ℕ) (y : A) → i < length xs
    → slice_get (set xs i y) i ≡ Some y
get_set_same [] i y lt = absurd (omega arith)
get_set_same (z ∷ xs) zero y lt = refl
get_set_same (z ∷ xs) (suc i) y lt = get_set_same xs i y (omega arith)

-- and any element then
pub get_set_cases : {A : Type 0} (xs : List A) (i j : ℕ) (y x : A)
    → slice_get (set xs i y) j ≡ Some x → ((j ≡ i) × (y ≡ x))
    ⊎ (¬ (j ≡ i) × (slice_get xs j ≡ Some x))
get_set_cases [] i j y x there = absurd (cc)
get_set_cases (z ∷ xs) zero zero y x there = inl (refl, cc)
get_set_cases (z ∷ xs) zero (suc j) y x there = inr ((λ e. omega arith), there)
get_set_cases (z ∷ xs) (suc i) zero y x there = inr ((λ e. omega arith), there)
get_set_cases (z ∷ xs) (suc i) (suc j) y x there =
    elim (get_set_cases xs i j y x there) [
      | inl (same, value) ↦ inl (ap suc same, value)
      | inr (apart, old) ↦ inr ((λ e. apart (omega arith)), old)
    ]

-- the prefix before the element at an index, and the element
pub take_next : {A : Type 0} (xs : List A) (i : ℕ) (x : A) → slice_get xs i ≡ Some x
    → take (suc i) xs ≡ take i xs ++ x ∷ []
take_next [] i x there = absurd (cc)
take_next (z ∷ xs) zero x there = let e : z ≡ x = cc in ap (λ y. y ∷ []) e
take_next (z ∷ xs) (suc i) x there = ap (λ ys. z ∷ ys) (take_next xs i x there)

-- the element at an index, with what stands before it and after it
pub split_at : {A : Type 0} (xs : List A) (i : ℕ) (x : A) → slice_get xs i ≡ Some x
    → xs ≡ take i xs ++ x ∷ drop (suc i) xs
split_at [] i x e = absurd (none-some x e)
split_at (y ∷ xs) zero x e = ap (λ z. z ∷ xs) (same_Some y x e)
split_at (y ∷ xs) (suc i) x e = ap (λ l. y ∷ l) (split_at xs i x e)

-- an element of what lies past an index, in the whole list
pub get_dropped : {A : Type 0} (n : ℕ) (xs : List A) (k : ℕ) (x : A)
    → slice_get (drop n xs) k ≡ Some x → slice_get xs (n + k) ≡ Some x
get_dropped zero xs k x there = rw zero-add there
get_dropped (suc n) [] k x there = absurd (cc)
get_dropped (suc n) (y ∷ xs) k x there = rw suc-add (get_dropped n xs k x there)

-- in a prefix stands what stands in the list
pub get_take : {A : Type 0} (xs : List A) (n i : ℕ) → i < n
    → slice_get (take n xs) i ≡ slice_get xs i
get_take xs zero i h = absurd (omega arith)
get_take [] (suc n) i h = refl
get_take (x ∷ xs) (suc n) zero h = refl
get_take (x ∷ xs) (suc n) (suc i) h = get_take xs n i (omega arith)

-- what stands in a prefix stands in the list, and before the prefix's end
pub get_from_take : {A : Type 0} (xs : List A) (n i : ℕ) (x : A) → slice_get (take n xs) i ≡ Some x
    → (i < n) × (slice_get xs i ≡ Some x)
get_from_take xs n i x e =
    let lt : i < n = omega (arith, length-take n xs, slice_get_within (take n xs) i x e) in
    (lt, sym (get_take xs n i lt) ∙ e)

pub get_from_front : {A : Type 0} (xs : List A) (n i : ℕ) (x : A) → slice_get (take n xs) i ≡ Some x
    → slice_get xs i ≡ Some x
get_from_front xs n i x there = (get_from_take xs n i x there).1

-- and an element of the list within the prefix is one of it
pub get_in_front : {A : Type 0} (xs : List A) (n i : ℕ) (x : A) → i < n → slice_get xs i ≡ Some x
    → slice_get (take n xs) i ≡ Some x
get_in_front xs n i x lt there = get_take xs n i lt ∙ there

-- two lists of one length: where the one has an element, so has the other
pub get_beside : {A B : Type 0} (xs : List A) (ys : List B) (i : ℕ) (x : A) → length ys ≡ length xs
    → slice_get xs i ≡ Some x → (y : B) × (slice_get ys i ≡ Some y)
get_beside xs ys i x l e = get_within ys i (omega (arith, slice_get_within xs i x e))

-- a list parts in one way only into a prefix and an end of known length
pub one_parting : {A : Type 0} (a b c d : List A) → a ++ b ≡ c ++ d → length b ≡ length d
    → (a ≡ c) × (b ≡ d)
one_parting {A} a b c d e l =
    let n : length a ≡ length c = omega (arith, length-append a b, length-append c d, ap length e)
    in (
      sym (take_at a b (length c) n) ∙ ap (take (length c)) e ∙ take_at c d (length c) refl,
      sym (drop_at a b (length c) n) ∙ ap (drop (length c)) e ∙ drop_at c d (length c) refl,
    )

-- a member stands at an index
pub at_from_contains : {A : Type 0} (xs : List A) (x : A) → Contains xs x
    → (i : ℕ) × (slice_get xs i ≡ Some x)
at_from_contains xs x (i, lt, is) = (i, slice_get_read xs (length xs) i x refl lt (sym is))

-- what stands at an index is a member
pub contains_from_at : {A : Type 0} (xs : List A) (x : A) → (i : ℕ) × (slice_get xs i ≡ Some x)
    → Contains xs x
contains_from_at xs x (i, there) =
    (i, slice_get_within xs i x there, get_or_from_slice_get xs i x x there)

-- an element of what is appended
pub get_after : {A : Type 0} (xs ys : List A) (i : ℕ) (x : A) → slice_get ys i ≡ Some x
    → slice_get (xs ++ ys) (length xs + i) ≡ Some x
get_after [] ys i x there = rw zero-add there
get_after (z ∷ xs) ys i x there = rw suc-add (get_after xs ys i x there)

-- an element of a list and what is appended is of the one or of the other
pub append_cases : {A : Type 0} (xs ys : List A) (i : ℕ) (x : A) → slice_get (xs ++ ys) i ≡ Some x
    → (slice_get xs i ≡ Some x) ⊎ ((j : ℕ) × (i ≡ length xs + j) × (slice_get ys j ≡ Some x))
append_cases [] ys i x there = inr (i, omega arith, there)
append_cases (z ∷ xs) ys zero x there = inl there
append_cases (z ∷ xs) ys (suc i) x there = elim (append_cases xs ys i x there) [
  | inl before ↦ inl before
  | inr (j, is, at) ↦ inr (j, omega arith, at)
]

-- an element of a list and one more is of the list, or is the one more
pub pushed_cases : {A : Type 0} (xs : List A) (y : A) (i : ℕ) (x : A)
    → slice_get (xs ++ y ∷ []) i ≡ Some x → (slice_get xs i ≡ Some x) ⊎ ((i ≡ length xs) × (y ≡ x))
pushed_cases xs y i x there = elim (append_cases xs (y ∷ []) i x there) [
  | inl before ↦ inl before
  | inr (zero, is, at) ↦ inr (omega arith, cc)
  | inr (suc j, is, at) ↦ absurd cc
]

-- ---- lists of which all are so

module _ {A : Type 0} (P : A → Type 0) where
  -- what is said of each is said of each where it says less
  pub all_weaker : (Q : A → Type 0) → ((x : A) → P x → Q x) → (xs : List A)
      → AllByRecursion P xs → AllByRecursion Q xs
  all_weaker Q f [] h = tt
  all_weaker Q f (x ∷ xs) h = (f x h.0, all_weaker Q f xs h.1)

  -- of both parts, and so of the whole
  pub all_append : (a b : List A) → AllByRecursion P a → AllByRecursion P b
      → AllByRecursion P (a ++ b)
  all_append [] b first second = second
  all_append (x ∷ a) b first second = (first.0, all_append a b first.1 second)

  -- of the whole, and so of both parts
  pub all_prefix : (a b : List A) → AllByRecursion P (a ++ b) → AllByRecursion P a
  all_prefix [] b all = tt
  all_prefix (x ∷ a) b all = (all.0, all_prefix a b all.1)

  pub all_back : (a b : List A) → AllByRecursion P (a ++ b) → AllByRecursion P b
  all_back [] b all = all
  all_back (x ∷ a) b all = all_back a b all.1

  -- of one more
  pub all_push : (xs : List A) (x : A) → AllByRecursion P xs → P x → AllByRecursion P (xs ++ x ∷ [])
  all_push xs x a p = all_append xs (x ∷ []) a (p, tt)

  -- of each where it is said of the element at each index
  pub all_positions : (xs : List A) (d : A)
      → ((k : ℕ) → k < length xs → P (get_or xs k d)) → AllByRecursion P xs
  all_positions xs d h = recursion_from_All P xs (All-from_get_or P xs d h)

  -- of each where it is said of what stands at each index
  pub all_there : (xs : List A)
      → ((k : ℕ) (x : A) → slice_get xs k ≡ Some x → P x) → AllByRecursion P xs
  all_there [] each = tt
  all_there (x ∷ xs) each =
      (each 0 x refl, all_there xs (λ k y there. each (suc k) y there))

  pub all_within : (xs : List A) → ((x : A) → Contains xs x → P x) → AllByRecursion P xs
  all_within xs each = all_there xs (λ i x there. each x (contains_from_at xs x (i, there)))

  -- of each that passes a test
  pub all_filtered : (test : A → Bool) (xs : List A)
      → AllByRecursion P xs → AllByRecursion P (filter test xs)
  all_filtered test xs all =
      recursion_from_All P (filter test xs) (All-filter test P xs (All-from_recursion P xs all))

  -- of the element at an index
  pub all_at : (xs : List A) (i : ℕ) (x : A) → AllByRecursion P xs → slice_get xs i ≡ Some x → P x
  all_at [] i x a e = absurd (none-some x e)
  all_at (y ∷ xs) zero x a e = subst P (same_Some y x e) a.0
  all_at (y ∷ xs) (suc i) x a e = all_at xs i x a.1 e

-- ---- lists of which some are so

-- some passes a test where what a function makes of the element at an index does
pub any_found : {A B : Type 0} (f : A → B) (p : B → Bool) (xs : List A) (i : ℕ) (d : A)
    → i < length xs → p (f (get_or xs i d)) ≡ true → list_any p (map f xs) ≡ true
any_found f p xs i d within so =
    list_any_at p (map f xs) i (f d) (omega (arith, length-map xs f))
    (ap p (get_or-map f xs i d (f d) within) ∙ so)

-- ---- two lists of which a function of the one is a function of the other

-- what corresponds to a first element and others
pub cons_split : {A B C : Type 0} (f : A → C) (g : B → C) (a : A) (others : List A) (ys : List B)
    → map f (a ∷ others) ≡ map g ys → (b : B) × (bs : List B) × (ys ≡ b ∷ bs) × (f a ≡ g b)
    × (map f others ≡ map g bs)
cons_split f g a others [] is = absurd cc
cons_split f g a others (b ∷ bs) is = (b, bs, refl, cc, cc)

-- what corresponds to two parts
pub append_split : {A B C : Type 0} (f : A → C) (g : B → C) (others bs : List A) (ys : List B)
    → map f (others ++ bs) ≡ map g ys → (cs : List B) × (ds : List B) × (ys ≡ cs ++ ds)
    × (map f others ≡ map g cs) × (map f bs ≡ map g ds)
append_split f g [] bs ys is = ([], ys, refl, refl, is)
append_split f g (a ∷ others) bs ys is =
    let (b, rest, whole, first, more) = cons_split f g a (others ++ bs) ys is in
    let (cs, ds, split, prefix, back) = append_split f g others bs rest more in
    (b ∷ cs, ds, whole ∙ ap (λ l. b ∷ l) split, cc, back)

-- both are as long as each other
pub same_length : {A B C : Type 0} (f : A → C) (g : B → C) (xs : List A) (ys : List B)
    → map f xs ≡ map g ys → length xs ≡ length ys
same_length f g xs ys is = sym (length-map xs f) ∙ ap length is ∙ length-map ys g

-- ---- two lists, index by index

-- lists whose elements correspond map to one
pub zip_mapped : {A B C : Type 0} (f : A → C) (g : B → C) (xs : List A) (ys : List B)
    → AllZip (λ x y. f x ≡ g y) xs ys → map f xs ≡ map g ys
zip_mapped f g [] [] h = refl
zip_mapped f g (x ∷ xs) (y ∷ ys) h = λ i. h.0 i ∷ zip_mapped f g xs ys h.1 i
zip_mapped f g xs ys h = absurd h

-- and the other way round
pub mapped_zip : {A B C : Type 0} (f : A → C) (g : B → C) (R : A → B → Type 0)
    → ((x : A) (y : B) → f x ≡ g y → R x y) → (xs : List A) (ys : List B) → map f xs ≡ map g ys
    → AllZip R xs ys
mapped_zip f g R step [] [] is = tt
mapped_zip f g R step (x ∷ xs) (y ∷ ys) is = (step x y cc, mapped_zip f g R step xs ys cc)
mapped_zip f g R step xs ys is = absurd cc

module _ {A B : Type 0} (R : A → B → Type 0) where
  -- lists that correspond do so where less is said
  pub zip_weaker : (S : A → B → Type 0) → ((x : A) (y : B) → R x y → S x y)
      → (xs : List A) (ys : List B) → AllZip R xs ys → AllZip S xs ys
  zip_weaker S f [] [] z = tt
  zip_weaker S f (x ∷ xs) (y ∷ ys) z = (f x y z.0, zip_weaker S f xs ys z.1)
  zip_weaker S f xs ys z = absurd z

  -- lists that correspond, after lists that do
  pub zip_append : (xs : List A) (ys : List B) (us : List A) (vs : List B)
      → AllZip R xs ys → AllZip R us vs → AllZip R (xs ++ us) (ys ++ vs)
  zip_append [] [] us vs h k = k
  zip_append (x ∷ xs) (y ∷ ys) us vs h k = (h.0, zip_append xs ys us vs h.1 k)
  zip_append xs ys us vs h k = absurd h

  -- lists that correspond, and one more of each
  pub zip_push : (xs : List A) (ys : List B) (x : A) (y : B)
      → AllZip R xs ys → R x y → AllZip R (xs ++ x ∷ []) (ys ++ y ∷ [])
  zip_push xs ys x y r h = zip_append xs ys (x ∷ []) (y ∷ []) r (h, tt)

  -- what stands in the second list at an index has one beside it in the first
  pub zip_right : (xs : List A) (ys : List B) (i : ℕ) (y : B) → AllZip R xs ys
      → slice_get ys i ≡ Some y → (x : A) × (slice_get xs i ≡ Some x) × R x y
  zip_right [] [] i y r e = absurd (none-some y e)
  zip_right (a ∷ xs) (b ∷ ys) zero y r e = (a, refl, subst (R a) (same_Some b y e) r.0)
  zip_right (a ∷ xs) (b ∷ ys) (suc i) y r e = zip_right xs ys i y r.1 e
  zip_right xs ys i y r e = absurd r

  -- and the other way round
  pub zip_left : (xs : List A) (ys : List B) (i : ℕ) (x : A) → AllZip R xs ys
      → slice_get xs i ≡ Some x → (y : B) × (slice_get ys i ≡ Some y) × R x y
  zip_left [] [] i x r e = absurd (none-some x e)
  zip_left (a ∷ xs) (b ∷ ys) zero x r e = (b, refl, subst (λ z. R z b) (same_Some a x e) r.0)
  zip_left (a ∷ xs) (b ∷ ys) (suc i) x r e = zip_left xs ys i x r.1 e
  zip_left xs ys i x r e = absurd r

  -- a prefix of the first list has one of the second beside it
  pub zip_front : (xs : List A) (x : A) (ys : List B) → AllZip R (xs ++ x ∷ []) ys
      → (prefix : List B) × (y : B) × (ys ≡ prefix ++ y ∷ []) × AllZip R xs prefix × R x y
  zip_front [] x [] r = absurd r
  zip_front [] x (b ∷ []) r = ([], b, refl, tt, r.0)
  zip_front [] x (b ∷ c ∷ ys) r = absurd r.1
  zip_front (a ∷ xs) x [] r = absurd r
  zip_front (a ∷ xs) x (b ∷ ys) r =
      let h = zip_front xs x ys r.1 in
      (b ∷ h.0, h.1, ap (λ l. b ∷ l) h.2, (r.0, h.3), h.4)

  -- prefixes of lists that correspond do so too
  pub zip_take : (xs : List A) (ys : List B) (i : ℕ)
      → AllZip R xs ys → AllZip R (take i xs) (take i ys)
  zip_take xs ys zero z = tt
  zip_take [] [] (suc i) z = tt
  zip_take (x ∷ xs) (y ∷ ys) (suc i) z = (z.0, zip_take xs ys i z.1)
  zip_take xs ys (suc i) z = absurd z

  -- and so do what is left of them
  pub zip_drop : (xs : List A) (ys : List B) (n : ℕ)
      → AllZip R xs ys → AllZip R (drop n xs) (drop n ys)
  zip_drop xs ys zero z = z
  zip_drop [] [] (suc n) z = tt
  zip_drop (x ∷ xs) (y ∷ ys) (suc n) z = zip_drop xs ys n z.1
  zip_drop xs ys (suc n) z = absurd z

  -- lists that correspond are as long
  pub zip_length : (xs : List A) (ys : List B) → AllZip R xs ys → length xs ≡ length ys
  zip_length xs ys zip = sym (AllZip-long R xs ys zip)

  -- what is said of each of the second is said of each of the first
  pub zip_each : (P : A → Type 0) (Q : B → Type 0)
      → ((x : A) (y : B) → R x y → Q y → P x) → (xs : List A) (ys : List B) → AllZip R xs ys
      → AllByRecursion Q ys → AllByRecursion P xs
  zip_each P Q step [] [] zip all = tt
  zip_each P Q step (x ∷ xs) (y ∷ ys) zip all =
      (step x y zip.0 all.0, zip_each P Q step xs ys zip.1 all.1)
  zip_each P Q step xs ys zip all = absurd zip

  -- lists that correspond in two ways
  pub zip_both : (S : A → B → Type 0) (xs : List A) (ys : List B) → AllZip R xs ys
      → AllZip S xs ys → AllZip (λ x y. R x y × S x y) xs ys
  zip_both S [] [] one other = tt
  zip_both S (x ∷ xs) (y ∷ ys) one other =
      ((one.0, other.0), zip_both S xs ys one.1 other.1)
  zip_both S xs ys one other = absurd one

-- and a list that corresponds to one that corresponds to another
pub zip_on : {A B C : Type 0} (R : A → B → Type 0) (S : B → C → Type 0) (T : A → C → Type 0)
    → ((x : A) (y : B) (z : C) → R x y → S y z → T x z)
    → (xs : List A) (ys : List B) (zs : List C) → AllZip R xs ys → AllZip S ys zs → AllZip T xs zs
zip_on R S T step [] [] [] one other = tt
zip_on R S T step [] (y ∷ ys) zs one other = absurd one
zip_on R S T step (x ∷ xs) [] zs one other = absurd one
zip_on R S T step (x ∷ xs) (y ∷ ys) (z ∷ zs) one other =
    (step x y z one.0 other.0, zip_on R S T step xs ys zs one.1 other.1)
zip_on R S T step xs ys zs one other = absurd other

-- ---- results

-- an error that is handed on keeps what is known of it
pub error_keeps : {A E : Type 0} (result : Result A E) (fault : E) (P : E → Type 0)
    → IsErrAnd result (λ e. e ≡ fault) → P fault → IfErr result P
error_keeps (Ok x) fault P same known = tt
error_keeps (Err e) fault P same known = subst P (sym same) known
