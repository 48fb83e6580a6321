-- Lists of numbers in the order of the database: one more number, the numbers up to one, and those of
-- a list up to an index. There is one such list.
use Rattle.std.proofs.Common.{◌≡◌, ℕ, ◌+◌, ◌<◌, List, [], ◌∷◌, ◌++◌, take, add-one, slice_get}
use Rattle.std.proofs.Common.{Contains, Some, ◌⊎◌, inl, inr, refl, sym, ap, subst, ◌∙◌, arith}
use Rattle.std.proofs.lemmas.List.{map-append, take-map}
use Rattle.std.proofs.lemmas.List.Elements.{Contains-append_left}
use Rattle.std.proofs.lemmas.Bool.{cases_eq}
use Rattle.mm_frame.proofs.Names.NameNumbers.{get_mapped}
use Rattle.mm_frame.specs.declared.number.LabelId.{LabelId}
use Rattle.mm_base.proofs.Lists.{take_next, get_from_take, at_from_contains}
use Rattle.mm_step.specs.Plain.{ids_in}
use Rattle.mm_rules.specs.Rests.{AreRising, AreInOrder}
use Rattle.mm_rules.proofs.Numbers.{holds_last, holds_cases, in_order_push, in_order_same}
use Rattle.mm_rules.proofs.Numbers.{rising_above, holds_first, holds_later, rising_tail, holds_cons}

-- ==== one more number

-- one more number was looked at, which is taken
pub taken : (P Q : ℕ → Type 0) (ids : List ℕ) (x : ℕ) → AreInOrder P ids → ((n : ℕ) → P n
    → n < x) → Q x → ((n : ℕ) → P n → Q n) → ((n : ℕ) → Q n → P n ⊎ (n ≡ x))
    → AreInOrder Q (ids ++ x ∷ [])
taken P Q ids x order less holds keeps cases =
    in_order_push P Q ids x order less
    (λ n. (cases n, λ h. elim h [ inl p ↦ keeps n p | inr same ↦ subst Q (sym same) holds ]))

-- or it is passed over
pub passed : (P Q : ℕ → Type 0) (ids : List ℕ) (x : ℕ) → AreInOrder P ids → ¬ (Q x) → ((n : ℕ)
    → P n → Q n) → ((n : ℕ) → Q n → P n ⊎ (n ≡ x))
    → AreInOrder Q ids
passed P Q ids x order none keeps cases =
    in_order_same P Q ids order
    (λ n. (keeps n, λ q. elim (cases n q) [ inl p ↦ p | inr same ↦ absurd (none (subst Q same q)) ]))

-- numbers up to one, which is put in where it is so
pub up_to_taken : (P : ℕ → Type 0) (ids new : List LabelId) (x : LabelId) (k : ℕ)
    → AreInOrder (λ n. (n < k) × P n) (ids_in ids) → x.0 ≡ k → P k → new ≡ ids ++ x ∷ []
    → AreInOrder (λ n. (n < k + 1) × P n) (ids_in new)
up_to_taken P ids new x k order is holds e =
    rw (e, map-append)
    (taken (λ n. (n < k) × P n) (λ n. (n < k + 1) × P n) (ids_in ids) x.0 order
    (λ n h. let less : n < k = h.0 in omega arith)
    (omega arith, rw is holds)
    (λ n h. (let less : n < k = h.0 in omega arith, h.1))
    (λ n h. elim (cases_eq n k) [
      | inl same ↦ inr (same ∙ sym is)
      | inr other ↦ inl (let less : n < k + 1 = h.0 in omega arith, h.1)
    ]))

pub up_to_passed : (P : ℕ → Type 0) (ids : List LabelId) (k : ℕ)
    → AreInOrder (λ n. (n < k) × P n) (ids_in ids) → ¬ (P k)
    → AreInOrder (λ n. (n < k + 1) × P n) (ids_in ids)
up_to_passed P ids k order none =
    passed (λ n. (n < k) × P n) (λ n. (n < k + 1) × P n) (ids_in ids) k order (λ h. none h.1)
    (λ n h. (let less : n < k = h.0 in omega arith, h.1))
    (λ n h. elim (cases_eq n k) [
      | inl same ↦ inr same
      | inr other ↦ inl (let less : n < k + 1 = h.0 in omega arith, h.1)
    ])

pub up_to_ended : (P : ℕ → Type 0) (ids : List LabelId) (k : ℕ)
    → AreInOrder (λ n. (n < k) × P n) (ids_in ids) → ((n : ℕ) → P n → n < k)
    → AreInOrder P (ids_in ids)
up_to_ended P ids k order below =
    in_order_same (λ n. (n < k) × P n) P (ids_in ids) order (λ n. ((λ h. h.1), λ p. (below n p, p)))

-- numbers of a list up to an index
pub among_more : (xs : List LabelId) (i : ℕ) (x : LabelId) → slice_get xs i ≡ Some x
    → ids_in (take (i + 1) xs) ≡ ids_in (take i xs) ++ x.0 ∷ []
among_more xs i x at =
    ap (λ (n : ℕ). ids_in (take n xs)) (add-one i) ∙ ap ids_in (take_next xs i x at) ∙ map-append (λ (l : LabelId). l.0) (take i xs) (x ∷ [])

-- those before an index are less than the one there
pub before_less : (xs : List LabelId) (i : ℕ) (x : LabelId) → AreRising (ids_in xs)
    → slice_get xs i ≡ Some x → (n : ℕ) → Contains (ids_in (take i xs)) n → n < x.0
before_less xs i x rising at n h =
    let in_front = rw (← take-map (λ (l : LabelId). l.0) i xs) at h in
    let (k, there) = at_from_contains (take i (ids_in xs)) n in_front in
    let (less, here) = get_from_take (ids_in xs) i k n there in
    rising k i n x.0 less here (get_mapped (λ (l : LabelId). l.0) xs i x at)

pub among_taken : (M : ℕ → Type 0) (xs ids new : List LabelId) (i : ℕ) (x : LabelId)
    → AreRising (ids_in xs) → slice_get xs i ≡ Some x
    → AreInOrder (λ n. Contains (ids_in (take i xs)) n × M n) (ids_in ids) → M x.0
    → new ≡ ids ++ x ∷ []
    → AreInOrder (λ n. Contains (ids_in (take (i + 1) xs)) n × M n) (ids_in new)
among_taken M xs ids new i x rising at order holds e =
    rw (among_more xs i x at, e, map-append (λ (l : LabelId). l.0) ids (x ∷ []))
    (taken (λ n. Contains (ids_in (take i xs)) n × M n) (λ n. Contains (ids_in (take i xs) ++ x.0 ∷ []) n × M n) (ids_in ids) x.0 order
    (λ n h. before_less xs i x rising at n h.0)
    (holds_last (ids_in (take i xs)) x.0, holds)
    (λ n h. (Contains-append_left (ids_in (take i xs)) (x.0 ∷ []) n h.0, h.1))
    (λ n h. elim (holds_cases (ids_in (take i xs)) x.0 n h.0) [ inl before ↦ inl (before, h.1) | inr same ↦ inr same ]))

pub among_passed : (M : ℕ → Type 0) (xs ids : List LabelId) (i : ℕ) (x : LabelId)
    → slice_get xs i ≡ Some x
    → AreInOrder (λ n. Contains (ids_in (take i xs)) n × M n) (ids_in ids) → ¬ (M x.0)
    → AreInOrder (λ n. Contains (ids_in (take (i + 1) xs)) n × M n) (ids_in ids)
among_passed M xs ids i x at order none =
    subst (λ (ns : List ℕ). AreInOrder (λ n. Contains ns n × M n) (ids_in ids)) (sym (among_more xs i x at))
    (passed (λ n. Contains (ids_in (take i xs)) n × M n) (λ n. Contains (ids_in (take i xs) ++ x.0 ∷ []) n × M n) (ids_in ids) x.0 order
    (λ h. none h.1)
    (λ n h. (Contains-append_left (ids_in (take i xs)) (x.0 ∷ []) n h.0, h.1))
    (λ n h. elim (holds_cases (ids_in (take i xs)) x.0 n h.0) [ inl before ↦ inl (before, h.1) | inr same ↦ inr same ]))

-- ==== there is one such list

same_first : (x y : ℕ) (xs ys : List ℕ) → AreRising (x ∷ xs) → AreRising (y ∷ ys)
    → Contains (y ∷ ys) x → Contains (x ∷ xs) y → x ≡ y
same_first x y xs ys rising falling to from = elim (holds_cons y ys x to) [
  | inl same ↦ sym same
  | inr later ↦ elim (holds_cons x xs y from) [
    | inl same ↦ same
    | inr other ↦ absurd (let more : y < x = rising_above y ys falling x later in let less : x < y = rising_above x xs rising y other in omega arith)
  ]
]

later_within : (x y : ℕ) (xs ys : List ℕ) (n : ℕ) → x ≡ y → AreRising (x ∷ xs)
    → Contains (y ∷ ys) n → Contains xs n → Contains ys n
later_within x y xs ys n e rising to h = elim (holds_cons y ys n to) [
  | inl same ↦ absurd (let less : x < n = rising_above x xs rising n h in omega (arith, e, same))
  | inr later ↦ later
]

one_rising : (xs ys : List ℕ) → AreRising xs → AreRising ys → ((n : ℕ) → Contains xs n
    → Contains ys n) → ((n : ℕ) → Contains ys n → Contains xs n) → xs ≡ ys
one_rising [] [] rising other to from = refl
one_rising [] (y ∷ ys) rising other to from = let at = at_from_contains [] y (from y (holds_first y ys)) in let there = at.1 in absurd cc
one_rising (x ∷ xs) [] rising other to from = let at = at_from_contains [] x (to x (holds_first x xs)) in let there = at.1 in absurd cc
one_rising (x ∷ xs) (y ∷ ys) rising other to from =
    let e : x ≡ y = same_first x y xs ys rising other (to x (holds_first x xs)) (from y (holds_first y ys)) in
    let rest : xs ≡ ys = one_rising xs ys (rising_tail x xs rising) (rising_tail y ys other)
    (λ n h. later_within x y xs ys n e rising (to n (holds_later x xs n h)) h)
    (λ n h. later_within y x ys xs n (sym e) other (from n (holds_later y ys n h)) h) in
    cc

pub in_order_once : (P : ℕ → Type 0) (xs ys : List ℕ) → AreInOrder P xs → AreInOrder P ys → xs ≡ ys
in_order_once P xs ys one other =
    one_rising xs ys one.rising other.rising (λ n h. (other.each n).1 ((one.each n).0 h)) (λ n h. (one.each n).1 ((other.each n).0 h))
