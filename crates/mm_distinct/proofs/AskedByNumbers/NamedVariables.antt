-- The shared variables and the missing pairs by names, from what is told of them by numbers.
use Rattle.std.proofs.Common.{◌≡◌, ℕ, ◌<◌, List, [], length, map, take, drop, get_or}
use Rattle.std.proofs.Common.{Contains}
use Rattle.std.proofs.Common.{◌⊎◌, inl, inr, ⊎_elim, sym, ap, subst, ◌∙◌, arith}
use Rattle.std.proofs.lemmas.Option.{same_Some, slice_get_within}
use Rattle.std.proofs.lemmas.List.{take-append-drop}
use Rattle.mm_base.specs.declared.statement.Kind.TheVariants.{Variables}
use Rattle.mm_base.proofs.Lists.{contains_from_at, all_within}
use Rattle.mm_frame.specs.Sentence.{Sentence, Declares}
use Rattle.mm_frame.specs.Active.{IsVariable}
use Rattle.mm_frame.specs.Frame.{IsDistinct}
use Rattle.mm_frame.specs.Rules.{AllMeant}
use Rattle.mm_frame.specs.Numbers.{symbols_of, IsNumberOf, AreNumbers}
use Rattle.mm_frame.specs.Laws.{OneNumber}
use Rattle.mm_frame.specs.declared.number.Sym.{Sym}
use Rattle.mm_frame.proofs.Rules.ObeyedRules.{some_later}
use Rattle.mm_frame.proofs.Frames.FrameLaws.{distinct_other}
use Rattle.mm_proof.specs.Asked.{AreDeclared, AreShared, AreMissing, IsEarlier, IsEarlierPair}
use Rattle.mm_proof.specs.Asked.{IsUnstated, StandsAcross, StandInOrder}
use Rattle.mm_step.specs.Mirror.CodeVerify.{name_at, names_at}
use Rattle.mm_step.specs.Mirror.CodeRun.{DoRise}
use Rattle.mm_step.specs.Mirror.CodeAsked.{AreSharedNumbers, IsMissingPair, HasEither, number_pairs}
use Rattle.mm_step.specs.Mirror.CodeAsked.{AreMissingNumbers, AreMissingInOrder, DoPairsRise}
use Rattle.mm_step.specs.Mirror.CodeAsked.{ArePutInOrder}
use Rattle.mm_step.proofs.ByNumbers.NumberedSymbols.{name_is, number_of_name}
use Rattle.mm_step.proofs.ByNumbers.SharedVariables.{has_named, named_has, number_among}
use Rattle.mm_distinct.proofs.AskedByNumbers.ListedVariables.{declared_variable, has_name}
use Rattle.mm_distinct.proofs.AskedByNumbers.ListedVariables.{has_number}
use Rattle.mm_step.proofs.ByNumbers.VariablesOfLists.{mapped_at, mapped_contains}
use Rattle.mm_step.proofs.ByNumbers.VariablesOfLists.{contains_mapped}
use Rattle.mm_distinct.proofs.AskedByNumbers.ListedVariables.{names_of, name_pairs}
use Rattle.mm_distinct.proofs.AskedByNumbers.ListedVariables.{named_variable, pairs_named, variable_below}
use Rattle.mm_proof.proofs.ProofNumbers.NumbersNamed.{numbers_named}

-- ==== the order of numbers is that of declarations

module _ (one : OneNumber) (st : List Sentence) (index : ℕ) where
  -- a number among the statements before is the one among all
  number_later : (u : List ℕ) (n : ℕ) → IsNumberOf (take index st) u n → IsNumberOf st u n
  number_later u n number = subst (λ l. IsNumberOf l u n) (take-append-drop index st)
      ((one (take index st) (drop index st) u).3 n number)

  number_before : (u : List ℕ) (n : ℕ) → IsVariable (take index st) u → IsNumberOf st u n
      → IsNumberOf (take index st) u n
  number_before u n variable number =
      let own = (one (take index st) [] u).0.0 (inr variable) in
      subst (IsNumberOf (take index st) u)
      ((one st [] u).1 own.0 n (number_later u own.0 own.1) number) own.1

  -- of two variables before, the one with the lower number was declared before
  pub earlier_named : (m n : ℕ) → IsVariable (take index st) (name_at st m)
      → IsVariable (take index st) (name_at st n) → m < length (symbols_of st)
      → n < length (symbols_of st) → m < n
      → IsEarlier (take index st) (name_at st m) (name_at st n)
  earlier_named m n first second bm bn less = (
    m,
    n,
    number_before (name_at st m) m first (number_of_name st m bm),
    number_before (name_at st n) n second (number_of_name st n bn),
    less,
  )

  earlier_numbers : (u v : List ℕ) (m n : ℕ) → IsEarlier (take index st) u v
      → IsNumberOf st u m → IsNumberOf st v n → m < n
  earlier_numbers u v m n (m', n', at_u, at_v, less) number_u number_v =
      let same_m = (one st [] u).1 m' m (number_later u m' at_u) number_u in
      let same_n = (one st [] v).1 n' n (number_later v n' at_v) number_v in
      omega (arith, same_m, same_n, less)

  -- names of variables before, whose numbers rise
  names_in_order : (ns : List ℕ)
      → ((n : ℕ) → Contains ns n → IsVariable (take index st) (name_at st n)
      × (n < length (symbols_of st)))
      → DoRise ns → StandInOrder (IsEarlier (take index st)) (names_at st ns)
  names_in_order ns variables rising i j u v less at_i at_j =
      let m = mapped_at (name_at st) ns i u at_i in
      let n = mapped_at (name_at st) ns j v at_j in
      let vm = variables m.0 (contains_from_at ns m.0 (i, m.1)) in
      let vn = variables n.0 (contains_from_at ns n.0 (j, n.1)) in
      subst (IsEarlier (take index st) u) n.2
      (subst (λ x. IsEarlier (take index st) x (name_at st n.0)) m.2
      (earlier_named m.0 n.0 vm.0 vn.0 vm.1 vn.1 (rising i j m.0 n.0 less m.1 n.1)))

  -- names of pairs that rise
  pub pairs_in_order : (pairs : List (ℕ × ℕ))
      → ((p : ℕ × ℕ) → Contains pairs p → (IsVariable (take index st) (name_at st p.0)
      × (p.0 < length (symbols_of st))) × (IsVariable (take index st) (name_at st p.1)
      × (p.1 < length (symbols_of st))))
      → DoPairsRise pairs → StandInOrder (IsEarlierPair (take index st)) (name_pairs st pairs)
  pairs_in_order pairs variables are i j p q less at_i at_j =
      let a = mapped_at (names_of st) pairs i p at_i in
      let b = mapped_at (names_of st) pairs j q at_j in
      let va = variables a.0 (contains_from_at pairs a.0 (i, a.1)) in
      let vb = variables b.0 (contains_from_at pairs b.0 (j, b.1)) in
      subst (IsEarlierPair (take index st) p) b.2
      (subst (λ r. IsEarlierPair (take index st) r (names_of st b.0)) a.2
      (⊎_elim
      (λ lower. inl (earlier_named a.0.0 b.0.0 va.0.0 vb.0.0 va.0.1 vb.0.1 lower))
      (λ h. inr (
        ap (name_at st) h.0,
        earlier_named a.0.1 b.0.1 va.1.0 vb.1.0 va.1.1 vb.1.1 h.1,
      ))
      (are.rising i j a.0 b.0 less a.1 b.1)))

-- ==== shared variables

module _ (one : OneNumber) (st : List Sentence) (index : ℕ) (all : AllMeant st)
    (e f shared : List ℕ) (x y : List (List ℕ)) (at_e : AreNumbers st e x) (at_f : AreNumbers st f y)
    (declared : AreDeclared (take index st) x) (are : AreSharedNumbers st e f shared) where
  below : (n : ℕ) → Contains shared n → n < length (symbols_of st)
  below n c = let v = ((are.each n).0 c).0 in slice_get_within (symbols_of st) n v.0 v.1

  -- the name of each is that of a variable before, and stands in both
  named_shared : (n : ℕ) → Contains shared n → IsVariable (take index st) (name_at st n)
      × Contains x (name_at st n) × Contains y (name_at st n)
  named_shared n c =
      let h = (are.each n).0 c in
      let in_x = has_name one st index all e x n at_e h.1 in (
        declared_variable one st index all x (name_at st n) declared in_x
            (named_variable st n h.0),
        in_x,
        has_name one st index all f y n at_f h.2,
      )

  shared_names : AreShared (take index st) x y (names_at st shared)
  shared_names = record {
    each = λ u. (
      λ c.
          let k = has_named st shared u c in
          subst (λ v. IsVariable (take index st) v × Contains x v × Contains y v) k.2
          (named_shared (get_or shared k.0 0) (number_among shared k.0 k.1)),
      λ h.
          let m = has_number one st index all e x u at_e h.1 in
          let n = has_number one st index all f y u at_f h.2 in
          let same : n.0 ≡ m.0 = (one st [] u).1 n.0 m.0 n.2 m.2 in
          let c = (are.each m.0).1 (
            (u, m.2, some_later st index (Declares Variables u) h.0),
            m.1,
            subst (Contains f) same n.1,
          ) in
          subst (Contains (names_at st shared)) (name_is st m.0 u m.2) (named_has st shared m.0 c),
    );
    in_order = names_in_order one st index shared
        (λ n c. ((named_shared n c).0, below n c)) are.rising;
  }

  pub shared_named : (u : List (List ℕ)) × AreNumbers st shared u
      × AreShared (take index st) x y u
  shared_named = (
    names_at st shared,
    numbers_named st shared (all_within (λ n. n < length (symbols_of st)) shared below),
    shared_names,
  )

-- ==== missing pairs

-- a missing pair is one in the other order too
pub missing_other : (st : List Sentence) (index m n : ℕ) → IsMissingPair st index m n
    → IsMissingPair st index n m
missing_other st index m n p = record {
  first = p.second;
  second = p.first;
  differ = λ same. p.differ (sym same);
  inactive = λ x y at_x at_y d. p.inactive y x at_y at_x (distinct_other (take index st) x y d);
}

-- what holds of each pair that was found, in one order and in the other, holds of each that was
-- put in order
pub found_put : (found pairs : List (ℕ × ℕ)) → ArePutInOrder found pairs
    → (P : ℕ × ℕ → Type 0) → ((p : ℕ × ℕ) → Contains found p → P p × P (p.1, p.0))
    → (p : ℕ × ℕ) → Contains pairs p → P p
found_put found pairs are P each p c =
    ⊎_elim (λ h. (each p h).0) (λ h. (each (p.1, p.0) h).1) ((are.same p).0 (inl c))

-- the pair by names
pub unstated_named : OneNumber → (st : List Sentence) (index m n : ℕ)
    → IsMissingPair st index m n → IsVariable (take index st) (name_at st m)
    → IsVariable (take index st) (name_at st n) → m < n
    → IsUnstated (take index st) (name_at st m, name_at st n)
unstated_named one st index m n missing first second less =
    let bm = variable_below st m missing.first in
    let bn = variable_below st n missing.second in
    record {
      first = first;
      second = second;
      earlier = earlier_named one st index m n first second bm bn less;
      inactive = missing.inactive (name_at st m) (name_at st n) (number_of_name st m bm)
          (number_of_name st n bn);
    }

module _ (one : OneNumber) (st : List Sentence) (index : ℕ) (all : AllMeant st) (e f : List ℕ)
    (x y : List (List ℕ)) (at_e : AreNumbers st e x) (at_f : AreNumbers st f y)
    (first : AreDeclared (take index st) x) (second : AreDeclared (take index st) y)
    (found pairs : List (ℕ × ℕ)) (are : AreMissingNumbers st index e f found)
    (ordered : ArePutInOrder found pairs) where
  -- what is known of a pair that was found, and of one that was put in order
  abbrev IsKnown : ℕ × ℕ → Type 0
  IsKnown p =
      IsMissingPair st index p.0 p.1 × IsVariable (take index st) (name_at st p.0)
      × IsVariable (take index st) (name_at st p.1) × StandsAcross x y (names_of st p)

  known_found : (p : ℕ × ℕ) → Contains found p → IsKnown p × IsKnown (p.1, p.0)
  known_found p c =
      let h = are.only p c in
      let in_x = has_name one st index all e x p.0 at_e h.1 in
      let in_y = has_name one st index all f y p.1 at_f h.2 in
      let var_m = declared_variable one st index all x (name_at st p.0) first in_x
      (named_variable st p.0 h.0.first) in
      let var_n = declared_variable one st index all y (name_at st p.1) second in_y
      (named_variable st p.1 h.0.second) in (
        (h.0, var_m, var_n, inl (in_x, in_y)),
        (missing_other st index p.0 p.1 h.0, var_n, var_m, inr (in_x, in_y)),
      )

  known : (p : ℕ × ℕ) → Contains pairs p → IsKnown p
  known p c = found_put found pairs ordered IsKnown known_found p c

  only_named : (p : List ℕ × List ℕ) → Contains (name_pairs st pairs) p
      → IsUnstated (take index st) p × StandsAcross x y p
  only_named p c =
      let q = mapped_contains (names_of st) pairs p c in
      let h = known q.0 q.1 in
      subst (λ (r : List ℕ × List ℕ). IsUnstated (take index st) r × StandsAcross x y r) q.2 (
        unstated_named one st index q.0.0 q.0.1 h.0 h.1 h.2 (ordered.in_order.turned q.0 q.1),
        h.3,
      )

  -- the pair of two numbers, where it was found in one order or the other
  there_named : (u v : List ℕ) → IsUnstated (take index st) (u, v) → (m n : ℕ)
      → IsNumberOf st u m → IsNumberOf st v n → HasEither found (m, n)
      → Contains (name_pairs st pairs) (u, v)
  there_named u v p m n at_u at_v has =
      let less = earlier_numbers one st index u v m n p.earlier at_u at_v in
      let named_u = name_is st m u at_u in
      let named_v = name_is st n v at_v in
      ⊎_elim
      (λ c. rw (named_u, named_v) at (contains_mapped (names_of st) pairs (m, n) c))
      (λ c. absurd (let over = ordered.in_order.turned (n, m) c in omega (arith, less, over)))
      ((ordered.same (m, n)).1 has)

  missing_of_names : (u v : List ℕ) → IsVariable (take index st) u
      → IsVariable (take index st) v → IsEarlier (take index st) u v ⊎ IsEarlier (take index st) v u
      → ¬ (IsDistinct (take index st) u v) → (m n : ℕ) → IsNumberOf st u m → IsNumberOf st v n
      → IsMissingPair st index m n
  missing_of_names u v var_u var_v apart inactive m n at_u at_v = record {
    first = (u, at_u, some_later st index (Declares Variables u) var_u);
    second = (v, at_v, some_later st index (Declares Variables v) var_v);
    differ = λ same. ⊎_elim
        (λ h. let less = earlier_numbers one st index u v m n h at_u at_v in
        omega (arith, less, same))
        (λ h. let less = earlier_numbers one st index v u n m h at_v at_u in
        omega (arith, less, same)) apart;
    inactive = λ a b p q d. inactive (subst
        (λ c. IsDistinct (take index st) c v) (same_Some a u (sym p ∙ at_u))
        (subst (IsDistinct (take index st) a) (same_Some b v (sym q ∙ at_v)) d));
  }

  each_named : (p : List ℕ × List ℕ) → IsUnstated (take index st) p → StandsAcross x y p
      → Contains (name_pairs st pairs) p
  each_named p is (inl (in_x, in_y)) =
      let m = has_number one st index all e x p.0 at_e in_x in
      let n = has_number one st index all f y p.1 at_f in_y in
      let missing = missing_of_names p.0 p.1 is.first is.second (inl is.earlier) is.inactive
      m.0 n.0 m.2 n.2 in
      there_named p.0 p.1 is m.0 n.0 m.2 n.2 (are.each m.0 n.0 missing m.1 n.1)
  each_named p is (inr (in_x, in_y)) =
      let m = has_number one st index all f y p.0 at_f in_y in
      let n = has_number one st index all e x p.1 at_e in_x in
      let missing = missing_of_names p.1 p.0 is.second is.first (inr is.earlier)
      (λ d. is.inactive (distinct_other (take index st) p.1 p.0 d)) n.0 m.0 n.2 m.2 in
      there_named p.0 p.1 is m.0 n.0 m.2 n.2
      (⊎_elim inr inl (are.each n.0 m.0 missing n.1 m.1))

  missing_names : AreMissing (take index st) x y (name_pairs st pairs)
  missing_names = record {
    each = λ p. (only_named p, λ h. each_named p h.0 h.1);
    in_order = pairs_in_order one st index pairs (λ p c.
        let h = known p c in (
          (h.1, variable_below st p.0 h.0.first),
          (h.2, variable_below st p.1 h.0.second),
        )) ordered.in_order;
  }

  pub all_missing : (p : ℕ × ℕ) → Contains pairs p → IsMissingPair st index p.0 p.1
  all_missing p c = (known p c).0

pub missing_named : OneNumber → (st : List Sentence) (index : ℕ) → AllMeant st
    → (e f : List ℕ) (x y : List (List ℕ)) → AreNumbers st e x → AreNumbers st f y
    → AreDeclared (take index st) x → AreDeclared (take index st) y → (pairs : List (Sym × Sym))
    → AreMissingInOrder st index e f (number_pairs pairs)
    → (names : List (List ℕ × List ℕ))
    × AreNumbers st (map (λ p. p.0.0) pairs) (map (λ p. p.0) names)
    × AreNumbers st (map (λ p. p.1.0) pairs) (map (λ p. p.1) names)
    × AreMissing (take index st) x y names
missing_named one st index all e f x y at_e at_f first second pairs (found, are, ordered) =
    let told = number_pairs pairs in
    let numbers = pairs_named st index pairs
    (all_missing one st index all e f x y at_e at_f first second found told are ordered) in (
      name_pairs st told,
      numbers.0,
      numbers.1,
      missing_names one st index all e f x y at_e at_f first second found told are ordered,
    )
