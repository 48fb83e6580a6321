-- Assertions that are one under two labels, each of which alone says what the other does. On this
-- file rest the contracts of `renamed`.
use Rattle.std.proofs.Common.{◌≡◌, ℕ, ◌+◌, ◌<◌, List, [], ◌∷◌, ◌++◌, map, take, length, get_or}
use Rattle.std.proofs.Common.{slice_get, Contains, Some, refl, sym, ap, subst, ◌∙◌, arith}
use Rattle.std.specs.List.{AllByRecursion}
use Rattle.std.proofs.lemmas.Bool.{cases_lt, false≢true}
use Rattle.std.proofs.lemmas.List.{map-append, take_all}
use Rattle.std.proofs.lemmas.Option.{same_Some, slice_get-get_or, slice_get_within}
use Rattle.mm_base.proofs.Lists.{at_from_contains, contains_from_at}
use Rattle.mm_frame.specs.declared.number.LabelId.{LabelId}
use Rattle.mm_frame.specs.Numbers.{IsAssertionNumber}
use Rattle.mm_frame.specs.Sentence.{Sentence}
use Rattle.mm_step.specs.Plain.{ids_in}
use Rattle.mm_rules.specs.Rests.{AreInOrder, AreRising}
use Rattle.mm_rules.proofs.Numbers.{holds_cases, holds_last, in_order_same}
use Rattle.mm_rules.proofs.OrderedNumbers.{among_more, before_less, passed, taken}
use Rattle.std.proofs.lemmas.List.Elements.{Contains-append_left}
use Rattle.std.proofs.Common.{inl, inr, ◌≤◌, ◌↔◌, Bool, true, false, not, Option, None, IfSome}
use Rattle.std.proofs.Common.{is_some}
use Rattle.mm_diff.specs.declared.renamed.Renaming.{Renaming}
use Rattle.mm_diff.specs.Diff.{AreRenamed, IsOnlyAlike, IsRenamed}
use Rattle.mm_alike.specs.Alike.{AreAlike, IsAlone}
use Rattle.mm_diff.specs.Mirror.Changes.{plain_renaming}

-- ---- the only one that says the same

-- of one number there is one
one_of_one : (ids : List ℕ) (x n : ℕ) → length ids ≡ 1 → slice_get ids 0 ≡ Some x → Contains ids n
    → n ≡ x
one_of_one ids x n one first among =
    let (i, there) = at_from_contains ids n among in
    let within : i < length ids = slice_get_within ids i n there in
    let zero : i ≡ 0 = omega (arith, within, one) in
    same_Some n x (sym there ∙ ap (slice_get ids) zero ∙ first)

-- rising numbers that are all one are one
one_if_same : (ids : List ℕ) (x : ℕ) → AreRising ids → Contains ids x
    → ((n : ℕ) → Contains ids n → n ≡ x) → length ids ≡ 1
one_if_same ids x rising among same =
    let (i, there) = at_from_contains ids x among in
    let within : i < length ids = slice_get_within ids i x there in
    elim (cases_lt 1 (length ids)) [
      | inl more ↦
          let first : slice_get ids 0 ≡ Some (get_or ids 0 0) = slice_get-get_or ids 0 0 (omega arith) in
          let second : slice_get ids 1 ≡ Some (get_or ids 1 0) = slice_get-get_or ids 1 0 more in
          let less = rising 0 1 (get_or ids 0 0) (get_or ids 1 0) (omega arith) first second in
          let a : get_or ids 0 0 ≡ x = same (get_or ids 0 0) (contains_from_at ids _ (0, first)) in
          let b : get_or ids 1 0 ≡ x = same (get_or ids 1 0) (contains_from_at ids _ (1, second)) in
          absurd (omega arith)
      | inr few ↦ omega arith
    ]

module _ (st others : List Sentence) (id : ℕ) where
  -- of those that say the same there is one
  pub only_one : (those ids : List ℕ) (x : ℕ) → AreInOrder (IsAlone others st) those
      → AreInOrder (λ n. Contains those n × AreAlike st others id n) ids → length ids ≡ 1
      → slice_get ids 0 ≡ Some x → IsOnlyAlike st others id x
  only_one those ids x alone alike one first =
      let here = (alike.each x).0 (contains_from_at ids x (0, first)) in (
        (alone.each x).0 here.0,
        here.1,
        λ m lonely same. one_of_one ids x m one first
            ((alike.each m).1 ((alone.each m).1 lonely, same)),
      )

  -- there is none, or there are more
  pub not_one : (those ids : List ℕ) → AreInOrder (IsAlone others st) those
      → AreInOrder (λ n. Contains those n × AreAlike st others id n) ids → ¬ (length ids ≡ 1)
      → (n : ℕ) → ¬ (IsOnlyAlike st others id n)
  not_one those ids alone alike many n (lonely, same, only) =
      many (one_if_same ids n alike.rising
      ((alike.each n).1 ((alone.each n).1 lonely, same))
      (λ m among. let (there, says) = (alike.each m).0 among in
      only m ((alone.each m).0 there) says))

-- it is one
pub only_once : (st others : List Sentence) (id n m : ℕ) → IsOnlyAlike st others id n
    → IsOnlyAlike st others id m → n ≡ m
only_once st others id n m one other = other.2 n one.0 one.1

-- ---- both are the only ones

module _ (st others : List Sentence) (id : ℕ) where
  pub none_renamed : ((n : ℕ) → ¬ (IsOnlyAlike st others id n)) → (n : ℕ)
      → ¬ (IsRenamed st others id n)
  none_renamed none n both = none n both.0

  pub none_back : (named : ℕ) → IsOnlyAlike st others id named
      → ((n : ℕ) → ¬ (IsOnlyAlike others st named n)) → (n : ℕ) → ¬ (IsRenamed st others id n)
  none_back named only none n both =
      none id (subst (λ (k : ℕ). IsOnlyAlike others st k id)
      (only_once st others id n named both.0 only) both.1)

  pub other_back : (named back : ℕ) → IsOnlyAlike st others id named
      → IsOnlyAlike others st named back → ¬ (back ≡ id) → (n : ℕ) → ¬ (IsRenamed st others id n)
  other_back named back only again apart n both =
      let same = only_once st others id n named both.0 only in
      apart (only_once others st named back id again
      (subst (λ (k : ℕ). IsOnlyAlike others st k id) same both.1))

-- ---- lists of them

-- one more number, which is put behind those of a list
pub next_taken : (M : ℕ → Type 0) (xs : List LabelId) (ns : List ℕ) (i : ℕ) (x : LabelId)
    → AreRising (ids_in xs) → slice_get xs i ≡ Some x
    → AreInOrder (λ n. Contains (ids_in (take i xs)) n × M n) ns → M x.0
    → AreInOrder (λ n. Contains (ids_in (take (i + 1) xs)) n × M n) (ns ++ x.0 ∷ [])
next_taken M xs ns i x rising at order holds =
    rw (among_more xs i x at)
    (taken (λ n. Contains (ids_in (take i xs)) n × M n)
    (λ n. Contains (ids_in (take i xs) ++ x.0 ∷ []) n × M n) ns x.0 order
    (λ n h. before_less xs i x rising at n h.0)
    (holds_last (ids_in (take i xs)) x.0, holds)
    (λ n h. (Contains-append_left (ids_in (take i xs)) (x.0 ∷ []) n h.0, h.1))
    (λ n h. elim (holds_cases (ids_in (take i xs)) x.0 n h.0) [
      | inl before ↦ inl (before, h.1)
      | inr same ↦ inr same
    ]))

-- or is passed over
pub next_passed : (M : ℕ → Type 0) (xs : List LabelId) (ns : List ℕ) (i : ℕ) (x : LabelId)
    → slice_get xs i ≡ Some x → AreInOrder (λ n. Contains (ids_in (take i xs)) n × M n) ns
    → ¬ (M x.0) → AreInOrder (λ n. Contains (ids_in (take (i + 1) xs)) n × M n) ns
next_passed M xs ns i x at order none =
    rw (among_more xs i x at)
    (passed (λ n. Contains (ids_in (take i xs)) n × M n)
    (λ n. Contains (ids_in (take i xs) ++ x.0 ∷ []) n × M n) ns x.0 order
    (λ h. none h.1)
    (λ n h. (Contains-append_left (ids_in (take i xs)) (x.0 ∷ []) n h.0, h.1))
    (λ n h. elim (holds_cases (ids_in (take i xs)) x.0 n h.0) [
      | inl before ↦ inl (before, h.1)
      | inr same ↦ inr same
    ]))

-- all of them were passed
pub all_passed : (M : ℕ → Type 0) (xs : List LabelId) (ns : List ℕ) (i : ℕ) → length xs ≤ i
    → AreInOrder (λ n. Contains (ids_in (take i xs)) n × M n) ns
    → AreInOrder (λ n. Contains (ids_in xs) n × M n) ns
all_passed M xs ns i all order =
    subst (λ (ys : List LabelId). AreInOrder (λ n. Contains (ids_in ys) n × M n) ns)
    (take_all i xs all) order

-- those that are so among numbers in order
pub among_order : (P Q R : ℕ → Type 0) (ids ns : List ℕ) → AreInOrder P ids
    → AreInOrder (λ n. Contains ids n × Q n) ns → ((n : ℕ) → R n ↔ (P n × Q n)) → AreInOrder R ns
among_order P Q R ids ns order among same =
    in_order_same (λ n. Contains ids n × Q n) R ns among (λ n. (
      (λ h. (same n).1 ((order.each n).0 h.0, h.1)),
      (λ h. let (p, q) = (same n).0 h in ((order.each n).1 p, q)),
    ))

-- what holds of each and of one more
pub all_more : {X : Type 0} (P : X → Type 0) (xs : List X) (x : X) → AllByRecursion P xs → P x
    → AllByRecursion P (xs ++ x ∷ [])
all_more P [] x all holds = (holds, tt)
all_more P (y ∷ xs) x (first, all) holds = (first, all_more P xs x all holds)

-- those so far, among the added ones that were looked at
pub record AreRenamedSoFar (old new : List Sentence) (passed : List ℕ)
    (pairs : List (ℕ × ℕ)) : Type 0 where
  pub order : AreInOrder (λ n. Contains passed n × ((m : ℕ) × IsRenamed old new m n))
      (map (λ p. p.1) pairs)
  pub each : AllByRecursion (λ p. IsRenamed old new p.0 p.1) pairs

module _ (old new : List Sentence) (xs : List LabelId) (those more : List Renaming) (i : ℕ)
    (x : LabelId) (rising : AreRising (ids_in xs)) (at : slice_get xs i ≡ Some x)
    (so_far : AreRenamedSoFar old new (ids_in (take i xs)) (map plain_renaming those)) where
  pub renamed_more : (former : LabelId) → IsRenamed new old x.0 former.0
      → more ≡ those ++ record { other = former; id = x } ∷ []
      → AreRenamedSoFar old new (ids_in (take (i + 1) xs)) (map plain_renaming more)
  renamed_more former is e =
      let pairs : List (ℕ × ℕ) = map plain_renaming those in
      let longer : map plain_renaming more ≡ pairs ++ (former.0, x.0) ∷ [] =
      ap (map plain_renaming) e ∙ map-append plain_renaming those
      (record { other = former; id = x } ∷ []) in
      let seconds : map (λ (p : ℕ × ℕ). p.1) (pairs ++ (former.0, x.0) ∷ [])
      ≡ map (λ (p : ℕ × ℕ). p.1) pairs ++ x.0 ∷ [] =
      map-append (λ (p : ℕ × ℕ). p.1) pairs ((former.0, x.0) ∷ []) in
      let M : ℕ → Type 0 = λ n. (m : ℕ) × IsRenamed old new m n in
      let passed : List ℕ = ids_in (take (i + 1) xs) in
      subst (λ (ps : List (ℕ × ℕ)). AreRenamedSoFar old new passed ps) (sym longer) (record {
        order =
            subst (λ (ns : List ℕ). AreInOrder (λ n. Contains passed n × M n) ns) (sym seconds)
            (next_taken M xs (map (λ (p : ℕ × ℕ). p.1) pairs) i x rising at so_far.order
            (former.0, (is.1, is.0)));
        each =
            all_more (λ (p : ℕ × ℕ). IsRenamed old new p.0 p.1) pairs (former.0, x.0) so_far.each
            (is.1, is.0);
      })

  pub renamed_passed : ((m : ℕ) → ¬ (IsRenamed new old x.0 m)) → more ≡ those
      → AreRenamedSoFar old new (ids_in (take (i + 1) xs)) (map plain_renaming more)
  renamed_passed none e =
      let M : ℕ → Type 0 = λ n. (m : ℕ) × IsRenamed old new m n in
      subst (λ (rs : List Renaming).
      AreRenamedSoFar old new (ids_in (take (i + 1) xs)) (map plain_renaming rs)) (sym e) (record {
        order = next_passed M xs (map (λ (p : ℕ × ℕ). p.1) (map plain_renaming those)) i x at
            so_far.order (λ (m, is). none m (is.1, is.0));
        each = so_far.each;
      })

-- all added ones were looked at
pub renamed_told : (old new : List Sentence) (xs : List LabelId) (pairs : List (ℕ × ℕ)) (i : ℕ)
    → AreInOrder (IsAlone new old) (ids_in xs) → length xs ≤ i
    → AreRenamedSoFar old new (ids_in (take i xs)) pairs → AreRenamed old new pairs
renamed_told old new xs pairs i added all so_far =
    let M : ℕ → Type 0 = λ n. (m : ℕ) × IsRenamed old new m n in
    record {
      order = among_order (IsAlone new old) M M (ids_in xs) (map (λ (p : ℕ × ℕ). p.1) pairs) added
          (all_passed M xs (map (λ (p : ℕ × ℕ). p.1) pairs) i all so_far.order)
          (λ n. ((λ h. (h.1.0.0, h)), (λ h. h.1)));
      each = so_far.each;
    }

-- ---- what is told of one

-- nothing
pub told_none : (o : Option LabelId) (none : Bool) → is_some o ≡ not none → none ≡ true → o ≡ None
told_none None none is t = refl
told_none (Some n) none is t = absurd (false≢true (sym (ap not t) ∙ sym is))

-- something, where none of it is so
pub told_some : (P : LabelId → Type 0) (o : Option LabelId) (none : Bool) → is_some o ≡ not none
    → none ≡ false → IfSome o P → ((n : LabelId) → ¬ (P n)) → ⊥
told_some P None none is f some lacks = false≢true (is ∙ ap not f)
told_some P (Some n) none is f some lacks = lacks n some

-- ---- assertions

-- what is alone is an assertion
pub alone_asserts : (st others : List Sentence) (id : ℕ) → IsAlone st others id
    → IsAssertionNumber st id
alone_asserts st others id (label, (index, s, numbered, named, asserts), none) =
    (index, s, numbered, asserts)
