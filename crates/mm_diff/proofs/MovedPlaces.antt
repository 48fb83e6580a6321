-- Places of assertions among those of both databases, and which of them were moved. On this file
-- rest the contracts of `moved`.
use Rattle.std.proofs.Common.{◌≡◌, ◌⊎◌, ℕ, zero, suc, ◌+◌, ◌-◌, ◌<◌, ◌≤◌, List, [], ◌∷◌, ◌++◌, take}
use Rattle.std.proofs.Common.{length, get_or, slice_get, Some, inl, inr, refl, sym, ap}
use Rattle.std.proofs.Common.{subst, ◌∙◌, arith, min, ◌^◌}
use Rattle.std.specs.List.{AllZip}
use Rattle.std.proofs.lemmas.Bool.{cases_eq}
use Rattle.std.proofs.lemmas.List.{length-map, map-append, take_more}
use Rattle.std.proofs.lemmas.Option.{same_Some, slice_get-get_or, slice_get_within}
use Rattle.std.proofs.lemmas.Slice.Zip.{AllZip-long, all_zipped_more}
use Rattle.mm_base.proofs.Lists.{one_there}
use Rattle.mm_frame.specs.declared.number.LabelId.{LabelId}
use Rattle.mm_frame.specs.Numbers.{IsAssertionNumber}
use Rattle.mm_frame.specs.Rules.{AllMeant}
use Rattle.mm_frame.specs.Sentence.{Sentence}
use Rattle.mm_frame.proofs.Names.NameNumbers.{get_mapped, get_unmapped}
use Rattle.mm_step.specs.Plain.{ids_in}
use Rattle.mm_rules.proofs.RisingNumbers.{rising_once}
use Rattle.mm_rules.specs.Rests.{AreInOrder, AreRising}
use Rattle.mm_rules.proofs.Numbers.{in_order_same}
use Rattle.mm_rules.proofs.OrderedNumbers.{in_order_once, passed, taken}
use Rattle.mm_diff.specs.Diff.{distance, HasPlaces, HaveTurned, IsMoved}
use Rattle.mm_alike.specs.Alike.{IsAssertionNamed}
use Rattle.mm_alike.specs.Alike.{IsShared}
use Rattle.mm_diff.specs.Mirror.Changes.{IsMovedAmong, IsMovedAt, IsPassedBy, StandsAt}
use Rattle.mm_alike.proofs.DifferingNumbers.{one_name_of, one_number}

-- ---- how far it is to what was passed

-- what passed one that is no further from its place stands within twice its own distance
pub near : (was is other_was other_is : ℕ) → HaveTurned was is other_was other_is
    → distance other_was other_is ≤ distance was is
    → (other_is ≤ is + distance was is + distance was is)
    × (is ≤ other_is + distance was is + distance was is)
near was is other_was other_is (inl turned) nearer = (omega arith, omega arith)
near was is other_was other_is (inr turned) nearer = (omega arith, omega arith)

-- none passed what stands at an index, if none did of those so far, and they are all that stand so
-- near
pub none_left : (places : List ℕ) (at reach start stop d : ℕ) → at < length places
    → reach ≡ distance (get_or places at d) at → start ≡ at - reach - reach
    → ((k : ℕ) → k < length places → k ≤ at + reach + reach → k < stop)
    → ((k : ℕ) → start ≤ k → k < stop → ¬ (IsPassedBy places at k)) → ¬ (IsMovedAt places at)
none_left places at reach start stop d less is begins ends none (k, by) =
    let own : by.was ≡ get_or places at d =
    one_there places at by.was (get_or places at d) by.there (slice_get-get_or places at d less) in
    let far : distance by.was at ≡ reach = ap (λ (p : ℕ). distance p at) own ∙ sym is in
    let (up, down) = near by.was at by.other_was k by.turned by.nearer in
    let up_to : k ≤ at + reach + reach = subst (λ (n : ℕ). k ≤ at + n + n) far up in
    let from : at ≤ k + reach + reach = subst (λ (n : ℕ). at ≤ k + n + n) far down in
    let within : k < length places = slice_get_within places k by.other_was by.other_there in
    none k (omega arith) (ends k within up_to) by

-- the end of those that stand so near, which may be the greatest number
pub end_passed : (k at reach middle end other : ℕ) → middle ≡ min (at + reach) (2 ^ 64 - 1)
    → end ≡ min (middle + reach) (2 ^ 64 - 1) → end < other → other < 2 ^ 64
    → k ≤ at + reach + reach → k < other
end_passed k at reach middle end other first second past fits within = omega arith

-- ---- those that are so at their index

-- those before an index
abbrev pub AreTakenBefore : (P : ℕ → Type 0) → (ids : List ℕ) → (end : ℕ) → List ℕ → Type 0
AreTakenBefore P ids end ns =
    AreInOrder (λ n. (at : ℕ) × (at < end) × (slice_get ids at ≡ Some n) × P at) ns

module _ (P : ℕ → Type 0) (ids : List LabelId) (those more : List LabelId) (i : ℕ) (x : LabelId)
    (rising : AreRising (ids_in ids)) (there : slice_get ids i ≡ Some x)
    (so_far : AreTakenBefore P (ids_in ids) i (ids_in those)) where
  here : slice_get (ids_in ids) i ≡ Some x.0
  here = get_mapped (λ (l : LabelId). l.0) ids i x there

  last_or_before : (n : ℕ) → (at : ℕ) × (at < i + 1) × (slice_get (ids_in ids) at ≡ Some n) × P at
      → ((at : ℕ) × (at < i) × (slice_get (ids_in ids) at ≡ Some n) × P at) ⊎ (n ≡ x.0)
  last_or_before n (at, less, stands, holds) = elim (cases_eq at i) [
    | inl same ↦
        inr (one_there (ids_in ids) i n x.0
        (subst (λ (k : ℕ). slice_get (ids_in ids) k ≡ Some n) same stands) here)
    | inr other ↦ inl (at, omega arith, stands, holds)
  ]

  pub next_moved : P i → more ≡ those ++ x ∷ [] → AreTakenBefore P (ids_in ids) (i + 1) (ids_in more)
  next_moved holds e =
      rw (e, map-append)
      (taken (λ n. (at : ℕ) × (at < i) × (slice_get (ids_in ids) at ≡ Some n) × P at)
      (λ n. (at : ℕ) × (at < i + 1) × (slice_get (ids_in ids) at ≡ Some n) × P at) (ids_in those)
      x.0 so_far
      (λ n (at, less, stands, h). rising at i n x.0 less stands here)
      (i, omega arith, here, holds)
      (λ n (at, less, stands, h). (at, omega arith, stands, h))
      last_or_before)

  pub next_stays : ¬ (P i) → more ≡ those → AreTakenBefore P (ids_in ids) (i + 1) (ids_in more)
  next_stays none e =
      rw e
      (passed (λ n. (at : ℕ) × (at < i) × (slice_get (ids_in ids) at ≡ Some n) × P at)
      (λ n. (at : ℕ) × (at < i + 1) × (slice_get (ids_in ids) at ≡ Some n) × P at) (ids_in those)
      x.0 so_far
      (λ (at, less, stands, h). none (subst P
      (rising_once (ids_in ids) at i x.0 rising stands here) h))
      (λ n (at, less, stands, h). (at, omega arith, stands, h))
      last_or_before)

-- all of them
pub all_moved : (P : ℕ → Type 0) (ids ns : List ℕ) (end : ℕ) → length ids ≤ end
    → AreTakenBefore P ids end ns
    → AreInOrder (λ n. (at : ℕ) × (slice_get ids at ≡ Some n) × P at) ns
all_moved P ids ns end all order =
    in_order_same (λ n. (at : ℕ) × (at < end) × (slice_get ids at ≡ Some n) × P at)
    (λ n. (at : ℕ) × (slice_get ids at ≡ Some n) × P at) ns order (λ n. (
      (λ (at, less, stands, h). (at, stands, h)),
      (λ (at, stands, h).
          let within : at < length ids = slice_get_within ids at n stands in
          (at, omega arith, stands, h)),
    ))

-- ---- places before and now

-- what both databases have is an assertion
pub shared_asserts : (st others : List Sentence) (id : ℕ) → IsShared st others id
    → IsAssertionNumber st id
shared_asserts st others id (label, (index, s, numbered, named, asserts), n, there) =
    (index, s, numbered, asserts)

-- it has the label there
pub shared_named : (st others : List Sentence) (id : ℕ) (label : List ℕ) → IsShared st others id
    → IsAssertionNamed st label id → (n : ℕ) × IsAssertionNamed others label n
shared_named st others id label (name, named, n, there) here = (
  n,
  subst (λ (l : List ℕ). IsAssertionNamed others l n)
      (one_name_of st name label id named here) there,
)

-- one more place
pub places_more : (R : LabelId → ℕ → Type 0) (ids : List LabelId) (places more : List ℕ)
    (i place : ℕ) (d : LabelId) → i < length ids → AllZip R (take i ids) places
    → R (get_or ids i d) place → more ≡ places ++ place ∷ [] → AllZip R (take (i + 1) ids) more
places_more R ids places more i place d less so_far holds e =
    rw (e, take_more ids i d less)
    (all_zipped_more R (take i ids) places (get_or ids i d) place so_far holds)

-- of two lists side by side
pub zip_left : {A B : Type 0} (R : A → B → Type 0) (xs : List A) (ys : List B) (i : ℕ) (x : A)
    → AllZip R xs ys → slice_get xs i ≡ Some x → (y : B) × (slice_get ys i ≡ Some y) × R x y
zip_left R [] [] i x all there = absurd (cc)
zip_left R [] (y ∷ ys) i x all there = absurd all
zip_left R (z ∷ xs) [] i x all there = absurd all
zip_left R (z ∷ xs) (y ∷ ys) zero x all there =
    (y, refl, subst (λ w. R w y) (same_Some z x there) all.0)
zip_left R (z ∷ xs) (y ∷ ys) (suc i) x all there = zip_left R xs ys i x all.1 there

module _ (old new : List Sentence) (meant : AllMeant old) (before : List ℕ) (ids : List LabelId)
    (places : List ℕ) (olds : AreInOrder (IsShared old new) before)
    (news : AreInOrder (IsShared new old) (ids_in ids))
    (stand : AllZip (λ id place. StandsAt old new before id.0 place) ids places) where
  -- what stands at an index has these places
  places_at : (at n was : ℕ) → slice_get (ids_in ids) at ≡ Some n → slice_get places at ≡ Some was
      → HasPlaces old new n was at
  places_at at n was here there =
      let (id, is, number) = get_unmapped (λ (l : LabelId). l.0) ids at n here in
      let (place, stands, (label, named, former, named_too, at_place)) =
      zip_left (λ id place. StandsAt old new before id.0 place) ids places at id stand is in
      let same : place ≡ was = same_Some place was (sym stands ∙ there) in (
        (ids_in ids, news, here),
        label,
        subst (λ (k : ℕ). IsAssertionNamed new label k) number named,
        former,
        named_too,
        (before, olds, subst (λ (p : ℕ). slice_get before p ≡ Some former) same at_place),
      )

  -- what has these places stands at that index, and its place before is told there
  at_places : AllMeant new → (n was is : ℕ) → HasPlaces old new n was is
      → (slice_get (ids_in ids) is ≡ Some n) × (slice_get places is ≡ Some was)
  at_places meant_too n was is
      ((own, order, there), label, named, former, named_too, (own_too, order_too, there_too)) =
      let same : own ≡ ids_in ids = in_order_once (IsShared new old) own (ids_in ids) order news in
      let same_too : own_too ≡ before =
      in_order_once (IsShared old new) own_too before order_too olds in
      let here : slice_get (ids_in ids) is ≡ Some n =
      subst (λ (xs : List ℕ). slice_get xs is ≡ Some n) same there in
      let here_too : slice_get before was ≡ Some former =
      subst (λ (xs : List ℕ). slice_get xs was ≡ Some former) same_too there_too in
      let (id, stands, number) = get_unmapped (λ (l : LabelId). l.0) ids is n here in
      let (place, told, (name, has, one, has_too, at_place)) =
      zip_left (λ id place. StandsAt old new before id.0 place) ids places is id stand stands in
      let equal : name ≡ label =
      one_name_of new name label n (subst (λ (k : ℕ). IsAssertionNamed new name k) number has)
      named in
      let again : one ≡ former =
      one_number old label one former meant
      (subst (λ (l : List ℕ). IsAssertionNamed old l one) equal has_too) named_too in
      let spot : place ≡ was =
      rising_once before place was former olds.rising
      (subst (λ (k : ℕ). slice_get before place ≡ Some k) again at_place) here_too in
      (here, told ∙ ap (λ (p : ℕ). Some p) spot)

  -- the moved ones by their indices are those by their places
  pub moved_told : AllMeant new → (ns : List ℕ)
      → AreInOrder (IsMovedAmong (ids_in ids) places) ns → AreInOrder (IsMoved old new) ns
  moved_told meant_too ns order =
      in_order_same (IsMovedAmong (ids_in ids) places) (IsMoved old new) ns order (λ n. (
        (λ (at, here, (other, by)).
            let within : other < length (ids_in ids) = other_within other by.other_was by.other_there
            in
            let m : ℕ = get_or (ids_in ids) other 0 in
            let stands : slice_get (ids_in ids) other ≡ Some m =
            slice_get-get_or (ids_in ids) other 0 within in
            record {
              was = by.was;
              is = at;
              places = places_at at n by.was here by.there;
              other = m;
              other_was = by.other_was;
              other_is = other;
              other_places = places_at other m by.other_was stands by.other_there;
              turned = by.turned;
              nearer = by.nearer;
            }),
        (λ moved.
            let (here, there) = at_places meant_too n moved.was moved.is moved.places in
            let (stands, told) =
            at_places meant_too moved.other moved.other_was moved.other_is moved.other_places in (
              moved.is,
              here,
              (
                moved.other_is,
                record {
                  was = moved.was;
                  there = there;
                  other_was = moved.other_was;
                  other_there = told;
                  turned = moved.turned;
                  nearer = moved.nearer;
                },
              ),
            )),
      ))
    where
      other_within : (other was : ℕ) → slice_get places other ≡ Some was
          → other < length (ids_in ids)
      other_within other was there =
          let long : length ids ≡ length places = sym (AllZip-long (λ (id : LabelId) (place : ℕ). StandsAt old new before id.0 place) ids places stand) in
          let within : other < length places = slice_get_within places other was there in
          omega (arith, length-map ids (λ (l : LabelId). l.0), long, within)
