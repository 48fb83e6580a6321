-- Sets of numbers as those of their words that aren't 0: what is in them, one within another.
use Rattle.std.proofs.Common.{◌≡◌, ◌↔◌, ℕ, zero, suc, ◌+◌, ◌*◌, ◌/◌, ◌%◌, ◌^◌, ◌<◌, ◌≤◌, min, List}
use Rattle.std.proofs.Common.{[], ◌∷◌, length}
use Rattle.std.proofs.Common.{slice_get, map, Contains, Some, true, false, ◌⊎◌, nat_eq, eq-eqb}
use Rattle.std.proofs.Common.{bit_and, ◌&&◌}
use Rattle.std.proofs.Common.{inl, inr, refl, sym, ap, subst, ◌∙◌, arith, Bool}
use Rattle.std.specs.Int.{bit_at}
use Rattle.std.proofs.lemmas.Nat.Bits.{shr_and_one, bit_at_and, bit_at-lt, bit_at_above}
use Rattle.std.proofs.lemmas.Nat.Bits.{same_from_bits}
use Rattle.std.proofs.lemmas.Bool.{cases_eq, cases_lt, eqb-true, and_parts}
use Rattle.std.proofs.lemmas.List.Folds.{list_any_at}
use Rattle.std.proofs.lemmas.Option.{slice_get_within, get_or_from_slice_get}
use Rattle.mm_base.proofs.Lists.{at_from_contains, contains_from_at, get_within}
use Rattle.mm_frame.proofs.Names.NameNumbers.{get_mapped}
use Rattle.mm_rules.proofs.RisingNumbers.{rising_once}
use Rattle.mm_axioms.specs.declared.bits.SetWord.{SetWord}
use Rattle.mm_axioms.specs.Mirror.Bits.{is_bit_of, has_number, IsPartOf, IsRow}

-- ==== a word

pub bit_parts : (w : SetWord) (n : ℕ)
    → is_bit_of w n ≡ true ↔ ((w.index ≡ n / 64) × (bit_at w.bits (n % 64) ≡ 1))
unfolding is_bit_of
bit_parts w n = (
  (λ h. let both = and_parts (nat_eq w.index (n / 64)) (nat_eq (bit_at w.bits (n % 64)) 1) h in
      (eqb-true w.index (n / 64) both.0, eqb-true (bit_at w.bits (n % 64)) 1 both.1)),
  λ (i, b). let e = eq-eqb w.index (n / 64) i in let f = eq-eqb (bit_at w.bits (n % 64)) 1 b in cc,
)

-- the bit at a place is that of one number
pub bit_at_place : (w : SetWord) (i : ℕ) → i < 64
    → is_bit_of w (w.index * 64 + i) ≡ true ↔ (bit_at w.bits i ≡ 1)
bit_at_place w i less =
    let q : (w.index * 64 + i) / 64 ≡ w.index = omega arith in
    let r : (w.index * 64 + i) % 64 ≡ i = omega arith in (
      (λ h. ap (λ (k : ℕ). bit_at w.bits k) (sym r) ∙ ((bit_parts w (w.index * 64 + i)).0 h).1),
      λ b. (bit_parts w (w.index * 64 + i)).1 (sym q, ap (λ (k : ℕ). bit_at w.bits k) r ∙ b),
    )

-- ==== a row

-- some word of the row has the bit
pub word_of : (row : List SetWord) (n : ℕ) → has_number row n ≡ true
    → (w : SetWord) × Contains row w × (is_bit_of w n ≡ true)
word_of [] n h = absurd cc
word_of (w ∷ row) n h = go (λ t. word_of row n t) (is_bit_of w n) refl
  where
    go : (has_number row n ≡ true → (v : SetWord) × Contains row v × (is_bit_of v n ≡ true))
        → (b : Bool) → is_bit_of w n ≡ b
        → (v : SetWord) × Contains (w ∷ row) v × (is_bit_of v n ≡ true)
    go rest true e = (w, contains_from_at (w ∷ row) w (0, refl), e)
    go rest false e =
        let (v, among, bit) = rest cc in
        let (i, there) = at_from_contains row v among in
        (v, contains_from_at (w ∷ row) v (suc i, there), bit)

pub number_of : (row : List SetWord) (w : SetWord) (n : ℕ) → Contains row w → is_bit_of w n ≡ true
    → has_number row n ≡ true
number_of row w n among bit =
    let (i, there) = at_from_contains row w among in
    list_any_at (λ v. is_bit_of v n) row i w (slice_get_within row i w there)
    (ap (λ (v : SetWord). is_bit_of v n) (get_or_from_slice_get row i w w there) ∙ bit)

-- a row has one word with an index
pub one_word : (row : List SetWord) (v w : SetWord) → IsRow row → Contains row v → Contains row w
    → v.index ≡ w.index → v ≡ w
one_word row v w h first second same =
    let (i, at) = at_from_contains row v first in
    let (j, there) = at_from_contains row w second in
    let index : SetWord → ℕ = λ u. u.index in
    let one : i ≡ j = rising_once (map (λ u. u.index) row) i j w.index h.rising
    (get_mapped index row i v at ∙ ap (λ (k : ℕ). Some k) same) (get_mapped index row j w there) in
    cc (one, at, there)

-- ==== one within another

-- the words so far were found
pub record IsFound (row others : List SetWord) (found k : ℕ) : Type 0 where
  pub some : found ≤ length row
  pub before : (i : ℕ) (w : SetWord) → i < found → slice_get row i ≡ Some w
      → (v : SetWord) × Contains others v × IsPartOf w v
  pub after : (j : ℕ) (v w : SetWord) → j < k → slice_get others j ≡ Some v
      → slice_get row found ≡ Some w → ¬ (IsPartOf w v)

pub found_none : (row others : List SetWord) → IsFound row others 0 0
found_none row others = record {
  some = omega arith;
  before = λ i w less at. absurd (omega arith);
  after = λ j v w less at there. absurd (omega arith);
}

pub found_one : (row others : List SetWord) (found k : ℕ) (w v : SetWord) → IsRow row → IsRow others
    → IsFound row others found k
    → slice_get row found ≡ Some w → slice_get others k ≡ Some v → IsPartOf w v
    → IsFound row others (found + 1) (k + 1)
found_one row others found k w v own other h at there part =
    let within : found < length row = slice_get_within row found w at in
    let index : SetWord → ℕ = λ u. u.index in
    record {
      some = omega arith;
      before = λ i u less here. elim (cases_eq i found) [
        | inl last ↦
            let one : u ≡ w = cc (last, here, at) in (
              v,
              contains_from_at others v (k, there),
              subst (λ (t : SetWord). IsPartOf t v)
                  (sym one) part,
            )
        | inr earlier ↦ h.before i u (omega arith) here
      ];
      after = λ j u x less here next (same, _).
          let up : w.index < x.index =
          own.rising found (found + 1) w.index x.index (omega arith)
          (get_mapped index row found w at) (get_mapped index row (found + 1) x next) in
          elim (cases_eq j k) [
            | inl last ↦ let one : u ≡ v = cc (last, here, there) in let e : u.index ≡ v.index = ap
                index one in let f = part.0 in absurd (omega arith)
            | inr earlier ↦
                let below : u.index < v.index =
                other.rising j k u.index v.index (omega arith) (get_mapped index others j u here)
                (get_mapped index others k v there) in
                let f = part.0 in absurd (omega arith)
          ];
    }

pub found_no_more : (row others : List SetWord) (found k : ℕ) (v : SetWord)
    → IsFound row others found k → slice_get others k ≡ Some v
    → ((w : SetWord) → slice_get row found ≡ Some w → ¬ (IsPartOf w v))
    → IsFound row others found (k + 1)
found_no_more row others found k v h there none = record {
  some = h.some;
  before = h.before;
  after = λ j u w less here at. elim (cases_eq j k) [
    | inl last ↦ let one : u ≡ v = cc (last, here, there) in λ part. none w at
        (subst (λ (t : SetWord). IsPartOf w t) one part)
    | inr earlier ↦ h.after j u w (omega arith) here at
  ];
}

-- a word that is part of another one has no bit that this one lacks
part_bit : (w v : SetWord) (n : ℕ) → IsPartOf w v → is_bit_of w n ≡ true → is_bit_of v n ≡ true
part_bit w v n part bit =
    let (index, own) = (bit_parts w n).0 bit in
    let both : min (bit_at w.bits (n % 64)) (bit_at v.bits (n % 64)) ≡ 1 =
    sym (bit_at_and w.bits v.bits (n % 64)) ∙ ap (λ (b : ℕ). bit_at b (n % 64)) part.1 ∙ own in
    let few : bit_at v.bits (n % 64) < 2 = bit_at-lt v.bits (n % 64) in
    let one : bit_at v.bits (n % 64) ≡ 1 = omega arith in
    (bit_parts v n).1 (sym part.0 ∙ index, one)

part_at : (row : List SetWord) (w v : SetWord) → IsRow row → w.bits < 2 ^ 64 → Contains row v
    → w.index ≡ v.index
    → ((m : ℕ) → is_bit_of w m ≡ true → has_number row m ≡ true)
    → (i : ℕ) → (i < 64) ⊎ (64 ≤ i) → (b : ℕ) → bit_at w.bits i ≡ b
    → bit_at (bit_and w.bits v.bits) i ≡ bit_at w.bits i
part_at row w v h few among same all i (inr past) b e =
    let none : bit_at w.bits i ≡ 0 = bit_at_above w.bits 64 i few past in
    let both = bit_at_and w.bits v.bits i in omega arith
part_at row w v h few among same all i (inl less) zero e = let both = bit_at_and w.bits v.bits i in
    omega arith
part_at row w v h few among same all i (inl less) (suc zero) e =
    let n : ℕ = w.index * 64 + i in
    let (u, there, own) = word_of row n (all n ((bit_at_place w i less).1 e)) in
    let parts = (bit_parts u n).0 own in
    let q : n / 64 ≡ w.index = omega arith in
    let r : n % 64 ≡ i = omega arith in
    let one : u ≡ v = one_word row u v h there among (parts.0 ∙ q ∙ same) in
    let bit_v : bit_at v.bits i ≡ 1 = ap (λ (x : SetWord). bit_at x.bits i) (sym one)
    ∙ ap (λ (k : ℕ). bit_at u.bits k) (sym r) ∙ parts.1 in
    let both = bit_at_and w.bits v.bits i in omega arith
part_at row w v h few among same all i (inl less) (suc (suc b)) e = let more = bit_at-lt w.bits i in
    absurd (omega arith)

-- a word whose numbers are all in a row is part of a word of it
is_part : (row : List SetWord) (w : SetWord) → IsRow row → w.bits < 2 ^ 64 → (n : ℕ)
    → is_bit_of w n ≡ true
    → ((m : ℕ) → is_bit_of w m ≡ true → has_number row m ≡ true)
    → (v : SetWord) × Contains row v × IsPartOf w v
is_part row w h few n bit all =
    let (v, among, here) = word_of row n (all n bit) in
    let same : w.index ≡ v.index = ((bit_parts w n).0 bit).0 ∙ sym ((bit_parts v n).0 here).0 in (
      v,
      among,
      (
        same,
        same_from_bits (bit_and w.bits v.bits) w.bits
            (λ i. part_at row w v h few among same all i (cases_lt i 64) (bit_at w.bits i) refl),
      ),
    )

-- all words were found exactly if all numbers are there
pub found_all : (row others : List SetWord) (found k : ℕ) → IsRow row → IsRow others
    → IsFound row others found k → length others ≤ k
    → found ≡ length row ↔ ((n : ℕ) → has_number row n ≡ true → has_number others n ≡ true)
found_all row others found k own other h all = (
  (λ e n holds.
      let (w, among, bit) = word_of row n holds in
      let (i, at) = at_from_contains row w among in
      let within = slice_get_within row i w at in
      let (v, there, part) = h.before i w (omega arith) at in
      number_of others v n there (part_bit w v n part bit)),
  λ within. elim (cases_eq found (length row)) [
    | inl e ↦ e
    | inr less ↦ absurd (
        let some = h.some in
        let (w, at) = get_within row found (omega arith) in
        let among = contains_from_at row w (found, at) in
        let (n, bit) = own.filled w among in
        let (v, there, part) = is_part others w other (own.narrow w among).1 n bit
        (λ m b. within m (number_of row w m among b)) in
        let (j, here) = at_from_contains others v there in
        let past = slice_get_within others j v here in
        h.after j v w (omega arith) here at part)
  ],
)

-- a test of the bit, where the index is that of the number's word, and where it isn't
pub is_bit_of_here : (w : SetWord) (n : ℕ) → w.index ≡ n / 64
    → nat_eq (bit_and (w.bits / 2 ^ (n % 64)) 1) 1 ≡ is_bit_of w n
unfolding is_bit_of
is_bit_of_here w n e = ap (λ (b : ℕ). nat_eq b 1) (shr_and_one w.bits (n % 64))
    ∙ (let f = eq-eqb w.index (n / 64) e in cc)

pub no_bit_of : (w : SetWord) (n : ℕ) → ¬ (w.index ≡ n / 64)
    → nat_eq w.index (n / 64) ≡ is_bit_of w n
unfolding is_bit_of
no_bit_of w n other = go (nat_eq w.index (n / 64)) refl
  where
    go : (b : Bool) → nat_eq w.index (n / 64) ≡ b → b ≡ (b && nat_eq (bit_at w.bits (n % 64)) 1)
    go true e = absurd (other (eqb-true w.index (n / 64) e))
    go false e = refl
