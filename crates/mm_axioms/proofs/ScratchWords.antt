-- The words of a set that aren't 0, out of all words: what is in them, and one word more or less.
use Rattle.std.proofs.Common.{◌≡◌, ◌↔◌, ℕ, zero, suc, ◌+◌, ◌*◌, ◌/◌, ◌%◌, ◌^◌, ◌<◌, ◌≤◌, max, List}
use Rattle.std.proofs.Common.{[], ◌∷◌, ◌++◌, length}
use Rattle.std.proofs.Common.{get_or, slice_get, set, take, map, replicate, Contains, Some, true}
use Rattle.std.proofs.Common.{false, ◌||◌, ◌⊎◌, nat_eq, eq-eqb, bit_or, w64}
use Rattle.std.proofs.Common.{inl, inr, refl, sym, ap, subst, ◌∙◌, arith, Bool, if◌then◌else◌}
use Rattle.std.proofs.Common.{append_assoc}
use Rattle.std.specs.Int.{bit_at}
use Rattle.std.proofs.lemmas.Nat.Bits.{bit_at_or, bit_at-zero, bit_at_set_same, bit_at_set_other}
use Rattle.std.proofs.lemmas.Nat.Bits.{bit_at-trailing_zeros}
use Rattle.std.proofs.lemmas.Bool.{cases_eq, cases_lt, eqb-true}
use Rattle.std.proofs.lemmas.List.{get_or-set_same, get_or-set_other, get_or_past, length-set}
use Rattle.std.proofs.lemmas.List.{take_all}
use Rattle.std.proofs.lemmas.List.Folds.{list_any_more}
use Rattle.std.proofs.lemmas.Option.{slice_get_within, same_Some, slice_get-get_or}
use Rattle.std.proofs.lemmas.Option.{get_or_from_slice_get}
use Rattle.mm_base.proofs.Lists.{at_from_contains, contains_from_at}
use Rattle.mm_frame.proofs.Names.NameNumbers.{get_unmapped}
use Rattle.mm_rules.specs.Rests.{AreRising}
use Rattle.mm_rules.proofs.RisingNumbers.{rising_once}
use Rattle.mm_axioms.specs.declared.bits.SetWord.{SetWord}
use Rattle.mm_axioms.specs.Mirror.Bits.{has_bit, is_bit_of, has_number, words_from, IsRow}
use Rattle.mm_axioms.specs.Mirror.Scratch.{IsNoted}
use Rattle.mm_axioms.proofs.WordBits.{has_word, bit_either}
use Rattle.mm_axioms.proofs.WordSets.{bit_parts, word_of, number_of, bit_at_place}

cons_cases : (x : SetWord) (xs : List SetWord) (y : SetWord) → Contains (x ∷ xs) y
    → (x ≡ y) ⊎ Contains xs y
cons_cases x xs y h = let at = at_from_contains (x ∷ xs) y h in go at.0 at.1
  where
    go : (i : ℕ) → slice_get (x ∷ xs) i ≡ Some y → (x ≡ y) ⊎ Contains xs y
    go zero e = inl (same_Some x y e)
    go (suc i) e = inr (contains_from_at xs y (i, e))

-- ==== what the words are

-- the word is one of all, and isn't 0
abbrev IsWordAt : ℕ → List ℕ → SetWord → Type 0
IsWordAt i ws v = (j : ℕ) × (v.index ≡ i + j) × (j < length ws) × (get_or ws j 0 ≡ v.bits)
    × (0 < v.bits)

later_word : (i : ℕ) (w : ℕ) (ws : List ℕ) (v : SetWord) → IsWordAt (i + 1) ws v
    → IsWordAt i (w ∷ ws) v
later_word i w ws v (j, index, less, at, some) = (suc j, omega arith, omega arith, at, some)

word_each : (i : ℕ) (ws : List ℕ) (v : SetWord) → Contains (words_from i ws) v → IsWordAt i ws v
word_each i [] v h = absurd (let at = at_from_contains [] v h in let none = at.1 in cc)
word_each i (w ∷ ws) v h = go (λ t. later_word i w ws v (word_each (i + 1) ws v t)) (nat_eq w 0)
    refl h
  where
    go : (Contains (words_from (i + 1) ws) v → IsWordAt i (w ∷ ws) v) → (b : Bool) → nat_eq w 0 ≡ b
        → Contains (if b then words_from (i + 1) ws else
        (record { index = i; bits = w } ∷ words_from (i + 1) ws)) v → IsWordAt i (w ∷ ws) v
    go rest true e t = rest t
    go rest false e t =
        elim (cons_cases (record { index = i; bits = w }) (words_from (i + 1) ws) v t) [
          | inl here ↦ (
            0,
            ap (λ (u : SetWord). u.index) (sym here) ∙ omega arith,
            omega arith,
            ap (λ (u : SetWord). u.bits) here,
            (let bits : w ≡ v.bits = ap (λ (u : SetWord). u.bits) here in
                elim (cases_eq w 0) [
                  | inl none ↦ absurd (let f = eq-eqb w 0 none in cc)
                  | inr some ↦ omega arith
                ]),
          )
          | inr more ↦ rest more
        ]

-- each word that isn't 0 is there
word_there : (i : ℕ) (ws : List ℕ) (j : ℕ) → 0 < get_or ws j 0
    → Contains (words_from i ws) (record { index = i + j; bits = get_or ws j 0 })
word_there i [] j h = absurd (omega arith)
word_there i (w ∷ ws) zero h = go (nat_eq w 0) refl
  where
    go : (b : Bool) → nat_eq w 0 ≡ b
        → Contains (if b then words_from (i + 1) ws else
        (record { index = i; bits = w } ∷ words_from (i + 1) ws))
        (record { index = i + 0; bits = w })
    go true e = absurd (let none = eqb-true w 0 e in omega arith)
    go false e =
        let z : i ≡ i + 0 = omega arith in
        let all : List SetWord = record { index = i; bits = w } ∷ words_from (i + 1) ws in
        subst (λ (k : ℕ). Contains all (record { index = k; bits = w })) z
        (contains_from_at all (record { index = i; bits = w }) (0, refl))
word_there i (w ∷ ws) (suc j) h = go (word_there (i + 1) ws j h) (nat_eq w 0)
  where
    go : Contains (words_from (i + 1) ws) (record { index = i + 1 + j; bits = get_or ws j 0 })
        → (b : Bool)
        → Contains (if b then words_from (i + 1) ws else
        (record { index = i; bits = w } ∷ words_from (i + 1) ws))
        (record { index = i + suc j; bits = get_or ws j 0 })
    go rest true =
        (let e : i + 1 + j ≡ i + suc j = omega arith in subst
        (λ (k : ℕ). Contains (words_from (i + 1) ws) (record { index = k; bits = get_or ws j 0 })) e
        rest)
    go rest false =
        let e : i + 1 + j ≡ i + suc j = omega arith in
        let v : SetWord = record { index = i + suc j; bits = get_or ws j 0 } in
        let (k, at) = at_from_contains (words_from (i + 1) ws) v
        (subst (λ (k : ℕ). Contains (words_from (i + 1) ws)
        (record { index = k; bits = get_or ws j 0 })) e rest) in
        contains_from_at (record { index = i; bits = w } ∷ words_from (i + 1) ws) v (suc k, at)

-- ==== they are a row

rising_cons : (x : ℕ) (xs : List ℕ) → ((n : ℕ) → Contains xs n → x < n) → AreRising xs
    → AreRising (x ∷ xs)
rising_cons x xs above rising zero zero a b lt at there = absurd (omega arith)
rising_cons x xs above rising zero (suc j) a b lt at there =
    subst (λ (n : ℕ). n < b) (same_Some x a at) (above b (contains_from_at xs b (j, there)))
rising_cons x xs above rising (suc i) zero a b lt at there = absurd (omega arith)
rising_cons x xs above rising (suc i) (suc j) a b lt at there = rising i j a b (omega arith) at
    there

words_rise : (i : ℕ) (ws : List ℕ) → AreRising (map (λ (v : SetWord). v.index) (words_from i ws))
words_rise i [] = λ a b x y lt at there. absurd cc
words_rise i (w ∷ ws) = go (words_rise (i + 1) ws) (nat_eq w 0)
  where
    go : AreRising (map (λ (v : SetWord). v.index) (words_from (i + 1) ws)) → (b : Bool)
        → AreRising (map (λ (v : SetWord). v.index)
        (if b then words_from (i + 1) ws else
        (record { index = i; bits = w } ∷ words_from (i + 1) ws)))
    go rest true = rest
    go rest false = rising_cons i (map (λ (v : SetWord). v.index) (words_from (i + 1) ws))
        (λ n among.
        let (k, at) = at_from_contains (map (λ (v : SetWord). v.index) (words_from (i + 1) ws))
        n among in
        let (v, there, same) = get_unmapped (λ (v : SetWord). v.index) (words_from (i + 1) ws) k
        n at in
        let (j, index, less, is, some) = word_each (i + 1) ws v
        (contains_from_at (words_from (i + 1) ws) v (k, there)) in
        omega arith)
        rest

pub row_of_words : (ws : List ℕ) → length ws ≤ 2 ^ 58 → ((j : ℕ) → get_or ws j 0 < 2 ^ 64)
    → IsRow (words_from 0 ws)
row_of_words ws few bits = record {
  rising = words_rise 0 ws;
  filled = λ v among.
      let (j, index, less, at, some) = word_each 0 ws v among in
      let small : v.bits < 2 ^ 64 = subst (λ (n : ℕ). n < 2 ^ 64) at (bits j) in
      let (place, bit, first) = bit_at-trailing_zeros w64 v.bits some small in
      (_, (bit_at_place v _ place).1 bit);
  narrow = λ v among.
      let (j, index, less, at, some) = word_each 0 ws v among in
      (omega arith, subst (λ (n : ℕ). n < 2 ^ 64) at (bits j));
}

-- ==== the numbers in them

pub number_in_words : (ws : List ℕ) (n : ℕ)
    → has_number (words_from 0 ws) n ≡ true ↔ (has_bit ws n ≡ true)
number_in_words ws n = (
  (λ h.
      let (v, among, bit) = word_of (words_from 0 ws) n h in
      let (j, index, less, at, some) = word_each 0 ws v among in
      let (here, own) = (bit_parts v n).0 bit in
      let e : j ≡ n / 64 = omega arith in
      (has_word ws n).1
      (ap (λ (k : ℕ). bit_at (get_or ws k 0) (n % 64)) (sym e)
      ∙ ap (λ (b : ℕ). bit_at b (n % 64)) at ∙ own)),
  λ h.
      let bit = (has_word ws n).0 h in
      let some : 0 < get_or ws (n / 64) 0 = elim (cases_eq (get_or ws (n / 64) 0) 0) [
        | inl none ↦ absurd
            (let one : bit_at 0 (n % 64) ≡ 1 = ap (λ (b : ℕ). bit_at b (n % 64)) (sym none)
            ∙ bit in let is = bit_at-zero (n % 64) in not_both (bit_at 0 (n % 64)) is one)
        | inr some ↦ omega arith
      ] in
      number_of (words_from 0 ws) (record { index = 0 + n / 64; bits = get_or ws (n / 64) 0 }) n
      (word_there 0 ws (n / 64) some)
      ((bit_parts (record { index = 0 + n / 64; bits = get_or ws (n / 64) 0 }) n).1
      (omega arith, bit)),
)
  where
    not_both : (b : ℕ) → b ≡ 0 → b ≡ 1 → ⊥
    not_both b e f = omega arith

-- ==== a word is put in

pub bit_put : (ws : List ℕ) (w : SetWord) (n : ℕ) → w.index < length ws
    → has_bit (set ws w.index (bit_or (get_or ws w.index 0) w.bits)) n ≡ true ↔
    ((has_bit ws n ≡ true) ⊎ (is_bit_of w n ≡ true))
bit_put ws w n less =
    let new : List ℕ = set ws w.index (bit_or (get_or ws w.index 0) w.bits) in
    elim (cases_eq w.index (n / 64)) [
      | inl same ↦
          let here : get_or new (n / 64) 0 ≡ bit_or (get_or ws (n / 64) 0) w.bits =
          ap (λ (k : ℕ). get_or new k 0) (sym same) ∙ get_or-set_same ws w.index _ 0 less
          ∙ ap (λ (k : ℕ). bit_or (get_or ws k 0) w.bits) same in
          let both = bit_either (get_or ws (n / 64) 0) w.bits (n % 64) in (
            (λ t. elim (both.0
                (ap (λ (b : ℕ). bit_at b (n % 64)) (sym here) ∙ (has_word new n).0 t)) [
                  | inl a ↦ inl ((has_word ws n).1 a)
                  | inr b ↦ inr ((bit_parts w n).1 (same, b))
                ]),
            λ t. (has_word new n).1
                (ap (λ (b : ℕ). bit_at b (n % 64)) here
                ∙ both.1 (elim t
                [ inl a ↦ inl ((has_word ws n).0 a) | inr b ↦ inr ((bit_parts w n).0 b).1 ])),
          )
      | inr apart ↦
          let kept : get_or new (n / 64) 0 ≡ get_or ws (n / 64) 0 = get_or-set_other ws w.index
          (n / 64) _ 0 (λ e. apart (sym e)) in (
            (λ t. inl ((has_word ws n).1
                (ap (λ (b : ℕ). bit_at b (n % 64)) (sym kept) ∙ (has_word new n).0 t))),
            λ t. elim t [
              | inl a ↦ (has_word new n).1
                  (ap (λ (b : ℕ). bit_at b (n % 64)) kept ∙ (has_word ws n).0 a)
              | inr b ↦ absurd (apart ((bit_parts w n).0 b).0)
            ],
          )
    ]

-- the words of a row were put in up to an index
abbrev pub AreJoined : (old new : List ℕ) → List SetWord → ℕ → Type 0
AreJoined old new row k =
    (length new ≡ length old)
    × ((n : ℕ) → has_bit new n ≡ true ↔
    ((has_bit old n ≡ true) ⊎ (has_number (take k row) n ≡ true)))

pub joined_none : (old : List ℕ) (row : List SetWord) → AreJoined old old row 0
joined_none old row = (refl, λ n. ((λ h. inl h), λ h. elim h [ inl a ↦ a | inr b ↦ absurd cc ]))

pub joined_more : (old new next : List ℕ) (row : List SetWord) (k : ℕ) (w : SetWord)
    → AreJoined old new row k → slice_get row k ≡ Some w
    → w.index < length new → next ≡ set new w.index (bit_or (get_or new w.index 0) w.bits)
    → AreJoined old next row (k + 1)
joined_more old new next row k w (same, each) at less e = (
  ap length e ∙ length-set new w.index _ ∙ same,
  λ n.
      let put = bit_put new w n less in
      let within = slice_get_within row k w at in
      let more = list_any_more (λ (v : SetWord). is_bit_of v n) row k w within in
      let here : get_or row k w ≡ w = get_or_from_slice_get row k w w at in
      let both : has_number (take (k + 1) row) n ≡ (has_number (take k row) n || is_bit_of w n) =
      more ∙ ap (λ (v : SetWord). has_number (take k row) n || is_bit_of v n) here in
      let is : has_bit next n ≡ has_bit (set new w.index (bit_or (get_or new w.index 0) w.bits)) n =
      ap (λ (ws : List ℕ). has_bit ws n) e in (
        (λ t. elim (put.0 (sym is ∙ t)) [
          | inl was ↦ elim ((each n).0 was) [
            | inl a ↦ inl a
            | inr b
                ↦ inr (both ∙ or_left (has_number (take k row) n) (is_bit_of w n) b)
          ]
          | inr bit ↦ inr (both ∙ or_right (has_number (take k row) n) (is_bit_of w n) bit)
        ]),
        λ t. is ∙ put.1 (elim t [
          | inl a ↦ inl ((each n).1 (inl a))
          | inr b ↦ elim (or_either (has_number (take k row) n) (is_bit_of w n) (sym both ∙ b))
              [ inl was ↦ inl ((each n).1 (inr was)) | inr bit ↦ inr bit ]
        ]),
      ),
)
  where
    or_left : (a b : Bool) → a ≡ true → (a || b) ≡ true
    or_left true b e = refl
    or_left false b e = absurd cc

    or_right : (a b : Bool) → b ≡ true → (a || b) ≡ true
    or_right true b e = refl
    or_right false b e = e

    or_either : (a b : Bool) → (a || b) ≡ true → (a ≡ true) ⊎ (b ≡ true)
    or_either true b e = inl refl
    or_either false b e = inr e

-- ==== the words are taken out

-- the words before an index were put at the end of a list, and are 0 now
pub record IsDrained (old now : List ℕ) (before after : List SetWord) (at : ℕ) : Type 0 where
  pub same : length now ≡ length old
  pub below : (j : ℕ) → j < at → get_or now j 0 ≡ 0
  pub above : (j : ℕ) → at ≤ j → get_or now j 0 ≡ get_or old j 0
  pub told : after ≡ before ++ words_from 0 (take at old)

words_more : (i : ℕ) (ws : List ℕ) (at : ℕ) → at < length ws
    → words_from i (take (suc at) ws) ≡ words_from i (take at ws) ++ words_from (i + at)
    (get_or ws at 0 ∷ [])
words_more i [] at less = absurd (omega arith)
words_more i (w ∷ ws) zero less =
    (let e : i ≡ i + 0 = omega arith in ap (λ (k : ℕ). words_from k (w ∷ [])) e)
words_more i (w ∷ ws) (suc at) less = go (words_more (i + 1) ws at (omega arith)) (nat_eq w 0)
  where
    go : words_from (i + 1) (take (suc at) ws) ≡ words_from (i + 1) (take at ws) ++ words_from
        (i + 1 + at) (get_or ws at 0 ∷ []) → (b : Bool)
        → (if b then words_from (i + 1) (take (suc at) ws) else
        (record { index = i; bits = w } ∷ words_from (i + 1) (take (suc at) ws)))
        ≡ (if b then words_from (i + 1) (take at ws) else
        (record { index = i; bits = w } ∷ words_from (i + 1) (take at ws))) ++ words_from
        (i + suc at) (get_or ws at 0 ∷ [])
    go rest true = rest
        ∙ (let e : i + 1 + at ≡ i + suc at = omega arith in ap
        (λ (k : ℕ). words_from (i + 1) (take at ws) ++ words_from k (get_or ws at 0 ∷ [])) e)
    go rest false =
        ap (λ (vs : List SetWord). record { index = i; bits = w } ∷ vs)
        (rest ∙ (let e : i + 1 + at ≡ i + suc at = omega arith in ap
        (λ (k : ℕ). words_from (i + 1) (take at ws) ++ words_from k (get_or ws at 0 ∷ [])) e))

words_same : (i : ℕ) (ws : List ℕ) (a b : ℕ) → a ≤ b → ((j : ℕ) → a ≤ j → j < b → get_or ws j 0 ≡ 0)
    → words_from i (take b ws) ≡ words_from i (take a ws)
words_same i [] zero zero up none = refl
words_same i [] zero (suc b) up none = refl
words_same i [] (suc a) zero up none = refl
words_same i [] (suc a) (suc b) up none = refl
words_same i (w ∷ ws) zero zero up none = refl
words_same i (w ∷ ws) zero (suc b) up none =
    go (none 0 (omega arith) (omega arith))
    (words_same (i + 1) ws 0 b (omega arith)
    (λ j more less. none (suc j) (omega arith) (omega arith)))
  where
    go : w ≡ 0 → words_from (i + 1) (take b ws) ≡ []
        → (if nat_eq w 0 then words_from (i + 1) (take b ws) else
        (record { index = i; bits = w } ∷ words_from (i + 1) (take b ws))) ≡ []
    go e rest = (let f = eq-eqb w 0 e in cc)
words_same i (w ∷ ws) (suc a) zero up none = absurd (omega arith)
words_same i (w ∷ ws) (suc a) (suc b) up none =
    let rest = words_same (i + 1) ws a b (omega arith)
    (λ j more less. none (suc j) (omega arith) (omega arith)) in
    ap (λ (vs : List SetWord). if nat_eq w 0 then vs else (record { index = i; bits = w } ∷ vs))
    rest

pub drained_one : (old now next : List ℕ) (before after new : List SetWord) (at : ℕ)
    → IsDrained old now before after at → at < length now
    → next ≡ set now at 0 → new ≡ after ++ words_from at (get_or now at 0 ∷ [])
    → IsDrained old next before new (at + 1)
drained_one old now next before after new at h less e f = record {
  same = ap length e ∙ length-set now at 0 ∙ h.same;
  below = λ j lt. elim (cases_eq j at) [
    | inl last ↦ rw (e, last) (get_or-set_same now at 0 0 less)
    | inr other ↦ rw e (get_or-set_other now at j 0 0 other ∙ h.below j (omega arith))
  ];
  above = λ j more. rw e
      (get_or-set_other now at j 0 0 (λ s. absurd (omega arith)) ∙ h.above j (omega arith));
  told =
      let long = h.same in
      f ∙ ap (λ (vs : List SetWord). vs ++ words_from at (get_or now at 0 ∷ [])) h.told
      ∙ append_assoc before (words_from 0 (take at old)) (words_from at (get_or now at 0 ∷ []))
      ∙ ap (λ (b : ℕ). before ++ (words_from 0 (take at old) ++ words_from at (b ∷ [])))
      (h.above at (omega arith))
      ∙ ap (λ (k : ℕ). before ++
      (words_from 0 (take at old) ++ words_from k (get_or old at 0 ∷ [])))
      (let e : at ≡ 0 + at = omega arith in e)
      ∙ ap (λ (vs : List SetWord). before ++ vs) (sym (words_more 0 old at (omega arith)))
      ∙ ap (λ (k : ℕ). before ++ words_from 0 (take k old))
      (let e : suc at ≡ at + 1 = omega arith in e);
}

pub drained_skip : (old now : List ℕ) (before after : List SetWord) (at to : ℕ)
    → IsDrained old now before after at → at ≤ to
    → ((j : ℕ) → at ≤ j → j < to → get_or now j 0 ≡ 0) → IsDrained old now before after to
drained_skip old now before after at to h up none = record {
  same = h.same;
  below = λ j less. elim (cases_lt j at)
      [ inl first ↦ h.below j first | inr more ↦ none j more less ];
  above = λ j more. h.above j (omega arith);
  told = h.told
      ∙ ap (λ (vs : List SetWord). before ++ vs)
      (sym (words_same 0 old at to up (λ j more less. sym (h.above j more) ∙ none j more less)));
}

-- ==== one word

abbrev words_if : Bool → ℕ → ℕ → List SetWord
words_if b i bits = if b then [] else (record { index = i; bits = bits } ∷ [])

pub one_word_from : (i bits : ℕ) → ¬ (bits ≡ 0)
    → words_from i (bits ∷ []) ≡ record { index = i; bits = bits } ∷ []
one_word_from i bits some = go (nat_eq bits 0) refl
  where
    go : (b : Bool) → nat_eq bits 0 ≡ b → words_if b i bits ≡ record { index = i; bits = bits } ∷ []
    go true e = absurd (some (eqb-true bits 0 e))
    go false e = refl

pub no_word_from : (i bits : ℕ) → bits ≡ 0 → words_from i (bits ∷ []) ≡ []
no_word_from i bits none = (let e = eq-eqb bits 0 none in cc)

-- ==== marks of blocks

pub noted_put : (ws : List ℕ) (touched : List Bool) (i v : ℕ) → IsNoted ws touched → i < length ws
    → v < 2 ^ 64
    → IsNoted (set ws i v) (set touched (i / 64) true)
noted_put ws touched i v h less small =
    let wide = h.wide in
    let within : i / 64 < length touched = omega arith in
    record {
      wide = let a = length-set ws i v in let b = length-set touched (i / 64) true in omega arith;
      noted = λ j off. elim (cases_eq (j / 64) (i / 64)) [
        | inl same ↦ absurd
            (let on : get_or (set touched (i / 64) true) (j / 64) false ≡ true = ap
            (λ (k : ℕ). get_or (set touched (i / 64) true) k false) same
            ∙ get_or-set_same touched (i / 64) true false within in cc)
        | inr other ↦
            get_or-set_other ws i j v 0 (λ e. other (ap (λ (k : ℕ). k / 64) e))
            ∙ h.noted j (sym (get_or-set_other touched (i / 64) (j / 64) true false other) ∙ off)
      ];
      narrow = let a = length-set ws i v in let b = h.narrow in omega arith;
      bits = λ j. elim (cases_eq j i) [
        | inl same ↦ let e : get_or (set ws i v) j 0 ≡ v = ap (λ (k : ℕ). get_or (set ws i v) k 0)
            same ∙ get_or-set_same ws i v 0 less in subst (λ (n : ℕ). n < 2 ^ 64) (sym e) small
        | inr other ↦ subst (λ (n : ℕ). n < 2 ^ 64) (sym (get_or-set_other ws i j v 0 other))
            (h.bits j)
      ];
    }

-- a word that is 0 now needs no mark
pub noted_zero : (ws : List ℕ) (touched : List Bool) (i : ℕ) → IsNoted ws touched → i < length ws
    → IsNoted (set ws i 0) touched
noted_zero ws touched i h less = record {
  wide = let a = length-set ws i 0 in let b = h.wide in omega arith;
  noted = λ j off. elim (cases_eq j i) [
    | inl same ↦ ap (λ (k : ℕ). get_or (set ws i 0) k 0) same ∙ get_or-set_same ws i 0 0 less
    | inr other ↦ get_or-set_other ws i j 0 0 other ∙ h.noted j off
  ];
  narrow = let a = length-set ws i 0 in let b = h.narrow in omega arith;
  bits = λ j. elim (cases_eq j i) [
    | inl same ↦ let e : get_or (set ws i 0) j 0 ≡ 0 = ap (λ (k : ℕ). get_or (set ws i 0) k 0) same
        ∙ get_or-set_same ws i 0 0 less in omega arith
    | inr other ↦ subst (λ (n : ℕ). n < 2 ^ 64) (sym (get_or-set_other ws i j 0 0 other)) (h.bits j)
  ];
}

-- a block that isn't marked is passed
pub drained_block : (old now : List ℕ) (touched : List Bool) (before after : List SetWord) (at : ℕ)
    → IsDrained old now before after at → IsNoted now touched
    → ¬ (get_or touched (at / 64) false ≡ true)
    → IsDrained old now before after ((at / 64 + 1) * 64)
drained_block old now touched before after at h noted off =
    drained_skip old now before after at ((at / 64 + 1) * 64) h (omega arith)
    (λ j more less. noted.noted j
    (let e : j / 64 ≡ at / 64 = omega arith in ap (λ (k : ℕ). get_or touched k false) e
    ∙ off_is (get_or touched (at / 64) false) off))
  where
    off_is : (b : Bool) → ¬ (b ≡ true) → b ≡ false
    off_is true h = absurd (h refl)
    off_is false h = refl

-- all words were put there
pub drained_words : (old now : List ℕ) (before after : List SetWord) (at : ℕ)
    → IsDrained old now before after at → length now ≤ at
    → after ≡ before ++ words_from 0 old
drained_words old now before after at h all = h.told
    ∙ ap (λ (ws : List ℕ). before ++ words_from 0 ws)
    (let same = h.same in take_all at old (omega arith))

pub drained_zero : (old now : List ℕ) (before after : List SetWord) (at : ℕ)
    → IsDrained old now before after at → length now ≤ at → (j : ℕ) → get_or now j 0 ≡ 0
drained_zero old now before after at h all j = elim (cases_lt j at)
    [ inl less ↦ h.below j less | inr more ↦ get_or_past now j 0 (omega arith) ]

pub all_zero : (ws : List ℕ) → ((j : ℕ) → get_or ws j 0 ≡ 0) → ws ≡ replicate (length ws) 0
all_zero [] none = refl
all_zero (w ∷ ws) none = let e : w ≡ 0 = none 0 in let rest = all_zero ws (λ j. none (suc j)) in cc

-- the element at an index within, whatever is taken for want of one
pub any_default : {A : Type 0} (xs : List A) (i : ℕ) (d e : A) → i < length xs
    → get_or xs i d ≡ get_or xs i e
any_default xs i d e less = get_or_from_slice_get xs i (get_or xs i e) d
    (slice_get-get_or xs i e less)

-- ==== one number

-- the word that has the bit of one number alone
pub bit_one : (x c : ℕ)
    → is_bit_of (record { index = x / 64; bits = 1 * 2 ^ (x % 64) % 2 ^ 64 }) c ≡ true ↔ (c ≡ x)
bit_one x c =
    let w : SetWord = record { index = x / 64; bits = 1 * 2 ^ (x % 64) % 2 ^ 64 } in
    let small : x % 64 < 64 = omega arith in
    let zero : bit_at 0 (c % 64) ≡ 0 = bit_at-zero (c % 64) in
    let joined : bit_at (bit_or 0 w.bits) (c % 64) ≡ max (bit_at 0 (c % 64))
    (bit_at w.bits (c % 64)) = bit_at_or 0 w.bits (c % 64) in
    let same : bit_at (bit_or 0 w.bits) (c % 64) ≡ bit_at w.bits (c % 64) = omega arith in (
      (λ h.
          let (index, bit) = (bit_parts w c).0 h in
          elim (cases_eq (c % 64) (x % 64)) [
            | inl place ↦ omega arith
            | inr other ↦ absurd
                (let none : bit_at (bit_or 0 w.bits) (c % 64) ≡ bit_at 0 (c % 64) = bit_at_set_other
                w64 0 (x % 64) small (c % 64) other in omega arith)
          ]),
      λ e. (bit_parts w c).1 (
        ap (λ (k : ℕ). k / 64) (sym e),
        sym same ∙ ap (λ (k : ℕ). bit_at (bit_or 0 w.bits) k) (ap (λ (k : ℕ). k % 64) e)
            ∙ bit_at_set_same w64 0 (x % 64) small,
      ),
    )

-- the index of a number was put in
pub index_put : (ws ids : List ℕ) (x number : ℕ) → AreRising ids → slice_get ids x ≡ Some number
    → x / 64 < length ws
    → (c : ℕ) → has_bit
    (set ws (x / 64) (bit_or (get_or ws (x / 64) 0) (1 * 2 ^ (x % 64) % 2 ^ 64))) c ≡ true
    ↔ ((has_bit ws c ≡ true) ⊎ (slice_get ids c ≡ Some number))
index_put ws ids x number rising at less c =
    let w : SetWord = record { index = x / 64; bits = 1 * 2 ^ (x % 64) % 2 ^ 64 } in
    let put = bit_put ws w c less in
    let one = bit_one x c in (
      (λ t. elim (put.0 t)
          [ inl old ↦ inl old | inr bit ↦ inr (ap (λ (k : ℕ). slice_get ids k) (one.0 bit) ∙ at) ]),
      λ t. put.1 (elim t [
        | inl old ↦ inl old
        | inr there ↦ inr (one.1 (rising_once ids c x number rising there at))
      ]),
    )

-- all words of a row stand within, since their numbers do
pub word_within : (row : List SetWord) (w : SetWord) (count : ℕ) → IsRow row
    → ((c : ℕ) → has_number row c ≡ true → c < count) → Contains row w → w.index ≤ count / 64
word_within row w count h narrow among =
    let (n, bit) = h.filled w among in
    let less = narrow n (number_of row w n among bit) in
    let index = ((bit_parts w n).0 bit).0 in
    omega arith
