-- How a name is found by its bytes: by a key of its ends, or in the table of one byte.
use Rattle.std.proofs.Common.{◌≡◌, ℕ, ◌+◌, ◌-◌, ◌<◌, ◌≤◌, ◌⊎◌, inl, inr, List, ◌++◌, length, take}
use Rattle.std.proofs.Common.{drop, get_or, refl, sym, ap, ◌∙◌, arith, ◌≢◌, [], ◌∷◌, Contains}
use Rattle.std.proofs.Common.{Option, None, Some, is_some, false, subst, slice_get, MatchOption}
use Rattle.std.proofs.Common.{set, replicate}
use Rattle.std.specs.Int.{Width, w16, w32, w64, from_le_bytes, to_le_bytes}
use Rattle.std.proofs.lemmas.Bool.{cases_lt, lt-ltb, le-ltb}
use Rattle.std.proofs.lemmas.List.{drop-drop, take-append-drop, get_or-take, get_or-drop}
use Rattle.std.proofs.lemmas.List.{length-take, length-drop, length-take-le, take_all, get_or_past}
use Rattle.std.proofs.lemmas.List.{length-replicate, get_or-replicate}
use Rattle.std.proofs.lemmas.List.{length-set}
use Rattle.std.proofs.lemmas.Nat.{le_bytes_2, le_bytes_4, le_bytes_8}
use Rattle.mm_frame.specs.Mirror.NameKey.{number_at, ends_by, ends_of}
use Rattle.std.proofs.lemmas.Option.{slice_get_within, get_or_from_slice_get, slice_get-get_or}
use Rattle.mm_frame.specs.Mirror.NameTable.{AreByByte}
use Rattle.mm_frame.specs.Numbers.{with_name}
use Rattle.mm_base.proofs.Lists.{get_set_cases, get_pushed, pushed_cases, at_from_contains, contains_from_at}
use Rattle.mm_frame.proofs.Names.NameNumbers.{with_name_cases, kept_with_name}

-- ==== a name of 2 to 16 bytes is told by its first bytes and its last, as numbers

-- a list is told by a prefix and an end of it that leave nothing out
told_by_parts : (n : ℕ) (a b : List ℕ) → length a ≡ length b → n ≤ length a → length a ≤ n + n
    → take n (drop 0 a) ≡ take n (drop 0 b) → take n (drop (length a - n) a) ≡ take n (drop (length b - n) b) → a ≡ b
told_by_parts n a b same short long prefixes backs =
    sym (take-append-drop n a) ∙ ap (λ xs. xs ++ drop n a) prefixes ∙ ap (λ xs. take n b ++ xs) rests ∙ take-append-drop n b
  where
    -- what follows the prefix is the end of the last bytes
    rest : (c : List ℕ) → length c ≡ length a → drop n c ≡ drop (n + n - length c) (take n (drop (length c - n) c))
    rest c e =
        let few : length (drop (length c - n) c) ≤ n = let l = length-drop (length c - n) c in omega arith in
        let sum : length c - n + (n + n - length c) ≡ n = omega arith in
        sym (ap (drop (n + n - length c)) (take_all n (drop (length c - n) c) few) ∙ drop-drop (n + n - length c) (length c - n) c ∙ ap (λ i. drop i c) sum)

    rests : drop n a ≡ drop n b
    rests = rest a refl ∙ ap (drop (n + n - length a)) backs ∙ ap (λ i. drop (n + n - i) (take n (drop (length b - n) b))) same ∙ sym (rest b (sym same))

abbrev AreBytes : List ℕ → Type 0
AreBytes xs = (i : ℕ) → get_or xs i 0 < 256

-- a part of bytes is bytes
part_bytes : (n at : ℕ) (xs : List ℕ) → AreBytes xs → AreBytes (take n (drop at xs))
part_bytes n at xs are i = by (cases_lt i n)
  where
    by : (i < n) ⊎ (n ≤ i) → get_or (take n (drop at xs)) i 0 < 256
    by (inl lt) = rw (get_or-take n (drop at xs) i 0 lt, get_or-drop at xs i 0) (are (at + i))
    by (inr ge) = rw (get_or_past (take n (drop at xs)) i 0 (let l = length-take n (drop at xs) in omega arith)) (omega arith)

-- so many bytes are told by their number
abbrev IsReadBack : Width → ℕ → Type 0
IsReadBack w n = (xs : List ℕ) (k : ℕ) → length xs ≡ n → AreBytes xs → k ≡ from_le_bytes w xs → to_le_bytes w k ≡ xs

parts_told : (w : Width) (n : ℕ) → IsReadBack w n → (at to k : ℕ) (a b : List ℕ) → AreBytes a → AreBytes b → at + n ≤ length a → to + n ≤ length b
    → k ≡ number_at w n a at → k ≡ number_at w n b to → take n (drop at a) ≡ take n (drop to b)
parts_told w n told at to k a b bytes others within inside one other =
    sym (told _ k (long at a within) (part_bytes n at a bytes) one) ∙ told _ k (long to b inside) (part_bytes n to b others) other
  where
    long : (i : ℕ) (xs : List ℕ) → i + n ≤ length xs → length (take n (drop i xs)) ≡ n
    long i xs fits = length-take-le n (drop i xs) (let l = length-drop i xs in omega arith)

told_by_ends : (w : Width) (n : ℕ) → IsReadBack w n → (a b : List ℕ) → AreBytes a → AreBytes b → length a ≡ length b → n ≤ length a → length a ≤ n + n
    → ends_by w n a ≡ ends_by w n b → a ≡ b
told_by_ends w n told a b bytes others same short long ends =
    told_by_parts n a b same short long
    (parts_told w n told 0 0 (number_at w n a 0) a b bytes others (omega arith) (omega arith) refl (ap (λ p. p.0) ends))
    (parts_told w n told (length a - n) (length b - n) (number_at w n a (length a - n)) a b bytes others (omega arith) (omega arith) refl (ap (λ p. p.1) ends))

-- which ends a name has
pub ends_of_eight : (xs : List ℕ) → 8 ≤ length xs → ends_of xs ≡ ends_by w64 8 xs
unfolding ends_of
ends_of_eight xs long = rw (le-ltb (length xs) 8 long) refl

pub ends_of_four : (xs : List ℕ) → length xs < 8 → 4 ≤ length xs → ends_of xs ≡ ends_by w32 4 xs
unfolding ends_of
ends_of_four xs short long = rw (lt-ltb (length xs) 8 short, le-ltb (length xs) 4 long) refl

pub ends_of_two : (xs : List ℕ) → length xs < 4 → 2 ≤ length xs → ends_of xs ≡ ends_by w16 2 xs
unfolding ends_of
ends_of_two xs short long = rw (lt-ltb (length xs) 8 (omega arith), lt-ltb (length xs) 4 short, le-ltb (length xs) 2 long) refl

pub ends_of_none : (xs : List ℕ) → length xs < 2 → ends_of xs ≡ (0, 0)
unfolding ends_of
ends_of_none xs short = rw (lt-ltb (length xs) 8 (omega arith), lt-ltb (length xs) 4 (omega arith), lt-ltb (length xs) 2 short) refl

-- two names of one length, of 2 to 16 bytes, with the same ends are one
pub told_by_key : (a b : List ℕ) → AreBytes a → AreBytes b → length a ≡ length b → 2 ≤ length a → length a ≤ 16 → ends_of a ≡ ends_of b → a ≡ b
told_by_key a b bytes others same short long ends = by (cases_lt (length a) 8) (cases_lt (length a) 4)
  where
    by : (length a < 8) ⊎ (8 ≤ length a) → (length a < 4) ⊎ (4 ≤ length a) → a ≡ b
    by (inr eight) four = told_by_ends w64 8 le_bytes_8 a b bytes others same eight long (sym (ends_of_eight a eight) ∙ ends ∙ ends_of_eight b (omega arith))
    by (inl few) (inr four) = told_by_ends w32 4 le_bytes_4 a b bytes others same four (omega arith) (sym (ends_of_four a few four) ∙ ends ∙ ends_of_four b (omega arith) (omega arith))
    by (inl few) (inl fewer) = told_by_ends w16 2 le_bytes_2 a b bytes others same short (omega arith) (sym (ends_of_two a fewer short) ∙ ends ∙ ends_of_two b (omega arith) (omega arith))

pub ruleset end_steps = (ends_of_eight, ends_of_four, ends_of_two, ends_of_none)

-- ==== the table of the numbers of names that are one byte long, as names are added

-- what is told of a text: its number among the names, or that it is none of them
abbrev pub IsTold : List (List ℕ) → List ℕ → Option ℕ → Type 0
IsTold names text number = MatchOption number (¬ (Contains names text)) (λ n. slice_get names n ≡ Some text)

-- a number that isn't there is none
pub none_if : (number : Option ℕ) → is_some number ≡ false → number ≡ None
none_if None is = refl
none_if (Some n) is = absurd (cc)

abbrev no_number : Option ℕ
no_number = None

abbrev no_numbers : ℕ → List (Option ℕ)
no_numbers n = replicate n no_number

-- a table that holds no number tells of no names
pub by_byte_of_none : AreByByte [] (no_numbers 256)
by_byte_of_none = record {
  count = long;
  each = λ byte number there.
      let within : byte < length (no_numbers 256) = slice_get_within (no_numbers 256) byte number there in
      let same : None ≡ number = sym (get_or-replicate 256 byte no_number None (omega arith)) ∙ get_or_from_slice_get (no_numbers 256) byte number None there in
      subst (λ (m : Option ℕ). IsTold [] (byte ∷ []) m) same (λ (k, lt, is). absurd (omega arith));
}
  where
    long : length (no_numbers 256) ≡ 256
    long = length-replicate 256 no_number

-- what is told of a text stays so when a name is added, unless it is this text and new
pub still_told : (names : List (List ℕ)) (name text : List ℕ) (number : Option ℕ) → (number ≡ None → ¬ (name ≡ text)) → IsTold names text number → IsTold (with_name names name) text number
still_told names name text (Some n) other there = kept_with_name names name n text there
still_told names name text None other none = λ c. elim (with_name_cases names name) [
  | inl (found, same) ↦ none (subst (λ (ns : List (List ℕ)). Contains ns text) same c)
  | inr (absent, longer) ↦
      let (i, at) = at_from_contains _ text (subst (λ (ns : List (List ℕ)). Contains ns text) longer c) in
      elim (pushed_cases names name i text at) [
        | inl before ↦ none (contains_from_at names text (i, before))
        | inr (last, same) ↦ other refl same
      ]
]

-- a new name gets the number after those before it
pub newly_told : (names : List (List ℕ)) (name : List ℕ) → ¬ (Contains names name) → slice_get (with_name names name) (length names) ≡ Some name
newly_told names name new = elim (with_name_cases names name) [
  | inl (found, same) ↦ absurd (new (contains_from_at names name found))
  | inr (absent, longer) ↦ subst (λ (ns : List (List ℕ)). slice_get ns (length names) ≡ Some name) (sym longer) (get_pushed names name)
]

one_byte : (name : List ℕ) → length name ≡ 1 → name ≡ get_or name 0 0 ∷ []
one_byte (b ∷ []) one = refl
one_byte name one = absurd (omega arith)

-- the table stays right when a name of another length is added
pub by_byte_of_longer : (names : List (List ℕ)) (by_byte : List (Option ℕ)) (name : List ℕ) → length name ≢ 1 → AreByByte names by_byte → AreByByte (with_name names name) by_byte
by_byte_of_longer names by_byte name long are = record {
  count = are.count;
  each = λ byte number there. still_told names name (byte ∷ []) number (λ e same. long (ap length same)) (are.each byte number there);
}

-- it stays right when a name is added whose number it tells
pub by_byte_of_known : (names : List (List ℕ)) (by_byte : List (Option ℕ)) (name : List ℕ) → get_or by_byte (get_or name 0 0) None ≢ None → AreByByte names by_byte → AreByByte (with_name names name) by_byte
by_byte_of_known names by_byte name known are = record {
  count = are.count;
  each = λ byte number there.
      still_told names name (byte ∷ []) number
      (λ e same.
      let here : get_or by_byte byte None ≡ number = get_or_from_slice_get by_byte byte number None there in
      known (ap (λ (text : List ℕ). get_or by_byte (get_or text 0 0) None) same ∙ here ∙ e))
      (are.each byte number there);
}

-- it is right of a new name of one byte once it tells the number
pub by_byte_of_new : (names : List (List ℕ)) (by_byte : List (Option ℕ)) (name : List ℕ) (number : ℕ) → length name ≡ 1 → get_or name 0 0 < 256 → get_or by_byte (get_or name 0 0) None ≡ None
    → length names ≡ number → AreByByte names by_byte → AreByByte (with_name names name) (set by_byte (get_or name 0 0) (Some number))
by_byte_of_new names by_byte name number one small unknown count are = record {
  count = length-set by_byte only (Some number) ∙ are.count;
  each = λ byte found there. elim (get_set_cases by_byte only byte (Some number) found there) [
    | inl (here, told) ↦
        let text : name ≡ byte ∷ [] = one_byte name one ∙ ap (λ (b : ℕ). b ∷ []) (sym here) in
        subst (λ (o : Option ℕ). IsTold (with_name names name) (byte ∷ []) o) told
        (rw (← count) (newly_told names name new) ∙ ap (λ (x : List ℕ). Some x) text)
    | inr (apart, old) ↦ still_told names name (byte ∷ []) found
        (λ e same. apart (sym (ap (λ (text : List ℕ). get_or text 0 0) same)))
        (are.each byte found old)
  ];
}
  where
    only : ℕ
    only = get_or name 0 0

    within : only < length by_byte
    within = let long = are.count in omega arith

    new : ¬ (Contains names name)
    new = subst (λ (text : List ℕ). ¬ (Contains names text)) (sym (one_byte name one)) (are.each only None (slice_get-get_or by_byte only None within ∙ ap (λ (o : Option ℕ). Some o) unknown))

-- what the table tells of a name of one byte
pub found_by_byte : (names : List (List ℕ)) (by_byte : List (Option ℕ)) (name : List ℕ) → length name ≡ 1 → get_or name 0 0 < 256 → AreByByte names by_byte
    → MatchOption (get_or by_byte (get_or name 0 0) None) (¬ (Contains names name)) (λ n. slice_get names n ≡ Some name)
found_by_byte names by_byte name one small are =
    subst (λ (text : List ℕ). IsTold names text (get_or by_byte (get_or name 0 0) None)) (sym (one_byte name one))
    (are.each (get_or name 0 0) _ (slice_get-get_or by_byte (get_or name 0 0) None (let long = are.count in omega arith)))
