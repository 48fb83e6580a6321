-- How many letters spell a number and say codes: `letters_for` by the numbers of so many letters at
-- most, and as the length of the spelling. The law `letters_counted` and the functions of
-- `counting` rest on it.
use Rattle.std.proofs.Common.{◌≡◌, ℕ, zero, suc, ◌+◌, ◌-◌, ◌*◌, ◌<◌, ◌≤◌, inl, inr, List, [], ◌∷◌}
use Rattle.std.proofs.Common.{length, map, refl, ap, ◌∙◌, arith, fold, flat_map, nat_lt}
use Rattle.std.proofs.Common.{lt-ltb, le-ltb, length-append, add-one}
use Rattle.std.proofs.lemmas.List.{length-map}
use Rattle.std.specs.List.{range_with_len, count_by, AllByRecursion, AllZip}
use Rattle.std.proofs.lemmas.Bool.{cases_lt}
use Rattle.std.proofs.lemmas.List.Sums.{sum_by-cons}
use Rattle.mm_code.specs.declared.code.Code.{Code}
use Rattle.mm_code.specs.declared.code.Code.TheVariants.{Number, Tag}
use Rattle.mm_code.specs.Letters.{IsSpelling, SaysCode, SpellsCodes, IsLeadingDigit, leading_letter}
use Rattle.mm_code.specs.LetterCount.{numbers_within, letters_for, letters_of, letter_count}

-- ==== the numbers of so many letters at most

within_grows : (a b : ℕ) → a ≤ b → numbers_within a ≤ numbers_within b
within_grows zero b le = omega arith
within_grows (suc a) zero le = absurd (omega (arith, le))
within_grows (suc a) (suc b) le = omega (arith, within_grows a b (omega (arith, le)))

enough_within : (letters : ℕ) → letters ≤ numbers_within letters
enough_within zero = omega arith
enough_within (suc letters) = omega (arith, enough_within letters)

pub one_more_within : (letters : ℕ)
    → numbers_within (letters + 1) ≡ 20 + 5 * numbers_within letters
one_more_within letters = ap numbers_within (add-one letters)

-- ---- the counts that are too few

abbrev too_few : ℕ → ℕ → ℕ → ℕ
too_few number from len =
    count_by (λ letters. nat_lt (numbers_within letters) number) (range_with_len from len)

is_too_few : (number from len : ℕ) → numbers_within from < number
    → too_few number from (suc len) ≡ 1 + too_few number (from + 1) len
is_too_few number from len above =
    sum_by-cons _ from (range_with_len (from + 1) len)
    ∙ rw (lt-ltb (numbers_within from) number above) refl

is_enough : (number from len : ℕ) → number ≤ numbers_within from
    → too_few number from (suc len) ≡ too_few number (from + 1) len
is_enough number from len within =
    sum_by-cons _ from (range_with_len (from + 1) len)
    ∙ rw (le-ltb (numbers_within from) number within) (omega arith)

-- none that is enough is counted
few : (number letters len from : ℕ) → number ≤ numbers_within letters
    → too_few number from len ≤ letters - from
few number letters zero from within = omega arith
few number letters (suc len) from within =
    let rest = few number letters len (from + 1) within in
    elim (cases_lt (numbers_within from) number) [
      | inl above ↦ elim (cases_lt from letters) [
        | inl less ↦ omega (arith, is_too_few number from len above, rest)
        | inr more ↦ absurd (omega (arith, within_grows letters from more, above, within))
      ]
      | inr enough ↦ omega (arith, is_enough number from len enough, rest)
    ]

-- each that is too few is counted
many : (number letters len from : ℕ) → numbers_within letters < number → from ≤ letters
    → letters < from + len → letters < from + too_few number from len
many number letters zero from above low high = absurd (omega (arith, low, high))
many number letters (suc len) from above low high =
    let first = is_too_few number from len
    (omega (arith, within_grows from letters low, above)) in
    elim (cases_lt from letters) [
      | inl less ↦
          omega (arith, first, many number letters len (from + 1) above (omega arith) (omega arith))
      | inr last ↦ omega (arith, first)
    ]

-- ---- so the letters of a number are told by these thresholds

pub few_letters : (number letters : ℕ) → number ≤ numbers_within letters
    → letters_for number ≤ letters
unfolding letters_for
few_letters number letters within = omega (arith, few number letters number 0 within)

pub many_letters : (number letters : ℕ) → numbers_within letters < number
    → letters < letters_for number
unfolding letters_for
many_letters number letters above =
    let inside : letters < 0 + number = omega (arith, enough_within letters, above) in
    omega (arith, many number letters number 0 above (omega arith) inside)

pub is_within : (number letters : ℕ) → letters_for number ≤ letters
    → number ≤ numbers_within letters
is_within number letters less =
    elim (cases_lt (numbers_within letters) number) [
      | inl above ↦ absurd (omega (arith, many_letters number letters above, less))
      | inr within ↦ within
    ]

pub letters_grow : (m n : ℕ) → m ≤ n → letters_for m ≤ letters_for n
letters_grow m n le =
    few_letters m (letters_for n) (omega (arith, le, is_within n (letters_for n) (omega arith)))

-- ==== the letters of a spelling

-- What leading digits are worth tells how many they are: so many, where there were `had` of this
-- worth before them.
leading_within : (digits : List ℕ) (had value all : ℕ) → AllByRecursion IsLeadingDigit digits
    → numbers_within had ≤ 20 * value → 20 * value ≤ 5 * numbers_within had
    → all ≡ had + length digits
    → (numbers_within all ≤ 20 * fold (λ v digit. 5 * v + digit) value digits)
    × (20 * fold (λ v digit. 5 * v + digit) value digits ≤ 5 * numbers_within all)
leading_within [] had value all are low high is =
    let same : numbers_within all ≡ numbers_within had = ap numbers_within (omega (arith, is)) in
    (omega (arith, low, same), omega (arith, high, same))
leading_within (digit ∷ digits) had value all are low high is =
    leading_within digits (suc had) (5 * value + digit) all are.1
    (omega (arith, low, are.0)) (omega (arith, high, are.0)) (omega (arith, is))

pub spelling_length : (text : List ℕ) (number : ℕ) → IsSpelling text number
    → length text ≡ letters_for number
spelling_length text number is =
    let count = length is.leading in
    let worth = leading_within is.leading 0 0 count is.are_leading (omega arith) (omega arith)
    (omega arith) in
    let long = ap length is.letters ∙ length-append (map leading_letter is.leading) _ in
    let digits = length-map is.leading leading_letter in
    let low = many_letters number count (omega (arith, worth.0, is.value, is.is_last)) in
    let high = few_letters number (suc count) (omega (arith, worth.1, is.value, is.is_last)) in
    omega (arith, long, digits, low, high)

-- ---- and of codes

piece_length : (piece : List ℕ) (code : Code) → SaysCode piece code
    → length piece ≡ letters_of code
piece_length piece (Number number) says = spelling_length piece number says
piece_length piece Tag says = ap length says

pieces_length : (pieces : List (List ℕ)) (codes : List Code) → AllZip SaysCode pieces codes
    → length (flat_map (λ piece. piece) pieces) ≡ letter_count codes
pieces_length [] [] each = refl
pieces_length [] (code ∷ codes) each = absurd each
pieces_length (piece ∷ pieces) [] each = absurd each
pieces_length (piece ∷ pieces) (code ∷ codes) each =
    omega (
      arith,
      length-append piece (flat_map (λ p. p) pieces),
      piece_length piece code each.0,
      pieces_length pieces codes each.1,
      sum_by-cons letters_of code codes,
    )

pub text_length : (text : List ℕ) (codes : List Code) → SpellsCodes text codes
    → length text ≡ letter_count codes
text_length text codes spells =
    ap length spells.joined ∙ pieces_length spells.pieces codes spells.each

-- ---- a number of 32 bits has at most 13 letters

pub letters_of_word : (number : ℕ) → number ≤ 4294967295 → letters_for number ≤ 13
letters_of_word number small = few_letters number 13 (omega (arith, small))

-- what the loop of `letters_for` needs
pub ruleset letter_thresholds = (few_letters, many_letters, letters_of_word, one_more_within)
