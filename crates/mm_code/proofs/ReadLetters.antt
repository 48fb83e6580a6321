-- What is read is what the letters say, and what the letters say is read.
use Rattle.std.proofs.Common.{◌≡◌, ℕ, ◌+◌, ◌*◌, min, List, [], ◌∷◌, ◌++◌, map, Ok, refl, sym, ap}
use Rattle.std.proofs.Common.{◌∙◌, append_assoc, arith, ◌-◌, ◌<◌, ◌≤◌, inl, inr, fold, flat_map}
use Rattle.std.specs.List.{AllByRecursion, AllZip}
use Rattle.std.proofs.lemmas.List.{map-append}
use Rattle.std.proofs.lemmas.List.Sums.{fold-append}
use Rattle.std.proofs.lemmas.Bool.{cases_eq}
use Rattle.mm_base.proofs.Lists.{all_push}
use Rattle.mm_code.specs.declared.code.Code.{Code}
use Rattle.mm_code.specs.declared.code.Code.TheVariants.{Number, Tag}
use Rattle.mm_code.specs.Letters.{last_letter, leading_letter, IsLeadingDigit, IsLastDigit}
use Rattle.mm_code.specs.Letters.{SaysCode, Letters, code_for, largest, tag_letter, leading_value}
use Rattle.mm_code.specs.Letters.{IsSpelling}
use Rattle.mm_code.specs.Mirror.Reading.{with_prefix, reading, leading_after, number_after}
use Rattle.mm_code.proofs.LetterSteps.{read_last, read_leading, read_tag, read_end, read_cut_by_end}
use Rattle.mm_code.proofs.LetterSteps.{EndsCode, not_letter, ends, leading, cut_off, step}
use Rattle.mm_code.proofs.LetterSteps.{with_prefix-ok}

-- ==== what the letters say is read

-- a number's letters are read behind leading digits of any value
spelling_again : (digits : List ℕ) (value last : ℕ) (rest : List ℕ) → AllByRecursion IsLeadingDigit digits → IsLastDigit last
    → reading (min value largest) (map leading_letter digits ++ last_letter last ∷ rest)
    ≡ with_prefix (Number (min (20 * fold (λ v d. 5 * v + d) value digits + last) largest) ∷ []) (reading 0 rest)
spelling_again [] value last rest ok is =
    let number : number_after (min value largest) (last_letter last) ≡ min (20 * value + last) largest = omega (arith, is.0, is.1) in
    read_last (min value largest) (last_letter last) rest (omega (arith, is.0)) (omega (arith, is.1)) ∙ ap (λ (n : ℕ). with_prefix (Number n ∷ []) (reading 0 rest)) number
spelling_again (d ∷ digits) value last rest ok is =
    let next : leading_after (min value largest) (leading_letter d) ≡ min (5 * value + d) largest = omega (arith, ok.0.0, ok.0.1) in
    let others = map leading_letter digits ++ last_letter last ∷ rest in
    read_leading (min value largest) (leading_letter d) others (omega (arith, ok.0.0)) (omega (arith, ok.0.1))
    ∙ ap (λ (v : ℕ). reading v others) next ∙ spelling_again digits (5 * value + d) last rest ok.1 is

-- a piece's letters are read, whatever follows
piece_again : (piece : List ℕ) (code : Code) (rest : List ℕ) → SaysCode piece code → reading 0 (piece ++ rest) ≡ with_prefix (code_for code ∷ []) (reading 0 rest)
piece_again piece (Number number) rest says =
    let text : piece ++ rest ≡ map leading_letter says.leading ++ last_letter says.last ∷ rest =
    ap (λ (t : List ℕ). t ++ rest) says.letters ∙ append_assoc (map leading_letter says.leading) (last_letter says.last ∷ []) rest in
    ap (reading 0) text ∙ spelling_again says.leading 0 says.last rest says.are_leading says.is_last
    ∙ ap (λ (n : ℕ). with_prefix (Number (min n largest) ∷ []) (reading 0 rest)) (sym says.value)
piece_again piece Tag rest says = ap (λ (t : List ℕ). reading 0 (t ++ rest)) says ∙ read_tag 0 90 rest refl refl

pieces_again : (pieces : List (List ℕ)) (codes : List Code) → AllZip SaysCode pieces codes → reading 0 (flat_map (λ piece. piece) pieces) ≡ Ok (map code_for codes)
pieces_again [] [] each = read_end 0 refl
pieces_again (piece ∷ pieces) (code ∷ codes) each =
    piece_again piece code (flat_map (λ p. p) pieces) each.0 ∙ ap (with_prefix (code_for code ∷ [])) (pieces_again pieces codes each.1)
pieces_again pieces codes each = absurd each

pub is_read_again : (text : List ℕ) (codes : List Code) → Letters text codes → reading 0 text ≡ Ok codes
is_read_again text codes letters =
    ap (reading 0) letters.spells.joined ∙ pieces_again letters.spells.pieces letters.spelled letters.spells.each ∙ ap Ok (sym letters.are_codes)

-- ==== what is read is what the letters say

letters-nil : Letters [] []
letters-nil = record { spelled = []; spells = record { pieces = []; each = tt; joined = refl }; are_codes = refl }

-- one more code before those of a text
letters-cons : (piece text : List ℕ) (code : Code) (codes : List Code) → SaysCode piece code → Letters text codes → Letters (piece ++ text) (code_for code ∷ codes)
letters-cons piece text code codes says letters = record {
  spelled = code ∷ letters.spelled;
  spells = record {
    pieces = piece ∷ letters.spells.pieces;
    each = (says, letters.spells.each);
    joined = ap (λ (t : List ℕ). piece ++ t) letters.spells.joined;
  };
  are_codes = ap (λ (cs : List Code). code_for code ∷ cs) letters.are_codes;
}

pub leading_value-push : (digits : List ℕ) (digit : ℕ) → leading_value (digits ++ digit ∷ []) ≡ 5 * leading_value digits + digit
leading_value-push digits digit = fold-append (λ value d. 5 * value + d) 0 digits (digit ∷ [])

grows : (value : ℕ) (digits : List ℕ) → value ≤ fold (λ v d. 5 * v + d) value digits
grows value [] = omega arith
grows value (d ∷ digits) = omega (arith, grows (5 * value + d) digits)

-- leading digits that are worth 0 are none
none_if_zero : (digits : List ℕ) → AllByRecursion IsLeadingDigit digits → leading_value digits ≡ 0 → digits ≡ []
none_if_zero [] ok e = refl
none_if_zero (d ∷ digits) ok e = absurd (omega (arith, grows (5 * 0 + d) digits, ok.0.0, e))

-- the letters of a code that a byte ends, before those of a text
letters_ended : (digits : List ℕ) (byte : ℕ) (code : Code) (text : List ℕ) (codes : List Code)
    → AllByRecursion IsLeadingDigit digits
    → EndsCode (min (leading_value digits) largest) byte code → Letters text codes
    → Letters (map leading_letter digits ++ byte ∷ text) (code ∷ codes)
letters_ended digits byte (Number number) text codes ok (low, high, is_number) letters =
    let value = 20 * leading_value digits + (byte - 64) in
    let same : number ≡ min value largest = omega arith in
    let is : last_letter (byte - 64) ≡ byte = omega arith in
    let piece = map leading_letter digits ++ byte ∷ [] in
    let spelling : IsSpelling piece value = record {
      leading = digits;
      last = byte - 64;
      are_leading = ok;
      is_last = (omega arith, omega arith);
      letters = rw is refl;
      value = refl;
    } in
    rw same (rw append_assoc at (letters-cons piece text (Number value) codes spelling letters))
letters_ended digits byte Tag text codes ok (is, none) letters =
    rw (none_if_zero digits ok (omega arith), is)
    (letters-cons (tag_letter ∷ []) text Tag codes refl letters)

-- what is read behind leading digits is what they and the letters say
pub is_read : (text digits : List ℕ) (codes : List Code) → AllByRecursion IsLeadingDigit digits → reading (min (leading_value digits) largest) text ≡ Ok codes → Letters (map leading_letter digits ++ text) codes
is_read [] digits codes ok e =
    elim (cases_eq (leading_value digits) 0) [
      | inl none ↦
          let zero_value : min (leading_value digits) largest ≡ 0 = omega arith in
          let same : codes ≡ [] = cc (read_end (min (leading_value digits) largest) zero_value, e) in
          rw (none_if_zero digits ok none, same) letters-nil
      | inr some ↦
          let positive : 0 < min (leading_value digits) largest = omega arith in
          absurd (cc (read_cut_by_end (min (leading_value digits) largest) positive, e))
    ]
is_read (byte ∷ text) digits codes ok e =
    let value = min (leading_value digits) largest in
    elim (step value byte text) [
      | not_letter not is ↦ absurd (cc (is, e))
      | ends code letter means is ↦
          let rest = with_prefix-ok (code ∷ []) codes (reading 0 text) (sym is ∙ e) in
          let letters = is_read text [] rest.0 tt rest.1 in
          rw rest.2 (letters_ended digits byte code text rest.0 ok means letters)
      | leading from is ↦
          let digit = byte - 84 in
          let longer = digits ++ digit ∷ [] in
          let are = all_push IsLeadingDigit digits digit ok (omega arith, omega arith) in
          let is_byte : leading_letter digit ≡ byte = omega arith in
          let next : leading_after value byte ≡ min (leading_value longer) largest =
          omega (arith, leading_value-push digits digit) in
          let letters = is_read text longer codes are (rw (← next) (sym is ∙ e)) in
          rw (map-append, append_assoc, is_byte) at letters
      | cut_off tagged some is ↦ absurd (cc (is, e))
    ]
