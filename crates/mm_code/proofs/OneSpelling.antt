-- Each number from 1 on has exactly one spelling; a list of codes has one text at most, and what is
-- written spells.
use Rattle.std.proofs.Common.{◌≡◌, ℕ, zero, suc, ◌+◌, ◌-◌, ◌*◌, ◌/◌, ◌%◌, ◌<◌, ◌≤◌, inl, inr, min}
use Rattle.std.proofs.Common.{List, [], ◌∷◌, ◌++◌, map, reverse, All, refl, sym, ap, ◌∙◌, arith}
use Rattle.std.proofs.Common.{flat_map}
use Rattle.std.specs.List.{AllByRecursion, AllZip}
use Rattle.std.proofs.lemmas.List.{reverse-reverse, same_from_push}
use Rattle.std.proofs.lemmas.List.Elements.{All-head, All-tail}
use Rattle.std.proofs.lemmas.Grind.{reverse_onto}
use Rattle.std.proofs.lemmas.Bool.{cases_eq}
use Rattle.mm_base.proofs.Lists.{all_push}
use Rattle.mm_code.specs.declared.code.Code.{Code}
use Rattle.mm_code.specs.declared.code.Code.TheVariants.{Number, Tag}
use Rattle.mm_code.specs.Letters.{last_letter, leading_letter, IsLeadingDigit}
use Rattle.mm_code.specs.Letters.{leading_value, IsSpelling, SaysCode, SpellsCodes, Letters}
use Rattle.mm_code.specs.Letters.{code_for, largest, IsExact}
use Rattle.mm_code.proofs.ReadLetters.{leading_value-push, is_read_again}

-- ---- leading digits, from the last one on

leading_value-reverse : (d : ℕ) (digits : List ℕ)
    → leading_value (reverse (d ∷ digits)) ≡ 5 * leading_value (reverse digits) + d
leading_value-reverse d digits =
    ap leading_value (reverse_onto digits d []) ∙ leading_value-push (reverse digits) d

leading-reverse : (digits : List ℕ) → AllByRecursion IsLeadingDigit digits → AllByRecursion IsLeadingDigit (reverse digits)
leading-reverse [] ok = tt
leading-reverse (d ∷ digits) ok =
    rw (reverse_onto digits d []) (all_push IsLeadingDigit _ d (leading-reverse digits ok.1) ok.0)

one_worth : (a b : List ℕ) → AllByRecursion IsLeadingDigit a → AllByRecursion IsLeadingDigit b
    → leading_value (reverse a) ≡ leading_value (reverse b) → a ≡ b
one_worth [] [] p q e = refl
one_worth [] (y ∷ b) p q e = absurd (omega (arith, q.0.0, leading_value-reverse y b, e))
one_worth (x ∷ a) [] p q e = absurd (omega (arith, p.0.0, leading_value-reverse x a, e))
one_worth (x ∷ a) (y ∷ b) p q e =
    let x_last = leading_value-reverse x a in
    let y_last = leading_value-reverse y b in
    let digit : x ≡ y = omega (arith, p.0, q.0) in
    let same : a ≡ b = one_worth a b p.1 q.1 (omega (arith, p.0, q.0)) in
    cc

one_leading : (a b : List ℕ) → AllByRecursion IsLeadingDigit a → AllByRecursion IsLeadingDigit b → leading_value a ≡ leading_value b → a ≡ b
one_leading a b p q e =
    let same = one_worth (reverse a) (reverse b) (leading-reverse a p) (leading-reverse b q)
    (rw (reverse-reverse a, reverse-reverse b) e) in
    cc (same, reverse-reverse a, reverse-reverse b)

pub one_spelling_only : (a b : List ℕ) (number : ℕ) → IsSpelling a number → IsSpelling b number → a ≡ b
one_spelling_only a b number p q =
    let last : p.last ≡ q.last = omega (arith, p.is_last, q.is_last, p.value, q.value) in
    let value : leading_value p.leading ≡ leading_value q.leading =
    omega (arith, p.is_last, q.is_last, p.value, q.value) in
    let leading = one_leading p.leading q.leading p.are_leading q.are_leading value in
    cc (p.letters, q.letters)

-- ---- some spelling

pub record HasLeading (value : ℕ) : Type 0 where
  pub digits : List ℕ
  pub ok : AllByRecursion IsLeadingDigit digits
  pub is : leading_value digits ≡ value

-- one more digit
abbrev pub leading-push : (value rest : ℕ) → HasLeading rest → rest ≡ (value - 1) / 5 → 0 < value
    → HasLeading value
leading-push value rest had is positive =
    let digit = (value - 1) % 5 + 1 in
    record {
      digits = had.digits ++ digit ∷ [];
      ok = all_push IsLeadingDigit had.digits digit had.ok (omega arith, omega arith);
      is = omega (arith, leading_value-push had.digits digit, had.is);
    }

some_leading : (bound value : ℕ) → value ≤ bound → HasLeading value
some_leading zero value le = record { digits = []; ok = tt; is = omega arith }
some_leading (suc bound) value le =
    elim (cases_eq value 0) [
      | inl none ↦ record { digits = []; ok = tt; is = omega arith }
      | inr some ↦
          let had = some_leading bound ((value - 1) / 5) (omega arith) in
          leading-push value ((value - 1) / 5) had refl (omega arith)
    ]

pub spelling-of : (number rest : ℕ) (had : HasLeading rest) → rest ≡ (number - 1) / 20 → 1 ≤ number → IsSpelling (map leading_letter had.digits ++ last_letter ((number - 1) % 20 + 1) ∷ []) number
spelling-of number rest had is positive = record {
  leading = had.digits;
  last = (number - 1) % 20 + 1;
  are_leading = had.ok;
  is_last = (omega arith, omega arith);
  letters = refl;
  value = omega (arith, had.is, is);
}

pub some_spelling : (number : ℕ) → 1 ≤ number → (text : List ℕ) × IsSpelling text number
some_spelling number positive = (_, spelling-of number ((number - 1) / 20) (some_leading ((number - 1) / 20) ((number - 1) / 20) (omega arith)) refl positive)

-- ---- one number

one_map : (a b : List ℕ) → map leading_letter a ≡ map leading_letter b → a ≡ b
one_map [] [] e = refl
one_map (x ∷ a) (y ∷ b) e =
    let head : leading_letter x ≡ leading_letter y = cc in
    let digit : x ≡ y = omega (arith, head) in
    let same : a ≡ b = one_map a b (cc) in
    cc
one_map a b e = cc

pub one_number : (text : List ℕ) (m n : ℕ) → IsSpelling text m → IsSpelling text n → m ≡ n
one_number text m n p q =
    let parts = same_from_push (map leading_letter p.leading) (map leading_letter q.leading) (last_letter p.last) (last_letter q.last) (sym p.letters ∙ q.letters) in
    let leading = ap leading_value (one_map p.leading q.leading parts.0) in
    omega (arith, p.value, q.value, leading, parts.1)

-- ---- one text

one_piece : (a b : List ℕ) (code : Code) → SaysCode a code → SaysCode b code → a ≡ b
one_piece a b (Number number) p q = one_spelling_only a b number p q
one_piece a b Tag p q = p ∙ sym q

one_pieces : (a b : List (List ℕ)) (codes : List Code) → AllZip SaysCode a codes → AllZip SaysCode b codes → flat_map (λ piece. piece) a ≡ flat_map (λ piece. piece) b
one_pieces [] [] [] p q = refl
one_pieces (x ∷ a) (y ∷ b) (code ∷ codes) p q =
    ap (λ (t : List ℕ). t ++ flat_map (λ piece. piece) a) (one_piece x y code p.0 q.0) ∙ ap (λ (t : List ℕ). y ++ t) (one_pieces a b codes p.1 q.1)
one_pieces [] b (code ∷ codes) p q = absurd p
one_pieces a b [] p q = absurd (assumption (p, q))
one_pieces a [] codes p q = absurd q

pub one_text_only : (a b : List ℕ) (codes : List Code) → SpellsCodes a codes → SpellsCodes b codes → a ≡ b
one_text_only a b codes p q = p.joined ∙ one_pieces p.pieces q.pieces codes p.each q.each ∙ sym q.joined

-- ---- one list of codes

pub one_reading_only : (text : List ℕ) (a b : List Code) → Letters text a → Letters text b → a ≡ b
one_reading_only text a b p q = cc (is_read_again text a p, is_read_again text b q)

exact_code : (code spelled : Code) → IsExact code → code ≡ code_for spelled → code ≡ spelled
exact_code (Number n) (Number m) exact e =
    let number : n ≡ min m largest = cc in
    ap Number (omega (arith, number, exact))
exact_code Tag Tag exact e = refl
exact_code code spelled exact e = cc

-- codes below the largest number are what their letters spell
pub exact_codes : (codes spelled : List Code) → All IsExact codes → codes ≡ map code_for spelled → codes ≡ spelled
exact_codes [] [] exact e = refl
exact_codes (c ∷ codes) (s ∷ spelled) exact e =
    let first : c ≡ s = exact_code c s (All-head IsExact c codes exact) (cc) in
    let others = exact_codes codes spelled (All-tail IsExact c codes exact) (cc) in
    cc
exact_codes codes spelled exact e = cc
