-- Which rule the reading answers, and that it is the rule that the letters break.
use Rattle.std.proofs.Common.{◌≡◌, ℕ, suc, ◌<◌, ◌⊎◌, inl, inr, Bool, true, false, cond, List, []}
use Rattle.std.proofs.Common.{◌∷◌, ◌++◌, Result, Ok, Err, IsErr, All, refl, sym, ap, ◌∙◌, arith}
use Rattle.std.proofs.Common.{Any, Decides, le-leb, leb-true}
use Rattle.std.specs.List.{list_all}
use Rattle.std.specs.Char.{is_ascii_uppercase}
use Rattle.std.proofs.lemmas.Bool.{cases_eq, cases_Bool, and_parts, and_from, false_from_ne_true}
use Rattle.std.proofs.lemmas.Bool.Decides.{Decides-by_and, not_from_Decides}
use Rattle.mm_code.specs.declared.code.Code.{Code}
use Rattle.mm_code.specs.declared.code.CodeRule.{CodeRule}
use Rattle.mm_code.specs.declared.code.CodeRule.TheVariants.{P4, P5}
use Rattle.mm_code.specs.Letters.{IsLetter, IsLeadingLetter, IsEndOrTag, IsCut, LettersBreak}
use Rattle.mm_code.specs.Mirror.Reading.{with_prefix, reading, rule_behind, leading_after}
use Rattle.mm_code.proofs.LetterSteps.{read_leading, read_cut_by_tag, read_end, read_cut_by_end}
use Rattle.mm_code.proofs.LetterSteps.{not_letter, ends, leading, cut_off, step, with_prefix-err}

-- ---- the tests of the code

letter_decides : (byte : ℕ) → Decides (is_ascii_uppercase byte) (IsLetter byte)
letter_decides byte = (
  λ e. let p = and_parts _ _ e in (leb-true _ _ p.0, leb-true _ _ p.1),
  λ is. and_from _ _ (le-leb _ _ is.0) (le-leb _ _ is.1),
)

abbrev are_letters : List ℕ → Bool
are_letters text = list_all is_ascii_uppercase text

letters_decide : (text : List ℕ) → Decides (are_letters text) (All IsLetter text)
letters_decide =
    Decides-by_and is_ascii_uppercase IsLetter are_letters letter_decides refl (λ _ _. refl)

abbrev HasOther : List ℕ → Type 0
HasOther text = Any (λ byte. ¬ (IsLetter byte)) text

other-tested : (text : List ℕ) → are_letters text ≡ false → HasOther text
other-tested [] e = absurd cc
other-tested (byte ∷ text) e =
    elim (cases_Bool (is_ascii_uppercase byte)) [
      | inl is ↦
          let (k, x, lt, there, not) = other-tested text (rw is at e) in
          (suc k, x, omega (arith, lt), there, not)
      | inr fails ↦ (0, byte, omega arith, refl, not_from_Decides _ (letter_decides byte) fails)
    ]

-- ---- the rule, by the test of all bytes

rule_behind-is : (text : List ℕ) (all : Bool) → are_letters text ≡ all
    → rule_behind text ≡ cond all P5 P4
unfolding rule_behind
rule_behind-is text all e = rw e refl

rule_behind-cons : (byte : ℕ) (text : List ℕ) → IsLetter byte
    → rule_behind (byte ∷ text) ≡ rule_behind text
unfolding rule_behind
rule_behind-cons byte text is = rw ((letter_decides byte).1 is) refl

-- what the reading answers says whether all bytes are letters
abbrev Tells : Result (List Code) CodeRule → List ℕ → Type 0
Tells (Ok codes) text = are_letters text ≡ true
Tells (Err rule) text = rule ≡ rule_behind text

tells-letter : (byte : ℕ) (text : List ℕ) (read : Result (List Code) CodeRule) → IsLetter byte
    → Tells read text → Tells read (byte ∷ text)
tells-letter byte text (Ok codes) is tells = and_from _ _ ((letter_decides byte).1 is) tells
tells-letter byte text (Err rule) is tells = tells ∙ sym (rule_behind-cons byte text is)

tells-prefix : (prefix : List Code) (text : List ℕ) (read : Result (List Code) CodeRule)
    → Tells read text → Tells (with_prefix prefix read) text
tells-prefix prefix text (Ok codes) tells = tells
tells-prefix prefix text (Err rule) tells = tells

reads : (value : ℕ) (text : List ℕ) → Tells (reading value text) text
reads value [] =
    elim (cases_eq value 0) [
      | inl none ↦ rw (read_end value none) refl
      | inr some ↦ rw (read_cut_by_end value (omega arith)) (sym (rule_behind-is [] true refl))
    ]
reads value (byte ∷ text) =
    elim (step value byte text) [
      | not_letter not e ↦
          let no_letter = false_from_ne_true _ (λ is. not ((letter_decides byte).0 is)) in
          rw e (sym (rule_behind-is (byte ∷ text) false (rw no_letter refl)))
      | ends code is means e ↦
          let tells = tells-letter byte text _ is (reads 0 text) in
          rw e (tells-prefix (code ∷ []) (byte ∷ text) _ tells)
      | leading from e ↦
          rw e (tells-letter byte text _ (omega arith, omega arith) (reads _ text))
      | cut_off tagged some e ↦
          rw e (sym (rule_behind-cons byte text (omega arith, omega arith)))
    ]

-- ---- leading digits that are cut off

cut-later : (byte : ℕ) (text : List ℕ) → IsCut text → IsCut (byte ∷ text)
cut-later byte text later = record {
  before = byte ∷ later.before;
  digit = later.digit;
  after = later.after;
  whole = ap (λ (t : List ℕ). byte ∷ t) later.whole;
  is_leading = later.is_leading;
  stops = later.stops;
}

-- leading digits of this value, before the text, or some in it are cut off
abbrev IsCutFrom : ℕ → List ℕ → Type 0
IsCutFrom value text = IsCut text ⊎ ((0 < value) × IsEndOrTag text)

cut_inside : (text : List ℕ) → IsCutFrom 0 text → IsCut text
cut_inside text (inl inside) = inside
cut_inside text (inr none) = absurd (omega (arith, none.0))

cut-here : (byte value : ℕ) (text : List ℕ) → IsLeadingLetter byte → IsCutFrom value text
    → IsCut (byte ∷ text)
cut-here byte value text is (inl later) = cut-later byte text later
cut-here byte value text is (inr stops) = record {
  before = [];
  digit = byte;
  after = text;
  whole = refl;
  is_leading = is;
  stops = stops.1;
}

-- P5 is answered where leading digits are cut off
reads_cut : (value : ℕ) (text : List ℕ) → reading value text ≡ Err P5 → IsCutFrom value text
reads_cut value [] e =
    elim (cases_eq value 0) [
      | inl none ↦ absurd (cc (read_end value none, e))
      | inr some ↦ inr (omega arith, tt)
    ]
reads_cut value (byte ∷ text) e =
    elim (step value byte text) [
      | not_letter not is ↦ absurd (cc (is, e))
      | ends code letter means is ↦
          let rest = with_prefix-err (code ∷ []) P5 (reading 0 text) (sym is ∙ e) in
          inl (cut-later byte text (cut_inside text (reads_cut 0 text rest)))
      | leading from is ↦ inl (cut-here byte _ text from (reads_cut _ text (sym is ∙ e)))
      | cut_off tagged some is ↦ inr (some, tagged)
    ]

fails-prefix : (prefix : List Code) (read : Result (List Code) CodeRule) → IsErr read
    → IsErr (with_prefix prefix read)
fails-prefix prefix (Ok codes) fails = absurd cc
fails-prefix prefix (Err rule) fails = refl

-- leading digits that are cut off are not read
cut_fails : (before : List ℕ) (value digit : ℕ) (after : List ℕ) → IsLeadingLetter digit
    → IsEndOrTag after → IsErr (reading value (before ++ digit ∷ after))
cut_fails [] value digit [] is stops =
    rw (read_leading value digit [] is.0 (omega (arith, is.1)))
    (rw (read_cut_by_end (leading_after value digit) (omega (arith, is.0))) refl)
cut_fails [] value digit (byte ∷ after) is stops =
    rw (read_leading value digit (byte ∷ after) is.0 (omega (arith, is.1)))
    (rw (read_cut_by_tag (leading_after value digit) byte after stops (omega (arith, is.0))) refl)
cut_fails (byte ∷ before) value digit after is stops =
    elim (step value byte (before ++ digit ∷ after)) [
      | not_letter not e ↦ rw e refl
      | ends code letter means e ↦
          rw e (fails-prefix (code ∷ []) _ (cut_fails before 0 digit after is stops))
      | leading from e ↦ rw e (cut_fails before _ digit after is stops)
      | cut_off tagged some e ↦ rw e refl
    ]

-- ---- the rules, both ways

answered : (text : List ℕ) (read : Result (List Code) CodeRule) (all : Bool)
    → are_letters text ≡ all → Tells read text → (all ≡ true → IsErr read)
    → read ≡ Err (cond all P5 P4)
answered text (Ok codes) all e tells fails = absurd (cc (fails (sym e ∙ tells)))
answered text (Err rule) all e tells fails = ap Err (tells ∙ rule_behind-is text all e)

pub breaks_read : (rule : CodeRule) (text : List ℕ) → LettersBreak rule text → reading 0 text ≡ Err rule
breaks_read P4 text (k, x, lt, there, not) =
    let other = false_from_ne_true _ (λ e. not (rw there at ((letters_decide text).0 e k x lt))) in
    answered text (reading 0 text) false other (reads 0 text) (λ is. absurd cc)
breaks_read P5 text (all, inside) =
    answered text (reading 0 text) true ((letters_decide text).1 all) (reads 0 text)
    (λ is. rw inside.whole (cut_fails inside.before 0 _ _ inside.is_leading inside.stops))

pub read_breaks : (rule : CodeRule) (text : List ℕ) → reading 0 text ≡ Err rule → LettersBreak rule text
read_breaks rule text e = go rule e (are_letters text) refl (rw e at (reads 0 text))
  where
    go : (rule : CodeRule) → reading 0 text ≡ Err rule → (all : Bool) → are_letters text ≡ all
        → Tells (Err rule) text → LettersBreak rule text
    go P4 e true all told = absurd (cc (told, rule_behind-is text true all))
    go P4 e false all told = other-tested text all
    go P5 e true all told = ((letters_decide text).0 all, cut_inside text (reads_cut 0 text e))
    go P5 e false all told = absurd (cc (told, rule_behind-is text false all))
