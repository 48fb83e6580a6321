-- Where each move stands among the tokens: the code that is sought letter after letter is found
-- exactly where it ends. Clauses of `move_place` rest on it.
use Rattle.std.proofs.Common.{◌≡◌, ℕ, zero, suc, ◌+◌, ◌-◌, ◌<◌, ◌≤◌, Bool, true, false, ◌⊎◌, inl}
use Rattle.std.proofs.Common.{inr, List, [], ◌∷◌, ◌++◌, length, take, drop, slice_get}
use Rattle.std.proofs.Common.{Option, Some, None, Ok, refl, sym, ap, subst, ◌∙◌, arith}
use Rattle.std.proofs.Common.{append_assoc, lt-ltb, le-ltb, eq-eqb, ne_eqb, flat_map}
use Rattle.std.proofs.Common.{Contains, length-drop}
use Rattle.std.specs.List.{drop-map}
use Rattle.std.proofs.lemmas.Bool.{cases_eq}
use Rattle.std.proofs.lemmas.List.{length-take, length-take-le, length-map}
use Rattle.std.proofs.lemmas.List.Elements.{Contains-append_right}
use Rattle.std.proofs.lemmas.Option.{same_Some, none-some, slice_get_within}
use Rattle.mm_base.specs.declared.token.Token.{Token}
use Rattle.mm_base.proofs.Lists.{split_at, cons_parts}
use Rattle.mm_code.specs.declared.code.Code.{Code}
use Rattle.mm_code.specs.declared.code.Code.TheVariants.{Tag}
use Rattle.mm_code.specs.Mirror.Reading.{reading, with_prefix, leading_after}
use Rattle.mm_code.proofs.LetterSteps.{read_below, read_above, read_last, read_leading, read_tag}
use Rattle.mm_code.proofs.LetterSteps.{read_cut_by_tag, read_end, read_cut_by_end, with_prefix-ok}
use Rattle.mm_code.proofs.LetterSteps.{not_letter, ends, leading, cut_off, step}
use Rattle.mm_code.proofs.ReadLetters.{is_read, is_read_again}
use Rattle.mm_step.specs.Plain.{token_texts}
use Rattle.mm_places.specs.declared.places.Sought.TheVariants.{At, Behind, Nowhere}
use Rattle.mm_places.specs.Mirror.CodePlaces.{ended, passed, sought, place_in}
use Rattle.mm_proof.specs.Tokens.{opening_token, closing_token, IsCompressed}
use Rattle.mm_places.specs.Places.{EndsCode, IsMovePlace}
use Rattle.mm_proof.proofs.ProofTokens.SaidMoves.{compressed_once}

-- ==== one letter, as the code passes it

pub passed_below : (index left : ℕ) (inside : Bool) (byte : ℕ) → byte < 65
    → passed index left inside byte ≡ Nowhere
unfolding passed
passed_below index left inside byte low = rw (lt-ltb byte 65 low) refl

pub passed_above : (index left : ℕ) (inside : Bool) (byte : ℕ) → 90 < byte
    → passed index left inside byte ≡ Nowhere
unfolding passed
passed_above index left inside byte high =
    rw (
      le-ltb byte 65 (omega arith),
      le-ltb byte 85 (omega arith),
      le-ltb byte 90 (omega arith),
      ne_eqb byte 90 (λ e. omega arith),
    ) refl

pub passed_last : (index left : ℕ) (inside : Bool) (byte : ℕ) → 65 ≤ byte → byte < 85
    → passed index left inside byte ≡ ended index left
unfolding passed
passed_last index left inside byte low high = rw (le-ltb byte 65 low, lt-ltb byte 85 high) refl

pub passed_leading : (index left : ℕ) (inside : Bool) (byte : ℕ) → 85 ≤ byte → byte < 90
    → passed index left inside byte ≡ Behind left true
unfolding passed
passed_leading index left inside byte low high =
    rw (le-ltb byte 65 (omega arith), le-ltb byte 85 low, lt-ltb byte 90 high) refl

pub passed_tag : (index left : ℕ) (inside : Bool) (byte : ℕ) → byte ≡ 90 → inside ≡ false
    → passed index left inside byte ≡ ended index left
unfolding passed
passed_tag index left inside byte is outside =
    rw (
      le-ltb byte 65 (omega arith),
      le-ltb byte 85 (omega arith),
      le-ltb byte 90 (omega arith),
      eq-eqb byte 90 is,
      outside,
    ) refl

pub passed_cut : (index left : ℕ) (inside : Bool) (byte : ℕ) → byte ≡ 90 → inside ≡ true
    → passed index left inside byte ≡ Nowhere
unfolding passed
passed_cut index left inside byte is within =
    rw (
      le-ltb byte 65 (omega arith),
      le-ltb byte 85 (omega arith),
      le-ltb byte 90 (omega arith),
      eq-eqb byte 90 is,
      within,
    ) refl

-- `grind` takes these by their names.
pub ruleset passing_steps =
    (passed_below, passed_above, passed_last, passed_leading, passed_tag, passed_cut)

-- ==== one letter, as it is read

-- leading digits of this value stand before, or none do
abbrev pub Ties : Bool → ℕ → Type 0
Ties true value = 0 < value
Ties false value = value ≡ 0

-- behind leading digits of this value the text says so many codes, and one more
pub record Reads (value left : ℕ) (text : List ℕ) : Type 0 where
  pub codes : List Code
  pub read : reading value text ≡ Ok codes
  pub count : length codes ≡ left + 1

-- where bytes are left, they say a code
some_code : (value byte : ℕ) (bytes : List ℕ) (codes : List Code)
    → reading value (byte ∷ bytes) ≡ Ok codes → 1 ≤ length codes
some_code value byte [] codes e = elim (step value byte []) [
  | not_letter not is ↦ absurd (cc (is, e))
  | ends code letter means is ↦
      let rest = with_prefix-ok (code ∷ []) codes (reading 0 []) (sym is ∙ e) in
      rw rest.2 (omega arith)
  | leading from is ↦
      absurd (cc (read_cut_by_end (leading_after value byte) (omega arith), is, e))
  | cut_off tagged some is ↦ absurd (cc (is, e))
]
some_code value byte (b ∷ bytes) codes e = elim (step value byte (b ∷ bytes)) [
  | not_letter not is ↦ absurd (cc (is, e))
  | ends code letter means is ↦
      let rest = with_prefix-ok (code ∷ []) codes (reading 0 (b ∷ bytes)) (sym is ∙ e) in
      rw rest.2 (omega arith)
  | leading from is ↦ some_code (leading_after value byte) b bytes codes (sym is ∙ e)
  | cut_off tagged some is ↦ absurd (cc (is, e))
]

-- no bytes say none
none_read : (value left : ℕ) → Reads value left [] → ⊥
none_read value left r = elim (cases_eq value 0) [
  | inl none ↦
      let empty : r.codes ≡ [] = cc (read_end value none, r.read) in
      absurd (omega (arith, r.count, ap length empty))
  | inr some ↦ cc (read_cut_by_end value (omega arith), r.read)
]

-- what a letter does to what is sought: it ends it, and nothing may follow; or what follows tells;
-- or there is none
pub data Went (index left : ℕ) (inside : Bool) (value byte : ℕ) : Type 0 where
  here : passed index left inside byte ≡ At index → Reads value left (byte ∷ [])
      → ((rest : List ℕ) → Reads value left (byte ∷ rest) → rest ≡ [])
      → Went index left inside value byte
  later : (l : ℕ) (i : Bool) (next : ℕ) → passed index left inside byte ≡ Behind l i → Ties i next
      → ((rest : List ℕ) → Reads next l rest → Reads value left (byte ∷ rest))
      → ((rest : List ℕ) → Reads value left (byte ∷ rest) → Reads next l rest)
      → Went index left inside value byte
  never : passed index left inside byte ≡ Nowhere
      → ((rest : List ℕ) → Reads value left (byte ∷ rest) → ⊥) → Went index left inside value byte

pub ended_more : (index l : ℕ) → ended index (suc l) ≡ Behind l false
ended_more index l =
    let less : suc l - 1 ≡ l = omega arith in
    rw (ne_eqb (suc l) 0 (λ e. omega arith), less) refl

nothing_more : (value : ℕ) (code : Code) (byte : ℕ)
    → ((rest : List ℕ) → reading value (byte ∷ rest) ≡ with_prefix (code ∷ []) (reading 0 rest))
    → (rest : List ℕ) → Reads value 0 (byte ∷ rest) → rest ≡ []
nothing_more value code byte reads [] r = refl
nothing_more value code byte reads (b ∷ rest) r =
    let p =
    with_prefix-ok (code ∷ []) r.codes (reading 0 (b ∷ rest)) (sym (reads (b ∷ rest)) ∙ r.read) in
    absurd (omega (arith, r.count, ap length p.2, some_code 0 b rest p.0 p.1))

went_end : (index left : ℕ) (inside : Bool) (value byte : ℕ) (code : Code)
    → ((rest : List ℕ) → reading value (byte ∷ rest) ≡ with_prefix (code ∷ []) (reading 0 rest))
    → passed index left inside byte ≡ ended index left → Went index left inside value byte
went_end index zero inside value byte code reads is =
    here is
    (record {
      codes = code ∷ [];
      read = reads [] ∙ ap (with_prefix (code ∷ [])) (read_end 0 refl);
      count = omega arith;
    })
    (nothing_more value code byte reads)
went_end index (suc l) inside value byte code reads is =
    later l false 0 (is ∙ ended_more index l) refl
    (λ rest r. record {
      codes = code ∷ r.codes;
      read = reads rest ∙ ap (with_prefix (code ∷ [])) r.read;
      count = omega (arith, r.count);
    })
    (λ rest r.
    let p = with_prefix-ok (code ∷ []) r.codes (reading 0 rest) (sym (reads rest) ∙ r.read) in
    record {
      codes = p.0;
      read = p.1;
      count = omega (arith, r.count, ap length p.2);
    })

went_tag : (index left : ℕ) (inside : Bool) (value byte : ℕ) → Ties inside value → byte ≡ 90
    → Went index left inside value byte
went_tag index left true value byte ties is =
    never (passed_cut index left true byte is refl)
    (λ rest r. cc (read_cut_by_tag value byte rest is ties, r.read))
went_tag index left false value byte ties is =
    went_end index left false value byte Tag (λ rest. read_tag value byte rest is ties)
    (passed_tag index left false byte is refl)

pub kinds : (byte : ℕ) → (byte < 65) ⊎ (90 < byte) ⊎ ((65 ≤ byte) × (byte < 85))
    ⊎ ((85 ≤ byte) × (byte < 90)) ⊎ (byte ≡ 90)
kinds byte = grind arith

went : (index left : ℕ) (inside : Bool) (value byte : ℕ) → Ties inside value
    → Went index left inside value byte
went index left inside value byte ties = elim (kinds byte) [
  | inl low ↦
      never (passed_below index left inside byte low)
      (λ rest r. cc (read_below value byte rest low, r.read))
  | inr (inl high) ↦
      never (passed_above index left inside byte high)
      (λ rest r. cc (read_above value byte rest high, r.read))
  | inr (inr (inl (from, to))) ↦
      went_end index left inside value byte _ (λ rest. read_last value byte rest from to)
      (passed_last index left inside byte from to)
  | inr (inr (inr (inl (from, to)))) ↦
      later left true (leading_after value byte) (passed_leading index left inside byte from to)
      (omega arith)
      (λ rest r. record {
        codes = r.codes;
        read = read_leading value byte rest from to ∙ r.read;
        count = r.count;
      })
      (λ rest r. record {
        codes = r.codes;
        read = sym (read_leading value byte rest from to) ∙ r.read;
        count = r.count;
      })
  | inr (inr (inr (inr is))) ↦ went_tag index left inside value byte ties is
]

-- ==== a piece of the letters

-- the first bytes of a text, of which there is one more
cut_front : (value left x : ℕ) (xs : List ℕ) (c : ℕ) → c < length (x ∷ xs)
    → Reads value left (take (c + 1) (x ∷ xs))
    → ((c ≡ 0) × Reads value left (x ∷ []))
    ⊎ ((k : ℕ) × (c ≡ k + 1) × (k < length xs) × Reads value left (x ∷ take (k + 1) xs))
cut_front value left x xs zero less r = inl (refl, r)
cut_front value left x xs (suc k) less r =
    let more : suc k + 1 ≡ suc (k + 1) = omega arith in
    inr (k, omega arith, omega arith, rw more at r)

front_on : (x : ℕ) (xs : List ℕ) (k : ℕ) → take (k + 1 + 1) (x ∷ xs) ≡ x ∷ take (k + 1) xs
front_on x xs k = let more : k + 1 + 1 ≡ suc (k + 1) = omega arith in rw more refl

taken_some : (xs : List ℕ) (k : ℕ) → k < length xs → take (k + 1) xs ≡ [] → ⊥
taken_some xs k less e = omega (arith, ap length e, length-take (k + 1) xs)

right_empty : (xs more : List ℕ) → xs ++ more ≡ [] → more ≡ []
right_empty [] more e = e
right_empty (x ∷ xs) more e = absurd cc

-- what a piece does to what is sought: it ends at a byte of it, and at no other, and not behind it;
-- or what follows the piece tells; or there is none
pub data Way (index left : ℕ) (inside : Bool) (value : ℕ) (bytes : List ℕ) : Type 0 where
  within : (b : ℕ) → sought index left inside bytes ≡ At (index + b) → b < length bytes
      → Reads value left (take (b + 1) bytes)
      → ((c : ℕ) → c < length bytes → Reads value left (take (c + 1) bytes) → c ≡ b)
      → ((more : List ℕ) → ¬ (more ≡ []) → Reads value left (bytes ++ more) → ⊥)
      → Way index left inside value bytes
  behind : (l : ℕ) (i : Bool) (next : ℕ) → sought index left inside bytes ≡ Behind l i
      → Ties i next
      → ((rest : List ℕ) → Reads next l rest → Reads value left (bytes ++ rest))
      → ((rest : List ℕ) → Reads value left (bytes ++ rest) → Reads next l rest)
      → ((c : ℕ) → c < length bytes → Reads value left (take (c + 1) bytes) → ⊥)
      → Way index left inside value bytes
  nowhere : sought index left inside bytes ≡ Nowhere
      → ((c : ℕ) → c < length bytes → Reads value left (take (c + 1) bytes) → ⊥)
      → ((more : List ℕ) → ¬ (more ≡ []) → Reads value left (bytes ++ more) → ⊥)
      → Way index left inside value bytes

-- one byte more in front of a piece
module _ (index left : ℕ) (inside : Bool) (value x : ℕ) (xs : List ℕ) where
  way_here : passed index left inside x ≡ At index → Reads value left (x ∷ [])
      → ((rest : List ℕ) → Reads value left (x ∷ rest) → rest ≡ [])
      → Way index left inside value (x ∷ xs)
  way_here is reads only =
      let there : index ≡ index + 0 = omega arith in
      within 0 (rw is (ap At there)) (omega arith) reads
      (λ c less r. elim (cut_front value left x xs c less r) [
        | inl (none, one) ↦ none
        | inr (k, e, l, on) ↦ absurd (taken_some xs k l (only (take (k + 1) xs) on))
      ])
      (λ more some r. some (right_empty xs more (only (xs ++ more) r)))

  way_never : passed index left inside x ≡ Nowhere
      → ((rest : List ℕ) → Reads value left (x ∷ rest) → ⊥) → Way index left inside value (x ∷ xs)
  way_never is none =
      nowhere (rw is refl)
      (λ c less r. elim (cut_front value left x xs c less r) [
        | inl (e, one) ↦ none [] one
        | inr (k, e, l, on) ↦ none (take (k + 1) xs) on
      ])
      (λ more some r. none (xs ++ more) r)

  way_later : (l : ℕ) (i : Bool) (next : ℕ) → passed index left inside x ≡ Behind l i
      → ((rest : List ℕ) → Reads next l rest → Reads value left (x ∷ rest))
      → ((rest : List ℕ) → Reads value left (x ∷ rest) → Reads next l rest)
      → Way (index + 1) l i next xs → Way index left inside value (x ∷ xs)
  way_later l i next is to from (within b e less reads only none) =
      let there : index + 1 + b ≡ index + (b + 1) = omega arith in
      within (b + 1) (rw (is, e) (ap At there)) (omega arith)
      (rw (front_on x xs b) (to (take (b + 1) xs) reads))
      (λ c few r. elim (cut_front value left x xs c few r) [
        | inl (e', one) ↦ absurd (none_read next l (from [] one))
        | inr (k, e', lt, on) ↦
            let same = only k lt (from (take (k + 1) xs) on) in
            omega arith
      ])
      (λ more some r. none more some (from (xs ++ more) r))
  way_later l i next is to from (behind l' i' next' e ties to' from' none) =
      behind l' i' next' (rw (is, e) refl) ties
      (λ rest r. to (xs ++ rest) (to' rest r))
      (λ rest r. from' rest (from (xs ++ rest) r))
      (λ c few r. elim (cut_front value left x xs c few r) [
        | inl (e', one) ↦ none_read next l (from [] one)
        | inr (k, e', lt, on) ↦ none k lt (from (take (k + 1) xs) on)
      ])
  way_later l i next is to from (nowhere e none more_none) =
      nowhere (rw (is, e) refl)
      (λ c few r. elim (cut_front value left x xs c few r) [
        | inl (e', one) ↦ none_read next l (from [] one)
        | inr (k, e', lt, on) ↦ none k lt (from (take (k + 1) xs) on)
      ])
      (λ more some r. more_none more some (from (xs ++ more) r))

way : (index left : ℕ) (inside : Bool) (value : ℕ) (bytes : List ℕ) → Ties inside value
    → Way index left inside value bytes
way index left inside value [] ties =
    behind left inside value refl ties (λ rest r. r) (λ rest r. r) (λ c less r. omega arith)
way index left inside value (x ∷ xs) ties = elim (went index left inside value x ties) [
  | here is reads only ↦ way_here index left inside value x xs is reads only
  | later l i next is on to from ↦
      way_later index left inside value x xs l i next is to from (way (index + 1) l i next xs on)
  | never is none ↦ way_never index left inside value x xs is none
]

-- ==== the pieces of the letters

abbrev pub joined : List (List ℕ) → List ℕ
joined pieces = flat_map (λ l. l) pieces

-- The text up to a byte of a piece says so many codes, and one more.
pub record EndsIn (value left : ℕ) (pieces : List (List ℕ)) (p b : ℕ) : Type 0 where
  pub text : List ℕ
  pub there : slice_get pieces p ≡ Some text
  pub within : b < length text
  pub reads : Reads value left (joined (take p pieces) ++ take (b + 1) text)

-- the byte stands in the first piece, or behind it
cut_piece : (value left : ℕ) (piece : List ℕ) (pieces : List (List ℕ)) (p b : ℕ)
    → EndsIn value left (piece ∷ pieces) p b
    → ((p ≡ 0) × (b < length piece) × Reads value left (take (b + 1) piece))
    ⊎ ((k : ℕ) × (p ≡ k + 1) × (text : List ℕ) × (slice_get pieces k ≡ Some text)
    × (b < length text)
    × Reads value left (piece ++ (joined (take k pieces) ++ take (b + 1) text)))
cut_piece value left piece pieces zero b e =
    let same = same_Some piece e.text e.there in
    inl (refl, rw same e.within, rw same e.reads)
cut_piece value left piece pieces (suc k) b e =
    inr (
      k,
      omega arith,
      e.text,
      e.there,
      e.within,
      rw (append_assoc piece (joined (take k pieces)) (take (b + 1) e.text)) at e.reads,
    )

some_front : (front text : List ℕ) (b : ℕ) → b < length text → front ++ take (b + 1) text ≡ [] → ⊥
some_front front text b less e = taken_some text b less (right_empty front (take (b + 1) text) e)

-- where the code that is sought ends: at one byte of a piece, or nowhere
pub data Found (number left : ℕ) (inside : Bool) (value : ℕ) (pieces : List (List ℕ)) : Type 0 where
  there : (p b : ℕ) → place_in number left inside pieces ≡ Some (number + p, b)
      → EndsIn value left pieces p b
      → ((q c : ℕ) → EndsIn value left pieces q c → (q ≡ p) × (c ≡ b))
      → Found number left inside value pieces
  nowhere_there : place_in number left inside pieces ≡ None
      → ((q c : ℕ) → EndsIn value left pieces q c → ⊥) → Found number left inside value pieces

-- one piece more in front of the others
module _ (number left : ℕ) (inside : Bool) (value : ℕ) (piece : List ℕ)
    (pieces : List (List ℕ)) where
  found_here : (b : ℕ) → sought 0 left inside piece ≡ At (0 + b) → b < length piece
      → Reads value left (take (b + 1) piece)
      → ((c : ℕ) → c < length piece → Reads value left (take (c + 1) piece) → c ≡ b)
      → ((more : List ℕ) → ¬ (more ≡ []) → Reads value left (piece ++ more) → ⊥)
      → Found number left inside value (piece ∷ pieces)
  found_here b is less reads only none =
      let at : number ≡ number + 0 = omega arith in
      let same : 0 + b ≡ b = omega arith in
      there 0 b (rw (is, same) (ap (λ (k : ℕ). Some (k, b)) at))
      (record { text = piece; there = refl; within = less; reads = reads })
      (λ q c e. elim (cut_piece value left piece pieces q c e) [
        | inl (first, lt, r) ↦ (first, only c lt r)
        | inr (k, q_is, text, on, lt, r) ↦
            absurd (none _ (some_front (joined (take k pieces)) text c lt) r)
      ])

  found_none : sought 0 left inside piece ≡ Nowhere
      → ((c : ℕ) → c < length piece → Reads value left (take (c + 1) piece) → ⊥)
      → ((more : List ℕ) → ¬ (more ≡ []) → Reads value left (piece ++ more) → ⊥)
      → Found number left inside value (piece ∷ pieces)
  found_none is none more_none =
      nowhere_there (rw is refl)
      (λ q c e. elim (cut_piece value left piece pieces q c e) [
        | inl (first, lt, r) ↦ none c lt r
        | inr (k, q_is, text, on, lt, r) ↦
            more_none _ (some_front (joined (take k pieces)) text c lt) r
      ])

  found_later : (l : ℕ) (i : Bool) (next : ℕ) → sought 0 left inside piece ≡ Behind l i
      → ((rest : List ℕ) → Reads next l rest → Reads value left (piece ++ rest))
      → ((rest : List ℕ) → Reads value left (piece ++ rest) → Reads next l rest)
      → ((c : ℕ) → c < length piece → Reads value left (take (c + 1) piece) → ⊥)
      → Found (number + 1) l i next pieces → Found number left inside value (piece ∷ pieces)
  found_later l i next is to from none (there p b e it only) =
      let at : number + 1 + p ≡ number + suc p = omega arith in
      there (suc p) b (rw (is, e) (ap (λ (k : ℕ). Some (k, b)) at))
      (record {
        text = it.text;
        there = it.there;
        within = it.within;
        reads = rw (append_assoc piece (joined (take p pieces)) (take (b + 1) it.text))
            (to (joined (take p pieces) ++ take (b + 1) it.text) it.reads);
      })
      (λ q c e'. elim (cut_piece value left piece pieces q c e') [
        | inl (first, lt, r) ↦ absurd (none c lt r)
        | inr (k, q_is, text, on, lt, r) ↦
            let same =
            only k c (record { text = text; there = on; within = lt; reads = from _ r }) in
            (omega (arith, same.0), same.1)
      ])
  found_later l i next is to from none (nowhere_there e not_behind) =
      nowhere_there (rw (is, e) refl)
      (λ q c e'. elim (cut_piece value left piece pieces q c e') [
        | inl (first, lt, r) ↦ none c lt r
        | inr (k, q_is, text, on, lt, r) ↦
            not_behind k c (record { text = text; there = on; within = lt; reads = from _ r })
      ])

pub found : (number left : ℕ) (inside : Bool) (value : ℕ) (pieces : List (List ℕ))
    → Ties inside value → Found number left inside value pieces
found number left inside value [] ties =
    nowhere_there refl (λ q c e. none-some e.text e.there)
found number left inside value (piece ∷ pieces) ties =
    elim (way 0 left inside value piece ties) [
      | within b is less reads only none ↦
          found_here number left inside value piece pieces b is less reads only none
      | behind l i next is on to from none ↦
          found_later number left inside value piece pieces l i next is to from none
          (found (number + 1) l i next pieces on)
      | nowhere is none more_none ↦
          found_none number left inside value piece pieces is none more_none
    ]

-- ==== in the words of the code of letters

pub ends_in : (letters : List (List ℕ)) (number piece byte : ℕ) → EndsCode letters number piece byte
    → EndsIn 0 number letters piece byte
ends_in letters number piece byte it = record {
  text = it.text;
  there = it.there;
  within = it.within;
  reads = record {
    codes = it.codes;
    read = is_read_again _ it.codes it.said;
    count = it.count;
  };
}

pub ends_code : (letters : List (List ℕ)) (number piece byte : ℕ)
    → EndsIn 0 number letters piece byte → EndsCode letters number piece byte
ends_code letters number piece byte it = record {
  text = it.text;
  there = it.there;
  within = it.within;
  codes = it.reads.codes;
  said = is_read (joined (take piece letters) ++ take (byte + 1) it.text) [] it.reads.codes tt
      it.reads.read;
  count = it.reads.count;
}

-- what the code finds is where the code with the number ends, and it finds it wherever it ends
pub record IsCodePlace (letters : List (List ℕ)) (number : ℕ)
    (answer : Option (ℕ × ℕ)) : Type 0 where
  pub place : (piece byte : ℕ) → answer ≡ Some (piece, byte) → EndsCode letters number piece byte
  pub found : (piece byte : ℕ) → EndsCode letters number piece byte → answer ≡ Some (piece, byte)

pub code_found : (letters : List (List ℕ)) (number : ℕ)
    → IsCodePlace letters number (place_in 0 number false letters)
code_found letters number = go (found 0 number false 0 letters refl)
  where
    go : Found 0 number false 0 letters
        → IsCodePlace letters number (place_in 0 number false letters)
    go (there p b e it only) =
        let none : 0 + p ≡ p = omega arith in
        let is : place_in 0 number false letters ≡ Some (p, b) =
        e ∙ ap (λ (k : ℕ). Some (k, b)) none in
        record {
          place = λ piece byte at.
              let same = same_Some (p, b) (piece, byte) (sym is ∙ at) in
              let first : p ≡ piece = ap (λ (x : ℕ × ℕ). x.0) same in
              let second : b ≡ byte = ap (λ (x : ℕ × ℕ). x.1) same in
              rw (← first, ← second) (ends_code letters number p b it);
          found = λ piece byte at.
              let same = only piece byte (ends_in letters number piece byte at) in
              rw (same.0, same.1) is;
        }
    go (nowhere_there e never_there) = record {
      place = λ piece byte is. absurd (none-some (piece, byte) (sym e ∙ is));
      found = λ piece byte at.
          absurd (never_there piece byte (ends_in letters number piece byte at));
    }

-- ==== among the tokens of a compressed proof

-- whose list has no end
pub endless_place : (rest : List (List ℕ)) (number token byte : ℕ)
    → ¬ (Contains rest closing_token) → IsMovePlace (opening_token ∷ rest) number token byte → ⊥
endless_place rest number token byte endless (inl p) = p.0 refl
endless_place rest number token byte endless (inr (labels, letters, c, piece, is, it)) =
    let whole : rest ≡ labels ++ closing_token ∷ letters =
    (cons_parts opening_token opening_token rest (labels ++ closing_token ∷ letters) c.whole).1 in
    endless (rw whole
    (Contains-append_right labels (closing_token ∷ letters) closing_token (0, omega arith, refl)))

-- whose first `)` stands at this index behind the `(`
module _ (rest : List (List ℕ)) (i : ℕ) (there_is : slice_get rest i ≡ Some closing_token)
    (first : ¬ (Contains (take i rest) closing_token)) where
  compressed_parts : IsCompressed (opening_token ∷ rest) (take i rest) (drop (i + 1) rest)
  compressed_parts =
      let one : i + 1 ≡ suc i = omega arith in
      record {
        whole = ap (λ (l : List (List ℕ)). opening_token ∷ l)
            (rw one (split_at rest i closing_token there_is));
        first = first;
      }

  length_listed : length (take i rest) ≡ i
  length_listed =
      let less = slice_get_within rest i closing_token there_is in
      length-take-le i rest (omega arith)

  pub letters_place : (number piece byte : ℕ) → EndsCode (drop (i + 1) rest) number piece byte
      → IsMovePlace (opening_token ∷ rest) number (i + 2 + piece) byte
  letters_place number piece byte it =
      inr (take i rest, drop (i + 1) rest, compressed_parts, piece, rw length_listed refl, it)

  pub letters_only : (number token byte : ℕ) → IsMovePlace (opening_token ∷ rest) number token byte
      → (piece : ℕ) × (token ≡ i + 2 + piece) × EndsCode (drop (i + 1) rest) number piece byte
  letters_only number token byte (inl p) = absurd (p.0 refl)
  letters_only number token byte (inr (labels, letters, c, piece, is, it)) =
      let same =
      compressed_once (opening_token ∷ rest) labels (take i rest) letters (drop (i + 1) rest) c
      compressed_parts in (
        piece,
        is ∙ ap (λ (l : List (List ℕ)). length l + 2 + piece) same.0
            ∙ ap (λ (k : ℕ). k + 2 + piece) length_listed,
        subst (λ (l : List (List ℕ)). EndsCode l number piece byte) same.1 it,
      )

-- the same where the code has looked among the pieces behind that `)`
module _ (rest pieces : List Token) (i number : ℕ) (behind_it : pieces ≡ drop (i + 1) rest)
    (there_is : slice_get (token_texts rest) i ≡ Some closing_token)
    (first : ¬ (Contains (take i (token_texts rest)) closing_token)) where
  same_pieces : token_texts pieces ≡ drop (i + 1) (token_texts rest)
  same_pieces = ap token_texts behind_it ∙ sym (drop-map (λ t. t.text.now) (i + 1) rest)

  looked : IsCodePlace (drop (i + 1) (token_texts rest)) number
      (place_in 0 number false (token_texts pieces))
  looked = rw same_pieces (code_found (drop (i + 1) (token_texts rest)) number)

  pub none_found : None ≡ place_in 0 number false (token_texts pieces) → (token byte : ℕ)
      → IsMovePlace (opening_token ∷ token_texts rest) number token byte → ⊥
  none_found none token byte at =
      let (piece, is, it) = letters_only (token_texts rest) i there_is first number token byte at in
      none-some (piece, byte) (none ∙ looked.found piece byte it)

  pub some_found : (piece byte : ℕ)
      → Some (piece, byte) ≡ place_in 0 number false (token_texts pieces)
      → IsMovePlace (opening_token ∷ token_texts rest) number (i + 2 + piece) byte
  some_found piece byte is =
      letters_place (token_texts rest) i there_is first number piece byte
      (looked.place piece byte (sym is))

  pub only_found : (piece byte : ℕ)
      → Some (piece, byte) ≡ place_in 0 number false (token_texts pieces)
      → (token b : ℕ) → IsMovePlace (opening_token ∷ token_texts rest) number token b
      → ◌≡◌ {A = Option (ℕ × ℕ)} (Some (i + 2 + piece, byte)) (Some (token, b))
  only_found piece byte is token b at =
      let (p, e, it) = letters_only (token_texts rest) i there_is first number token b at in
      let same = same_Some (piece, byte) (p, b) (is ∙ looked.found p b it) in
      let first_same : piece ≡ p = ap (λ (x : ℕ × ℕ). x.0) same in
      let second_same : byte ≡ b = ap (λ (x : ℕ × ℕ). x.1) same in
      rw (e, first_same, second_same) refl

  pub few_pieces : (piece byte : ℕ)
      → Some (piece, byte) ≡ place_in 0 number false (token_texts pieces)
      → i + 1 + piece < length rest
  few_pieces piece byte is =
      let it = looked.place piece byte (sym is) in
      let less = slice_get_within (drop (i + 1) (token_texts rest)) piece it.text it.there in
      omega (arith, less, length-drop (i + 1) (token_texts rest), length-map rest (λ t. t.text.now))
