-- What comments say: a text is gone through byte by byte, and headings are counted part by part.
-- The calls of `remarks.rt` rest on it.
use Rattle.std.proofs.Common.{◌≡◌, ℕ, zero, suc, ◌+◌, ◌-◌, ◌<◌, ◌≤◌, ◌==◌, ◌||◌, ◌&&◌, List, [], ◌∷◌}
use Rattle.std.proofs.Common.{◌++◌, length, take, drop, get_or, Bool, true, false, cond, refl, sym, ap}
use Rattle.std.proofs.Common.{◌∙◌, arith, inl, inr, codes, add-zero, zero-add, drop-drop, eq-eqb, ne_eqb}
use Rattle.std.proofs.Common.{append_assoc, ◌≢◌}
use Rattle.std.specs.List.{starts_with}
use Rattle.std.specs.Prelude.{nat_eq}
use Rattle.std.proofs.lemmas.List.{drop_more, drop_all, take_more}
use Rattle.std.proofs.lemmas.Bool.{cases_Bool, cases_lt, both_ways, cond-true}
use Rattle.std.proofs.lemmas.Bool.{cond-false, cond_both, and_left}
use Rattle.mm_base.specs.Token.{is_space}
use Rattle.mm_text.specs.Remarks.{holds, behind_space, spaced, says, is_mark, before_mark, is_heading}
use Rattle.mm_text.specs.Remarks.{headings, IsCommentBefore}
use borrow.Author.Tests.{eqb-true}

-- ---- a text byte by byte

-- a byte that isn't white space says itself
pub spaced-ink : (text : List ℕ) (at : ℕ) → at < length text → is_space (get_or text at 0) ≡ false
    → spaced (drop at text) ≡ get_or text at 0 ∷ spaced (drop (at + 1) text)
unfolding spaced
spaced-ink text at within ink =
    ap spaced (drop_more text at 0 within)
    ∙ cond-false (is_space (get_or text at 0)) _ _ ink

-- no byte but a space is one
not_32 : (b : ℕ) → is_space b ≡ false → (b == 32) ≡ false
not_32 b ink = elim (cases_Bool (b == 32)) [
  | inl same ↦ absurd (both_ways (is_space b) ink (ap (λ x. x || b == 9 || b == 10 || b == 12 || b == 13) same))
  | inr other ↦ other
]

-- a space in front of a text that begins with no white space
behind-ink : (text : List ℕ) (end : ℕ)
    → (end < length text → is_space (get_or text end 0) ≡ false)
    → behind_space (spaced (drop end text)) ≡ 32 ∷ spaced (drop end text)
unfolding spaced
behind-ink text end stops = elim (cases_lt end (length text)) [
  | inl within ↦
      let b = get_or text end 0 in
      rw (spaced-ink text end within (stops within))
      (cond-false (b == 32) (b ∷ spaced (drop (end + 1) text)) (32 ∷ b ∷ spaced (drop (end + 1) text)) (not_32 b (stops within)))
  | inr past ↦ ap (λ t. behind_space (spaced t)) (drop_all end text past) ∙ sym (ap (λ t. 32 ∷ spaced t) (drop_all end text past))
]

-- a run of white space says one space
pub spaced-blank : (count : ℕ) (text : List ℕ) (at end : ℕ) → end ≡ at + 1 + count → end ≤ length text
    → ((k : ℕ) → at ≤ k → k < end → is_space (get_or text k 0) ≡ true)
    → (end < length text → is_space (get_or text end 0) ≡ false)
    → spaced (drop at text) ≡ 32 ∷ spaced (drop end text)
unfolding spaced
spaced-blank zero text at end e within blank stops =
    let one : at + 1 ≡ end = omega arith in
    ap spaced (drop_more text at 0 (omega arith))
    ∙ cond-true (is_space (get_or text at 0)) _ _ (blank at (omega arith) (omega arith))
    ∙ ap (λ n. behind_space (spaced (drop n text))) one
    ∙ behind-ink text end stops
spaced-blank (suc count) text at end e within blank stops =
    let inner : spaced (drop (at + 1) text) ≡ 32 ∷ spaced (drop end text) =
    spaced-blank count text (at + 1) end (omega arith) within (λ k from. blank k (omega arith)) stops in
    ap spaced (drop_more text at 0 (omega arith))
    ∙ cond-true (is_space (get_or text at 0)) _ _ (blank at (omega arith) (omega arith))
    ∙ ap behind_space inner

-- where white space begins, a space is said
behind-first : (text : List ℕ) → (said : List ℕ) × (behind_space text ≡ 32 ∷ said)
behind-first [] = ([], refl)
behind-first (b ∷ text) = elim (cases_Bool (b == 32)) [
  | inl same ↦ (
    text,
    cond-true (b == 32) (b ∷ text) (32 ∷ b ∷ text) same
        ∙ ap (λ x. x ∷ text) (eqb-true b 32 same),
  )
  | inr other ↦ (b ∷ text, cond-false (b == 32) (b ∷ text) (32 ∷ b ∷ text) other)
]

-- so no other byte is
pub spaced-other : (text said : List ℕ) (at byte : ℕ) → at < length text
    → is_space (get_or text at 0) ≡ true → byte ≢ 32 → spaced (drop at text) ≢ byte ∷ said
unfolding spaced
spaced-other text said at byte within blank other same =
    let first = behind-first (spaced (drop (at + 1) text)) in
    let space : spaced (drop at text) ≡ 32 ∷ first.0 =
    ap spaced (drop_more text at 0 within)
    ∙ cond-true (is_space (get_or text at 0)) _ _ blank ∙ first.1 in
    other (cc)

-- ---- words

-- nothing begins with a word of at least one byte
pub starts-nil : (word : List ℕ) → starts_with nat_eq [] word ≡ (length word == 0)
starts-nil [] = refl
starts-nil (s ∷ word) = sym (ne_eqb (length (s ∷ word)) 0 (λ e. omega arith))

-- at the end of a text nothing is said, while a part of the sentence is left
pub says-over : (text sentence : List ℕ) (at i : ℕ) → length text ≤ at → i < length sentence
    → starts_with nat_eq (spaced (drop at text)) (drop i sentence) ≡ false
unfolding spaced
says-over text sentence at i past some =
    ap (λ t. starts_with nat_eq (spaced t) (drop i sentence)) (drop_all at text past)
    ∙ ap (starts_with nat_eq []) (drop_more sentence i 0 some)

or_absorbs : (a b : Bool) → (a || b) ≡ (a || (a || b))
or_absorbs true b = refl
or_absorbs false b = refl

holds-behind : (word text : List ℕ)
    → holds word (behind_space text)
    ≡ (starts_with nat_eq (behind_space text) word || holds word text)
unfolding holds
holds-behind word [] = refl
holds-behind word (c ∷ text) =
    let So : List ℕ → Type 0 = λ t. holds word t ≡ (starts_with nat_eq t word || holds word (c ∷ text)) in
    cond_both (c == 32) (c ∷ text) (32 ∷ c ∷ text) So
    (λ _. or_absorbs (starts_with nat_eq (c ∷ text) word) (holds word text))
    (λ _. refl)

says-cons : (sentence text : List ℕ) (b : ℕ)
    → says sentence (b ∷ text)
    ≡ (starts_with nat_eq (spaced (b ∷ text)) sentence || says sentence text)
unfolding holds spaced
says-cons sentence text b =
    let So : List ℕ → Type 0 =
    λ t. holds sentence t ≡ (starts_with nat_eq t sentence || holds sentence (spaced text)) in
    cond_both (is_space b) (behind_space (spaced text)) (b ∷ spaced text) So
    (λ _. holds-behind sentence (spaced text)) (λ _. refl)

-- a text says what is said from one of its positions on
pub says-step : (sentence text : List ℕ) (at : ℕ) → at < length text
    → says sentence (drop at text)
    ≡ (starts_with nat_eq (spaced (drop at text)) sentence || says sentence (drop (at + 1) text))
says-step sentence text at within =
    let e = drop_more text at 0 within in
    ap (says sentence) e ∙ says-cons sentence (drop (at + 1) text) (get_or text at 0)
    ∙ sym (ap (λ t. starts_with nat_eq (spaced t) sentence || says sentence (drop (at + 1) text)) e)

pub says-nil : (sentence text : List ℕ) (at : ℕ) → length text ≤ at
    → says sentence (drop at text) ≡ starts_with nat_eq [] sentence
unfolding holds spaced
says-nil sentence text at past = ap (says sentence) (drop_all at text past)

-- a text holds what it begins with at one of its positions
pub holds-step : (word text : List ℕ) (at : ℕ) → at < length text
    → holds word (drop at text)
    ≡ (starts_with nat_eq (drop at text) word || holds word (drop (at + 1) text))
unfolding holds
holds-step word text at within =
    let e = drop_more text at 0 within in
    ap (holds word) e
    ∙ sym (ap (λ t. starts_with nat_eq t word || holds word (drop (at + 1) text)) e)

pub holds-nil : (word text : List ℕ) (at : ℕ) → length text ≤ at
    → holds word (drop at text) ≡ starts_with nat_eq [] word
unfolding holds
holds-nil word text at past = ap (holds word) (drop_all at text past)

-- ---- the comment right before a position

-- behind the `$)` there is only white space
pub comment-end : (bytes : List ℕ) (at start stop end : ℕ) → IsCommentBefore bytes at start stop
    → end ≤ at → ((k : ℕ) → end ≤ k → k < at → is_space (get_or bytes k 0) ≡ true)
    → ((k : ℕ) → k + 1 ≡ end → is_space (get_or bytes k 0) ≡ false) → stop + 2 ≡ end
comment-end bytes at start stop end h before blank ink = elim (cases_lt end (stop + 2)) [
  | inl lt ↦
      let room = h.before in
      absurd (both_ways (is_space (get_or bytes (stop + 1) 0)) (ap is_space h.closes)
      (blank (stop + 1) (omega arith) (omega arith)))
  | inr ge ↦ elim (cases_lt (stop + 2) end) [
    | inl lt ↦
        absurd (both_ways (is_space (get_or bytes (end - 1) 0)) (ink (end - 1) (omega arith))
        (h.blank (end - 1) (omega arith) (omega arith)))
    | inr le ↦ omega arith
  ]
]

-- ---- headings

-- what stands before the next mark, byte by byte
pub before_mark-step : (bytes : List ℕ) (at : ℕ) → at + 1 < length bytes
    → is_mark (get_or bytes at 0) (get_or bytes (at + 1) 0) ≡ false
    → before_mark (drop at bytes) ≡ get_or bytes at 0 ∷ before_mark (drop (at + 1) bytes)
unfolding before_mark
before_mark-step bytes at within other =
    let second = drop_more bytes (at + 1) 0 within in
    ap before_mark (drop_more bytes at 0 (omega arith) ∙ ap (λ t. get_or bytes at 0 ∷ t) second)
    ∙ cond-false (is_mark (get_or bytes at 0) (get_or bytes (at + 1) 0)) _ _ other
    ∙ sym (ap (λ t. get_or bytes at 0 ∷ before_mark t) second)

pub before_mark-stop : (bytes : List ℕ) (at : ℕ) → at + 1 < length bytes
    → is_mark (get_or bytes at 0) (get_or bytes (at + 1) 0) ≡ true → before_mark (drop at bytes) ≡ []
unfolding before_mark
before_mark-stop bytes at within mark =
    ap before_mark (drop_more bytes at 0 (omega arith)
    ∙ ap (λ t. get_or bytes at 0 ∷ t) (drop_more bytes (at + 1) 0 within))
    ∙ cond-true (is_mark (get_or bytes at 0) (get_or bytes (at + 1) 0)) _ _ mark

-- one byte more stands before the next mark
pub before_mark-more : (bytes : List ℕ) (at : ℕ) → at + 1 < length bytes
    → is_mark (get_or bytes at 0) (get_or bytes (at + 1) 0) ≡ false
    → take at bytes ++ before_mark (drop at bytes)
    ≡ take (at + 1) bytes ++ before_mark (drop (at + 1) bytes)
before_mark-more bytes at within other =
    ap (λ t. take at bytes ++ t) (before_mark-step bytes at within other)
    ∙ sym (append_assoc (take at bytes) (get_or bytes at 0 ∷ []) (before_mark (drop (at + 1) bytes)))
    ∙ sym (ap (λ t. t ++ before_mark (drop (at + 1) bytes)) (take_more bytes at 0 (omega arith)))

pub before_mark-short : (bytes : List ℕ) → length bytes ≤ 1 → before_mark bytes ≡ bytes
unfolding before_mark
before_mark-short [] short = refl
before_mark-short (b ∷ []) short = refl
before_mark-short (b ∷ c ∷ text) short = absurd (omega arith)

pub headings-zero : (bytes : List ℕ) → headings 0 bytes ≡ 0
unfolding headings
headings-zero bytes = refl

headings-nil : (count : ℕ) → headings count [] ≡ 0
unfolding headings
headings-nil zero = refl
headings-nil (suc count) = refl

-- headings are counted part by part
pub headings-add : (count more : ℕ) (bytes : List ℕ)
    → headings (count + more) bytes ≡ headings count bytes + headings more (drop count bytes)
unfolding headings
headings-add zero more bytes = ap (λ n. headings n bytes) (zero-add more) ∙ sym (zero-add (headings more bytes))
headings-add (suc count) more [] =
    headings-nil (suc count + more) ∙ sym (zero-add (headings more []) ∙ headings-nil more)
headings-add (suc count) more (b ∷ bytes) =
    let sum : suc count + more ≡ suc (count + more) = omega arith in
    let inner = headings-add count more bytes in
    let one = cond (is_heading (b ∷ bytes)) 1 0 in
    ap (λ n. headings n (b ∷ bytes)) sum ∙ ap (λ n. one + n) inner ∙ omega arith

-- one byte more
pub headings-more : (bytes : List ℕ) (start at : ℕ) → start ≤ at → at < length bytes
    → headings (at + 1 - start) (drop start bytes)
    ≡ headings (at - start) (drop start bytes) + cond (is_heading (drop at bytes)) 1 0
unfolding headings
headings-more bytes start at from within =
    let n = at - start in
    let sum : at + 1 - start ≡ n + 1 = omega arith in
    let back : start + n ≡ at = omega arith in
    let there : drop n (drop start bytes) ≡ drop at bytes = drop-drop n start bytes ∙ ap (λ k. drop k bytes) back in
    let some = drop_more bytes at 0 within in
    let one : headings 1 (drop at bytes) ≡ cond (is_heading (drop at bytes)) 1 0 =
    ap (headings 1) some ∙ add-zero _ ∙ sym (ap (λ t. cond (is_heading t) 1 0) some) in
    ap (λ k. headings k (drop start bytes)) sum ∙ headings-add n 1 (drop start bytes)
    ∙ ap (λ t. headings n (drop start bytes) + headings 1 t) there
    ∙ ap (λ k. headings n (drop start bytes) + k) one

-- bytes that begin with no `$` are no heading
pub no_heading : (bytes : List ℕ) (at : ℕ) → at < length bytes → (get_or bytes at 0 == 36) ≡ false
    → is_heading (drop at bytes) ≡ false
no_heading bytes at within other =
    let b = get_or bytes at 0 in
    let rest = drop (at + 1) bytes in
    let first : (36 == b) ≡ false = elim (cases_Bool (36 == b)) [
      | inl same ↦ absurd (both_ways (b == 36) other (eq-eqb b 36 (sym (eqb-true 36 b same))))
      | inr apart ↦ apart
    ] in
    ap is_heading (drop_more bytes at 0 within)
    ∙ and_left (starts_with nat_eq (b ∷ rest) (codes "$(") && holds (codes "#*#*") (before_mark (drop 2 (b ∷ rest))))
    (says (codes "Mathbox for ") (before_mark (drop 2 (b ∷ rest))))
    (and_left (starts_with nat_eq (b ∷ rest) (codes "$(")) (holds (codes "#*#*") (before_mark (drop 2 (b ∷ rest))))
    (and_left (36 == b) (starts_with nat_eq rest (codes "(")) first))
