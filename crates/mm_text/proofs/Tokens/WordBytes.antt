-- The bytes of a word: one above `$` is neither white space nor a `$`; whether a token holds a `$`,
-- by its bytes' positions in the file.
use Rattle.std.proofs.Common.{◌≡◌, ◌<◌, ◌≤◌, ◌==◌, ℕ, List, get_or, true, false, ⊎_elim, ◌∙◌}
use Rattle.std.proofs.Common.{arith, ◌-◌, Bool, refl, ne_eqb, ltb-true, nat_lt, ◌+◌, length}
use Rattle.std.proofs.Common.{drop, ap, slice_range, length-drop, length-take-le}
use Rattle.std.proofs.str.Laws.{order}
use Rattle.std.proofs.lemmas.List.Folds.{list_any_at, list_any_none}
use Rattle.std.proofs.lemmas.List.Elements.{All-from_get_or}
use Rattle.mm_base.specs.Token.{is_space}
use Rattle.mm_text.specs.Items.{holds_dollar}
use Rattle.mm_text.proofs.Tokens.WordsAndComments.{slice_byte}

slice_length : (bytes : List ℕ) (start stop : ℕ) → start ≤ stop → stop ≤ length bytes
    → length (slice_range bytes start stop) ≡ stop - start
slice_length bytes start stop from within =
    length-take-le (stop - start) (drop start bytes) (omega (arith, length-drop start bytes))

-- a token none of whose bytes is a `$`
pub lacks_dollar : (bytes : List ℕ) (start stop : ℕ) → start ≤ stop → stop ≤ length bytes
    → ((k : ℕ) → start ≤ k → k < stop → (get_or bytes k 0 == 36) ≡ false)
    → holds_dollar (slice_range bytes start stop) ≡ false
lacks_dollar bytes start stop from within other =
    let text = slice_range bytes start stop in
    let long : length text ≡ stop - start = slice_length bytes start stop from within in
    list_any_none (λ b. b == 36) text (All-from_get_or (λ b. (b == 36) ≡ false) text 0 (λ k lt.
    ap (λ b. b == 36) (slice_byte bytes start stop k (omega arith))
    ∙ other (start + k) (omega arith) (omega arith)))

-- a token one of whose bytes is a `$`
pub has_dollar : (bytes : List ℕ) (start at stop : ℕ) → start ≤ at → at < stop
    → stop ≤ length bytes → get_or bytes at 0 ≡ 36
    → holds_dollar (slice_range bytes start stop) ≡ true
has_dollar bytes start at stop from before within dollar =
    let text = slice_range bytes start stop in
    let long : length text ≡ stop - start = slice_length bytes start stop (omega arith) within in
    let position : start + (at - start) ≡ at = omega arith in
    let byte : get_or text (at - start) 0 ≡ 36 =
    slice_byte bytes start stop (at - start) (omega arith)
    ∙ ap (λ n. get_or bytes n 0) position ∙ dollar in
    list_any_at (λ b. b == 36) text (at - start) 0 (omega arith) (ap (λ b. b == 36) byte)

-- a byte above `$` is no white space
pub high_ink : (b : ℕ) → nat_lt 36 b ≡ true → is_space b ≡ false
high_ink b high =
    let above : 36 < b = ltb-true 36 b high in
    rw (
      ne_eqb b 32 (λ e. omega arith),
      ne_eqb b 9 (λ e. omega arith),
      ne_eqb b 10 (λ e. omega arith),
      ne_eqb b 12 (λ e. omega arith),
      ne_eqb b 13 (λ e. omega arith),
    ) refl

-- and it is no `$`
pub high_word : (b : ℕ) → nat_lt 36 b ≡ true → (b == 36) ≡ false
high_word b high = let above : 36 < b = ltb-true 36 b high in ne_eqb b 36 (λ e. omega arith)

-- what no byte was up to one position, and none is that is passed over, none was up to the next
pub run_on : (bytes : List ℕ) (start from at : ℕ) (q : ℕ → Bool)
    → ((b : ℕ) → nat_lt 36 b ≡ true → q b ≡ false)
    → ((k : ℕ) → start ≤ k → k < from → q (get_or bytes k 0) ≡ false)
    → ((k : ℕ) → from ≤ k → k < at → nat_lt 36 (get_or bytes k 0) ≡ true)
    → (k : ℕ) → start ≤ k → k < at → q (get_or bytes k 0) ≡ false
run_on bytes start from at q each before passed k low high = ⊎_elim
    (λ (less : k < from). before k low less)
    (λ (more : from ≤ k). each (get_or bytes k 0) (passed k more high))
    (order k from)
