-- What stands in a text outside comments: its tokens are told one after the other, and have no more
-- bytes than the text. On it rests the contract of `shown_tokens`.
use Rattle.std.proofs.Common.{◌≡◌, ℕ, ◌+◌, ◌≤◌, List, [], ◌∷◌, ◌++◌, length, map, Option, None, refl}
use Rattle.std.proofs.Common.{ap, arith, ◌∙◌, sym, Some, append-nil}
use Rattle.std.specs.List.{sum_by}
use Rattle.std.proofs.lemmas.List.Sums.{sum_by-cons}
use Rattle.mm_base.specs.declared.token.Token.{Token}
use Rattle.mm_base.specs.Token.{PlainToken, plain_token, tokens_from}
use Rattle.mm_base.proofs.TokensByByte.{tokens_by}
use Rattle.mm_text.specs.declared.fault.TextRule.{TextRule}
use Rattle.mm_text.specs.Items.{Shown, Clear, Broken, without_comments}
use Rattle.mm_text.specs.Shown.{clear_tokens, first_broken, shown_in}
use Rattle.mm_text.proofs.Tokens.StepByStep.{shown_by}

-- ---- tokens, and then what is left

clear_with : (tokens : List PlainToken) (left : List Shown)
    → clear_tokens (map Clear tokens ++ left) ≡ tokens ++ clear_tokens left
clear_with [] left = refl
clear_with (t ∷ tokens) left = ap (λ (ts : List PlainToken). t ∷ ts) (clear_with tokens left)

broken_with : (tokens : List PlainToken) (left : List Shown)
    → first_broken (map Clear tokens ++ left) ≡ first_broken left
broken_with [] left = refl
broken_with (t ∷ tokens) left = broken_with tokens left

-- all are told
pub told_whole : (shown : List Shown) (tokens : List PlainToken) (left : List Shown)
    → shown ≡ map Clear tokens ++ left → left ≡ []
    → (tokens ≡ clear_tokens shown) × (None ≡ first_broken shown)
told_whole shown tokens left told none = (
  sym (append-nil tokens) ∙ sym (clear_with tokens [])
      ∙ ap clear_tokens (sym (rw none at told)),
  sym (broken_with tokens []) ∙ ap first_broken (sym (rw none at told)),
)

-- a fault ends them
pub told_broken : (shown : List Shown) (tokens : List PlainToken) (left : List Shown)
    (rule : TextRule) (t : PlainToken)
    → shown ≡ map Clear tokens ++ left → left ≡ Broken rule t ∷ []
    → (tokens ≡ clear_tokens shown) × (Some (rule, t) ≡ first_broken shown)
told_broken shown tokens left rule t told fault = (
  sym (append-nil tokens) ∙ sym (clear_with tokens (Broken rule t ∷ []))
      ∙ ap clear_tokens (sym (rw fault at told)),
  sym (broken_with tokens (Broken rule t ∷ [])) ∙ ap first_broken (sym (rw fault at told)),
)

-- ---- how many bytes they have

-- the bytes of tokens, counted
abbrev bytes_of : List PlainToken → ℕ
bytes_of tokens = sum_by (λ t. length t.text) tokens

bytes_with : (t : PlainToken) (tokens : List PlainToken)
    → bytes_of (t ∷ tokens) ≡ length t.text + bytes_of tokens
bytes_with t tokens = sum_by-cons (λ (u : PlainToken). length u.text) t tokens

from_room : (file at : ℕ) (bytes : List ℕ) → bytes_of (tokens_from file at bytes) ≤ length bytes
from_room file at bytes =
    tokens_by file (λ n bs ts. bytes_of ts ≤ length bs) (λ n. omega arith)
    (λ n b bs ts inner. omega (arith, inner))
    (λ n b bs ts inner.
    omega (arith, inner, bytes_with (record { text = b ∷ []; file = file; at = n }) ts))
    (λ n b bs t ts e inner.
    omega (
      arith,
      inner,
      bytes_with t ts,
      bytes_with (record { text = b ∷ t.text; file = file; at = n }) ts,
    ))
    at bytes

clear_room : (begin : Option PlainToken) (tokens : List PlainToken)
    → bytes_of (clear_tokens (without_comments begin tokens)) ≤ bytes_of tokens
clear_room begin tokens =
    shown_by (λ ts shown. bytes_of (clear_tokens shown) ≤ bytes_of ts) (omega arith)
    (λ ts rule t. omega arith) (λ t ts shown inner. omega (arith, inner, bytes_with t ts))
    (λ t ts shown inner. omega (arith, inner, bytes_with t ts, bytes_with t (clear_tokens shown)))
    begin tokens

-- counted by their texts
texts_counted : (tokens : List Token)
    → sum_by length (map (λ t. t.text.now) tokens) ≡ bytes_of (map plain_token tokens)
texts_counted [] = refl
texts_counted (t ∷ tokens) =
    sum_by-cons length t.text.now (map (λ u. u.text.now) tokens)
    ∙ ap (λ n. length t.text.now + n) (texts_counted tokens)
    ∙ sym (bytes_with (plain_token t) (map plain_token tokens))

pub shown_room : (text : List ℕ) (tokens : List Token)
    → map plain_token tokens ≡ clear_tokens (shown_in text)
    → sum_by length (map (λ t. t.text.now) tokens) ≤ length text
shown_room text tokens is =
    omega (
      arith,
      texts_counted tokens,
      ap bytes_of is,
      clear_room None (tokens_from 0 0 text),
      from_room 0 0 text,
    )
