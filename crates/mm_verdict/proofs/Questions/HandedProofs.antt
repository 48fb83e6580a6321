-- The tokens of a proof that is handed in: those outside comments, without a first `$=` and a last
-- `$.`, and the first of them that holds a `$`.
use Rattle.std.proofs.Common.{◌≡◌, ℕ, zero, suc, ◌+◌, ◌<◌, ◌≤◌, List, [], ◌∷◌, ◌++◌, length, map}
use Rattle.std.proofs.Common.{take, get_or, Bool, true, false, cond, codes, Option, Some, None, refl}
use Rattle.std.proofs.Common.{ap, sym, ◌∙◌, arith}
use Rattle.std.specs.List.{sum_by}
use Rattle.std.proofs.lemmas.List.{map-append, take_more}
use Rattle.std.proofs.lemmas.List.Sums.{sum_by-cons}
use Rattle.mm_base.specs.declared.token.Token.{Token}
use Rattle.mm_base.specs.Spelling.{spells}
use Rattle.mm_base.specs.Token.{PlainToken, plain_token}
use Rattle.mm_code.specs.Words.{texts_of}
use Rattle.mm_text.specs.declared.comments.Wrong.{Wrong}
use Rattle.mm_text.specs.declared.fault.TextRule.{TextRule}
use Rattle.mm_text.specs.declared.fault.TextRule.TheVariants.{X9}
use Rattle.mm_text.specs.Items.{holds_dollar}
use Rattle.mm_text.specs.Shown.{broken_at, first_broken, shown_in}
use Rattle.mm_rules.specs.ProofText.{before_stop, begun_tokens, behind_equals, broken_in, end_before}
use Rattle.mm_rules.specs.ProofText.{fault_or_dollar, first_dollar, proof_end, proof_tokens}

-- ---- a first `$=`

-- where there is no token, none is left out
pub none_begun : (tokens : List Token) → length tokens ≡ 0
    → map plain_token tokens ≡ behind_equals (map plain_token tokens)
none_begun [] none = refl
none_begun (t ∷ tokens) none = absurd (omega (arith, none))

-- the first one is left out, or not
pub behind_first : (tokens : List Token) (first : Token) (others : List Token) (b : Bool)
    → tokens ≡ first ∷ others → spells first.text.now (codes "$=") ≡ b
    → cond b (map plain_token others) (map plain_token tokens)
    ≡ behind_equals (map plain_token tokens)
behind_first tokens first others b is same =
    rw is
    (ap (λ (c : Bool). cond c (map plain_token others) (map plain_token (first ∷ others)))
    (sym same))

-- ---- a last `$.`

pushed_choice : (t : PlainToken) (b : Bool) (xs ys : List PlainToken)
    → t ∷ cond b xs ys ≡ cond b (t ∷ xs) (t ∷ ys)
pushed_choice t true xs ys = refl
pushed_choice t false xs ys = refl

stop_last : (tokens : List PlainToken) (t : PlainToken)
    → before_stop (tokens ++ t ∷ [])
    ≡ cond (spells t.text (codes "$.")) tokens (tokens ++ t ∷ [])
stop_last [] t = refl
stop_last (u ∷ []) t = pushed_choice u (spells t.text (codes "$.")) [] (t ∷ [])
stop_last (u ∷ v ∷ tokens) t =
    ap (λ (ts : List PlainToken). u ∷ ts) (stop_last (v ∷ tokens) t)
    ∙ pushed_choice u (spells t.text (codes "$.")) (v ∷ tokens) (v ∷ tokens ++ t ∷ [])

end_last : (size : ℕ) (tokens : List PlainToken) (t : PlainToken)
    → end_before size (tokens ++ t ∷ []) ≡ cond (spells t.text (codes "$.")) t.at size
end_last size [] t = refl
end_last size (u ∷ []) t = refl
end_last size (u ∷ v ∷ tokens) t = end_last size (v ∷ tokens) t

pub none_stopped : (tokens : List Token) → length tokens ≡ 0
    → map plain_token tokens ≡ before_stop (map plain_token tokens)
none_stopped [] none = refl
none_stopped (t ∷ tokens) none = absurd (omega (arith, none))

pub none_ends : (size : ℕ) (tokens : List Token) → length tokens ≡ 0
    → size ≡ end_before size (map plain_token tokens)
none_ends size [] none = refl
none_ends size (t ∷ tokens) none = absurd (omega (arith, none))

-- the last one is left out, or not
pub before_last : (tokens : List Token) (last : Token) (others : List Token) (b : Bool)
    → tokens ≡ others ++ last ∷ [] → spells last.text.now (codes "$.") ≡ b
    → cond b (map plain_token others) (map plain_token tokens)
    ≡ before_stop (map plain_token tokens)
before_last tokens last others b is same =
    rw (is, map-append plain_token others (last ∷ []))
    (ap (λ (c : Bool). cond c (map plain_token others)
    (map plain_token others ++ plain_token last ∷ [])) (sym same)
    ∙ sym (stop_last (map plain_token others) (plain_token last)))

-- and the proof ends there, or at the end
pub ends_at_last : (size : ℕ) (tokens : List Token) (last : Token) (others : List Token) (b : Bool)
    → tokens ≡ others ++ last ∷ [] → spells last.text.now (codes "$.") ≡ b
    → cond b last.at size ≡ end_before size (map plain_token tokens)
ends_at_last size tokens last others b is same =
    rw (is, map-append plain_token others (last ∷ []))
    (ap (λ (c : Bool). cond c last.at size) (sym same)
    ∙ sym (end_last size (map plain_token others) (plain_token last)))

-- ---- the first token that holds a `$`

passed_by : (b : Bool) (t : PlainToken) (rest : Option PlainToken) → cond b (Some t) rest ≡ None
    → (b ≡ false) × (rest ≡ None)
passed_by true t rest e = absurd cc
passed_by false t rest e = (refl, e)

pub dollar_found : (tokens : List Token) (i : ℕ) (d : Token) → i < length tokens
    → first_dollar (map plain_token (take i tokens)) ≡ None
    → holds_dollar (get_or tokens i d).text.now ≡ true
    → first_dollar (map plain_token tokens) ≡ Some (plain_token (get_or tokens i d))
dollar_found [] i d less none holds = absurd (omega (arith, less))
dollar_found (t ∷ tokens) zero d less none holds =
    ap (λ (c : Bool). cond c (Some (plain_token t)) (first_dollar (map plain_token tokens))) holds
dollar_found (t ∷ tokens) (suc i) d less none holds =
    let passed = passed_by (holds_dollar t.text.now) (plain_token t)
    (first_dollar (map plain_token (take i tokens))) none in
    ap (λ (c : Bool). cond c (Some (plain_token t)) (first_dollar (map plain_token tokens)))
    passed.0
    ∙ dollar_found tokens i d (omega (arith, less)) passed.1 holds

pub dollar_passed : (tokens : List PlainToken) (t : PlainToken) → first_dollar tokens ≡ None
    → holds_dollar t.text ≡ false → first_dollar (tokens ++ t ∷ []) ≡ None
dollar_passed [] t none lacks = ap (λ (c : Bool). cond c (Some t) None) lacks
dollar_passed (u ∷ tokens) t none lacks =
    let passed = passed_by (holds_dollar u.text) u (first_dollar tokens) none in
    ap (λ (c : Bool). cond c (Some u) (first_dollar (tokens ++ t ∷ []))) passed.0
    ∙ dollar_passed tokens t passed.1 lacks

-- by the index of a token
pub dollar_kept : (tokens : List Token) (i : ℕ) (d : Token) → i < length tokens
    → first_dollar (map plain_token (take i tokens)) ≡ None
    → holds_dollar (get_or tokens i d).text.now ≡ false
    → first_dollar (map plain_token (take (i + 1) tokens)) ≡ None
dollar_kept tokens i d less none lacks =
    ap (λ (ts : List Token). first_dollar (map plain_token ts)) (take_more tokens i d less)
    ∙ ap first_dollar (map-append plain_token (take i tokens) (get_or tokens i d ∷ []))
    ∙ dollar_passed (map plain_token (take i tokens)) (plain_token (get_or tokens i d)) none lacks

pub ruleset dollar_steps = (dollar_found, dollar_kept)

-- ---- how many bytes they have

bytes_of_more : (t : PlainToken) (tokens : List PlainToken)
    → sum_by length (texts_of (t ∷ tokens)) ≡ length t.text + sum_by length (texts_of tokens)
bytes_of_more t tokens = sum_by-cons length t.text (texts_of tokens)

smaller : (b : Bool) (xs ys : List PlainToken) (n : ℕ) → sum_by length (texts_of xs) ≤ n
    → sum_by length (texts_of ys) ≤ n → sum_by length (texts_of (cond b xs ys)) ≤ n
smaller true xs ys n small other = small
smaller false xs ys n small other = other

pub begun_room : (tokens : List PlainToken)
    → sum_by length (texts_of (behind_equals tokens)) ≤ sum_by length (texts_of tokens)
begun_room [] = omega arith
begun_room (t ∷ tokens) =
    smaller (spells t.text (codes "$=")) tokens (t ∷ tokens) (sum_by length (texts_of (t ∷ tokens)))
    (omega (arith, bytes_of_more t tokens)) (omega arith)

pub stopped_room : (tokens : List PlainToken)
    → sum_by length (texts_of (before_stop tokens)) ≤ sum_by length (texts_of tokens)
stopped_room [] = omega arith
stopped_room (t ∷ []) =
    smaller (spells t.text (codes "$.")) [] (t ∷ []) (sum_by length (texts_of (t ∷ [])))
    (omega (arith, bytes_of_more t [])) (omega arith)
stopped_room (t ∷ u ∷ tokens) =
    omega (
      arith,
      stopped_room (u ∷ tokens),
      bytes_of_more t (before_stop (u ∷ tokens)),
      bytes_of_more t (u ∷ tokens),
    )

-- ---- the whole text

pub tokens_told : (text : List ℕ) (tokens : List PlainToken)
    → tokens ≡ before_stop (begun_tokens text) → tokens ≡ proof_tokens text
unfolding proof_tokens
tokens_told text tokens is = is

pub end_told : (text : List ℕ) (end : ℕ) → end ≡ end_before (length text) (begun_tokens text)
    → end ≡ proof_end text
unfolding proof_end
end_told text end is = is

-- nothing is broken
pub faultless : (text : List ℕ) → first_broken (shown_in text) ≡ None
    → first_dollar (proof_tokens text) ≡ None → broken_in text ≡ None
unfolding broken_in
faultless text shown plain = λ i. fault_or_dollar (shown i) (plain i)

-- a rule of bytes or comments is broken
pub shown_broken : (text : List ℕ) (wrong : Wrong)
    → first_broken (shown_in text) ≡ Some (broken_at wrong) → broken_in text ≡ Some (broken_at wrong)
unfolding broken_in
shown_broken text wrong broken =
    ap (λ (o : Option (TextRule × PlainToken)). fault_or_dollar o
    (first_dollar (proof_tokens text))) broken

-- a token of the proof holds a `$`
pub dollar_broken : (text : List ℕ) (t : PlainToken) → first_broken (shown_in text) ≡ None
    → first_dollar (proof_tokens text) ≡ Some t → broken_in text ≡ Some (X9, t)
unfolding broken_in
dollar_broken text t shown holds = λ i. fault_or_dollar (shown i) (holds i)
