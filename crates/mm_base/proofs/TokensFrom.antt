-- How the tokens of a file come from its bytes: white space is skipped, and a run of other bytes is
-- one token.
use Rattle.std.proofs.Common.{◌≡◌, ℕ, ◌+◌, ◌≤◌, ◌==◌, List, [], ◌∷◌, ◌++◌, length}
use Rattle.std.proofs.Common.{true, false, refl, ap, ◌∙◌, subst, arith, eq-eqb}
use Rattle.std.proofs.Common.{cond}
use Rattle.std.proofs.Common.{ne_eqb}
use Rattle.std.specs.List.{AllByRecursion}
use Rattle.mm_base.specs.Token.{PlainToken, is_space, with_byte, tokens_from}
use Rattle.mm_base.proofs.TokensByByte.{tokens_by}

-- ==== how the tokens of a file come from its bytes: white space is skipped, and a run of other
-- bytes is one token

-- a space in front is skipped
pub tokens_from-space : (file at b : ℕ) (bytes : List ℕ) → is_space b ≡ true → tokens_from file at (b ∷ bytes) ≡ tokens_from file (at + 1) bytes
unfolding tokens_from
tokens_from-space file at b bytes space = simp space

-- another byte goes onto the front of the next token, or is one
pub tokens_from-byte : (file at b : ℕ) (bytes : List ℕ) → is_space b ≡ false → tokens_from file at (b ∷ bytes) ≡ with_byte file at b (tokens_from file (at + 1) bytes)
unfolding tokens_from
tokens_from-byte file at b bytes other = simp other

pub tokens_from-nil : (file at : ℕ) → tokens_from file at [] ≡ []
unfolding tokens_from
tokens_from-nil file at = refl

-- the first token, if there is one, begins at or after a position
abbrev pub BeginFrom : ℕ → List PlainToken → Type 0
BeginFrom at [] = Unit {0}
BeginFrom at (t ∷ tokens) = at ≤ t.at

-- what begins after a position begins at or after it
pub begin_earlier : (at : ℕ) (tokens : List PlainToken) → BeginFrom (at + 1) tokens → BeginFrom at tokens
begin_earlier at [] h = tt
begin_earlier at (t ∷ tokens) h = omega arith

pub tokens_from_begin : (file at : ℕ) (bytes : List ℕ) → BeginFrom at (tokens_from file at bytes)
tokens_from_begin file at bytes =
    tokens_by file (λ n _ tokens. BeginFrom n tokens) (λ n. tt)
    (λ n b bs tokens inner. begin_earlier n tokens inner) (λ n b bs tokens inner. omega arith)
    (λ n b bs t tokens e inner. omega arith) at bytes

-- bytes none of which is white space
abbrev pub AreInk : List ℕ → Type 0
AreInk bytes = AllByRecursion (λ b. is_space b ≡ false) bytes

-- what comes after a token: white space, or nothing
abbrev pub BeginsWithSpace : List ℕ → Type 0
BeginsWithSpace [] = Unit {0}
BeginsWithSpace (b ∷ bytes) = is_space b ≡ true

-- a byte before tokens that begin later is a token of its own
pub with_byte_apart : (file at b : ℕ) (tokens : List PlainToken) → BeginFrom (at + 2) tokens → with_byte file at b tokens ≡ record { text = b ∷ []; file = file; at = at } ∷ tokens
with_byte_apart file at b [] h = refl
with_byte_apart file at b (t ∷ tokens) h =
    let apart : (t.at == at + 1) ≡ false = ne_eqb t.at (at + 1) (λ e. omega (arith, e)) in
    simp apart

-- after the last byte of a token
last_byte : (file at b : ℕ) (rest : List ℕ) → BeginsWithSpace rest → with_byte file at b (tokens_from file (at + 1) rest) ≡ record { text = b ∷ []; file = file; at = at } ∷ tokens_from file (at + 1) rest
last_byte file at b [] h = rw tokens_from-nil refl
last_byte file at b (s ∷ rest) h =
    rw (tokens_from-space file (at + 1) s rest h)
    (with_byte_apart file at b _ (subst (λ n. BeginFrom n (tokens_from file (at + 1 + 1) rest)) (omega arith) (tokens_from_begin file (at + 1 + 1) rest)))

-- a byte onto the front of the token after it
pub with_byte_joined : (file at b : ℕ) (text : List ℕ) (tokens : List PlainToken) → with_byte file at b (record { text = text; file = file; at = at + 1 } ∷ tokens) ≡ record { text = b ∷ text; file = file; at = at } ∷ tokens
with_byte_joined file at b text tokens =
    let same : (at + 1 == at + 1) ≡ true = eq-eqb _ _ refl in
    simp same

-- a longest run of bytes that aren't white space is one token
pub tokens_from-run : (file at b : ℕ) (run rest : List ℕ) → AreInk (b ∷ run) → BeginsWithSpace rest → tokens_from file at (b ∷ run ++ rest) ≡ record { text = b ∷ run; file = file; at = at } ∷ tokens_from file (at + length (b ∷ run)) rest
tokens_from-run file at b [] rest ink after =
    tokens_from-byte file at b rest ink.0 ∙ last_byte file at b rest after
tokens_from-run file at b (c ∷ run) rest ink after =
    let further : at + 1 + length (c ∷ run) ≡ at + length (b ∷ c ∷ run) = omega arith in
    tokens_from-byte file at b (c ∷ run ++ rest) ink.0
    ∙ ap (with_byte file at b) (tokens_from-run file (at + 1) c run rest ink.1 after)
    ∙ with_byte_joined file at b (c ∷ run) _
    ∙ ap (λ n. record { text = b ∷ c ∷ run; file = file; at = at } ∷ tokens_from file n rest) further

-- ---- tokens told from their begin on

-- the bytes up to the next white space
abbrev pub run : List ℕ → List ℕ
run [] = []
run (b ∷ bytes) = cond (is_space b) [] (b ∷ run bytes)
