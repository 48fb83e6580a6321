-- Tokens of a file (the Metamath book, sections 4.1.1 and 4.1.2).
use Rattle.std.specs.Prelude.{◌≡◌, ℕ, ◌+◌, ◌==◌, ◌||◌, ◌&&◌, nat_le, List, [], ◌∷◌}
use Rattle.std.specs.Prelude.{Bool, true, false, if◌then◌else◌}
use Rattle.std.specs.List.{list_any, list_all}
use Rattle.mm_base.specs.declared.token.Token.{Token}

-- a token without where it lies in memory: its bytes, the number of its file, and its position
-- there
pub record PlainToken : Type 0 where
  pub text : List ℕ
  pub file : ℕ
  pub at : ℕ

abbrev pub plain_token : Token → PlainToken
plain_token t = record { text = t.text.now; file = t.file; at = t.at }

-- white space: space, tab, line feed, form feed, carriage return
abbrev pub is_space : ℕ → Bool
is_space b = b == 32 || b == 9 || b == 10 || b == 12 || b == 13

-- the bytes that a token may hold: the printable ones of ASCII, 0x21 to 0x7E
abbrev pub is_printable : ℕ → Bool
is_printable b = nat_le 33 b && nat_le b 126

-- the bytes that a label may hold: letters, digits, `-`, `_` and `.`
abbrev pub is_label_byte : ℕ → Bool
is_label_byte b =
    (nat_le 65 b && nat_le b 90) || (nat_le 97 b && nat_le b 122) || (nat_le 48 b && nat_le b 57)
    || b == 45 || b == 95 || b == 46

-- a label has at least one byte, and none but these
abbrev pub is_label : List ℕ → Bool
is_label [] = false
is_label (b ∷ bytes) = list_all is_label_byte (b ∷ bytes)

abbrev pub IsLabel : List ℕ → Type 0
IsLabel text = is_label text ≡ true

-- a math symbol, and a token of a proof, holds no `$`
abbrev pub HoldsNoDollar : List ℕ → Type 0
HoldsNoDollar text = list_any (λ b. b == 36) text ≡ false

-- A byte at a position goes onto the front of the token that begins right after it, or is a token
-- of its own.
abbrev pub with_byte : ℕ → ℕ → ℕ → List PlainToken → List PlainToken
with_byte file at b [] = record { text = b ∷ []; file = file; at = at } ∷ []
with_byte file at b (t ∷ tokens) =
    if t.at == at + 1
    then record { text = b ∷ t.text; file = file; at = at } ∷ tokens
    else record { text = b ∷ []; file = file; at = at } ∷ t ∷ tokens

-- The tokens of the bytes of a file that begin at a position: its longest runs of bytes that aren't
-- white space.
unfoldable pub tokens_from : ℕ → ℕ → List ℕ → List PlainToken
tokens_from file at [] = []
tokens_from file at (b ∷ bytes) =
    if is_space b then tokens_from file (at + 1) bytes
    else with_byte file at b (tokens_from file (at + 1) bytes)
