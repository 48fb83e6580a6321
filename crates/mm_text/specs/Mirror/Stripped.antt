-- Comments without what they say. This file mirrors the code, and is cited by private contracts
-- alone.
use Rattle.std.specs.Prelude.{◌≡◌, ℕ, ◌+◌, ◌≤◌, ◌==◌, List, [], ◌∷◌, ◌++◌, length, true}
use Rattle.std.specs.Prelude.{if◌then◌else◌, slice_index, filter, codes, Bool, nat_le, ◌&&◌, not}
use Rattle.std.specs.Prelude.{zero, suc}
use Rattle.std.specs.List.{list_all}
use Rattle.mm_text.specs.declared.stripped.State.{State}
use Rattle.mm_text.specs.declared.stripped.State.TheVariants.{Outside, Blank, Dollar, Begun}
use Rattle.mm_text.specs.declared.stripped.State.TheVariants.{Inside, Marked}
use Rattle.mm_base.specs.Token.{is_space}
use Rattle.mm_text.specs.Alike.{shows}
use Rattle.mm_text.specs.Mirror.Position.{is_quiet}

-- whatever comes behind them, both show the same
abbrev pub ShowSame : List ℕ → List ℕ → Type 0
ShowSame bytes others =
    (file : ℕ) (rest : List ℕ) → shows file (bytes ++ rest) ≡ shows file (others ++ rest)

-- no token reaches over the end: there is nothing, or the last byte is white space
abbrev pub IsBoundary : List ℕ → Type 0
IsBoundary bytes =
    (k : ℕ) → k + 1 ≡ length bytes → is_space (slice_index bytes k) ≡ true

-- a `$(`, and white space alone behind it
pub record IsOpen (bytes : List ℕ) : Type 0 where
  pub prefix : List ℕ
  pub behind : List ℕ
  pub whole : bytes ≡ prefix ++ codes "$(" ++ behind
  pub boundary : IsBoundary prefix
  pub some : 1 ≤ length behind
  pub spaces : list_all is_space behind ≡ true

-- the byte, where it is one of a token
abbrev pub ink : ℕ → List ℕ
ink b = if is_space b then [] else b ∷ []

-- a printable byte or a space, and no `$`
abbrev pub is_spoken : ℕ → Bool
is_spoken b = nat_le 32 b && nat_le b 126 && not (b == 36)

-- the byte before a position so far behind another one, or the one that was last there
abbrev pub last_before : List ℕ → ℕ → ℕ → ℕ → ℕ
last_before piece at last zero = last
last_before piece at last (suc n) = slice_index piece (at + n)

-- the line feeds
abbrev pub feeds : List ℕ → List ℕ
feeds bytes = filter (λ b. b == 10) bytes

-- where a file that was read so far ends, by what was kept of it
abbrev pub IsAt : List ℕ → State → Type 0
IsAt kept Outside = Unit {0}
IsAt kept Blank = IsBoundary kept
IsAt kept Dollar = (prefix : List ℕ) × (kept ≡ prefix ++ 36 ∷ []) × IsBoundary prefix
IsAt kept Begun = (prefix : List ℕ) × (kept ≡ prefix ++ codes "$(") × IsBoundary prefix
IsAt kept (Inside last) = IsOpen kept × (is_quiet last ≡ true)
IsAt kept (Marked last) = IsOpen kept × (is_quiet last ≡ true)

-- what was held back
abbrev pub held : State → List ℕ
held (Inside last) = ink last
held (Marked last) = ink last ++ 36 ∷ []
held state = []

-- What was kept of these bytes, with what is held back, shows what they show, whatever comes next,
-- and is no longer.
pub record IsStripped (bytes kept : List ℕ) (state : State) : Type 0 where
  pub same : ShowSame bytes (kept ++ held state)
  pub at : IsAt kept state
  pub short : length (kept ++ held state) ≤ length bytes
