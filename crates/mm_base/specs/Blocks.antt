-- Blocks of statements (the Metamath book, section 4.2.8).
use Rattle.std.specs.Prelude.{◌≡◌, ℕ, ◌≤◌, List, ◌∷◌, ◌++◌, take, count_by, Bool, true, false}
use Rattle.mm_base.specs.declared.statement.Kind.{Kind}
use Rattle.mm_base.specs.declared.statement.Kind.TheVariants.{Opening, Closing}
use Rattle.mm_base.specs.Statement.{PlainStatement}

abbrev pub is_opening : Kind → Bool
is_opening Opening = true
is_opening kind = false

abbrev pub is_closing : Kind → Bool
is_closing Closing = true
is_closing kind = false

-- how many `${`, and how many `$}`
abbrev pub openings : List PlainStatement → ℕ
openings statements = count_by (λ s. is_opening s.kind) statements

abbrev pub closings : List PlainStatement → ℕ
closings statements = count_by (λ s. is_closing s.kind) statements

-- no `$}` lacks its `${`: no prefix of the statements has more `$}` than `${`
abbrev pub AreBalanced : List PlainStatement → Type 0
AreBalanced statements = (n : ℕ) → closings (take n statements) ≤ openings (take n statements)

-- each block that these statements open is closed by them
abbrev pub AreClosed : List PlainStatement → Type 0
AreClosed statements = openings statements ≡ closings statements

-- The innermost block that is open after these statements: the one that is opened after so many of
-- them, and since whose `${` each block is closed.
pub record IsInnermost (statements before : List PlainStatement)
    (opening : PlainStatement) : Type 0 where
  pub within : List PlainStatement
  pub whole : statements ≡ before ++ opening ∷ within
  pub opened : opening.kind ≡ Opening
  pub balanced : AreBalanced within
  pub closed : AreClosed within
