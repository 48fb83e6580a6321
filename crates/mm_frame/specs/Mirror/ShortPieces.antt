-- Pieces as they are stored. This file mirrors the code, and is cited by no contract.
use Rattle.std.specs.Prelude.{◌≡◌, ℕ, ◌-◌, ◌≤◌, Bool, if◌then◌else◌, nat_lt}
use Rattle.std.proofs.Common.{inl, inr, ap, ◌∙◌, arith}
use Rattle.std.proofs.Math.Dec.{ltb}
use Rattle.std.proofs.lemmas.Bool.{cases_Bool}
use Rattle.mm_frame.specs.declared.number.Sym.{Sym}
use Rattle.mm_frame.specs.declared.piece.Piece.{Piece}
use Rattle.mm_frame.specs.declared.piece.Piece.TheVariants.{Symbol, Value}
use Rattle.mm_frame.specs.declared.piece.ShortPiece.TheInside.{Inside}

-- the piece that is stored as a number
abbrev pub piece_by : ℕ → Piece
piece_by n = if nat_lt n 2147483648 then Symbol (record { 0 = n }) else Value (4294967295 - n)

-- the number as which a piece is stored
abbrev pub stored : Piece → ℕ
stored (Symbol symbol) = symbol.0
stored (Value index) = 4294967295 - index

-- what is stored gives the number back
again : (n : ℕ) → n ≤ 4294967295 → stored (piece_by n) ≡ n
again n le = elim (cases_Bool (ltb n 2147483648)) [
  | inl is ↦ ap (λ (b : Bool). let s : Sym = record { 0 = n } in stored (if b then Symbol s else Value (4294967295 - n))) is
  | inr is_not ↦
      let back : 4294967295 - (4294967295 - n) ≡ n = omega arith in
      ap (λ (b : Bool). let s : Sym = record { 0 = n } in stored (if b then Symbol s else Value (4294967295 - n))) is_not ∙ back
]

pub stored_by : (p : Inside) → p.0 ≤ 4294967295 → ◌≡◌ {A = Inside} (record { 0 = stored (piece_by p.0) }) p
stored_by p le = ap (λ (n : ℕ). let q : Inside = record { 0 = n } in q) (again p.0 le)
