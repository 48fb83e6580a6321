-- Entries of a flat store: ranges of its buffer. This mirrors the code.
use Rattle.std.specs.Prelude.{◌≡◌, ℕ, ◌≤◌, List, map, slice_get, slice_range, Some}
use Rattle.mm_frame.specs.declared.number.Sym.{Sym}
use Rattle.mm_step.specs.declared.entry.Entry.{Entry}
use Rattle.mm_step.specs.Stores.{numbers_in}

-- the expressions that the entries name
abbrev pub parts_of : List Sym → List Entry → List (List ℕ)
parts_of symbols entries = map (λ e. numbers_in (slice_range symbols e.start e.end)) entries

-- the entry is a range of what stands before an index
pub record IsPart (index : ℕ) (e : Entry) : Type 0 where
  pub order : e.start ≤ e.end
  pub within : e.end ≤ index

-- each of the entries is
abbrev pub AreParts : ℕ → List Entry → Type 0
AreParts index entries = (i : ℕ) (e : Entry) → slice_get entries i ≡ Some e → IsPart index e
