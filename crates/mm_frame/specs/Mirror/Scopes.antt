-- How blocks by numbers tell what is active at each index. The whole database counts as block 0,
-- which is never closed; each `${` begins the next number's block. This file mirrors the code, and is
-- cited by private contracts alone.
use Rattle.std.specs.Prelude.{◌≡◌, ℕ, suc, ◌+◌, ◌<◌, ◌≤◌, List, length, take, drop, slice_get, Some}
use Rattle.std.specs.Prelude.{◌⊎◌}
use Rattle.mm_base.specs.declared.statement.Kind.TheVariants.{Opening}
use Rattle.mm_frame.specs.Sentence.{Sentence}
use Rattle.mm_frame.specs.Active.{IsOpen, Holds, open_marks, close_marks}

-- a block whose inside begins at the index is open: no prefix of the statements from there on has
-- more `$}` than `${`
abbrev pub IsUnclosed : List Sentence → ℕ → Type 0
IsUnclosed statements start =
    (n : ℕ) → close_marks (take n (drop start statements)) ≤ open_marks
    (take n (drop start statements))

-- the inside of a block begins there, right after its `${`
pub record IsBegun (statements : List Sentence) (start : ℕ) : Type 0 where
  pub index : ℕ
  pub opening : Sentence
  pub next : start ≡ suc index
  pub there : slice_get statements index ≡ Some opening
  pub opened : opening.kind ≡ Opening

-- the block that begins there ends with the `$}` at the index
pub record IsEnd (statements : List Sentence) (start index : ℕ) : Type 0 where
  pub within : index < length statements
  pub before : IsUnclosed (take index statements) start
  pub after : ¬ (IsUnclosed (take (suc index) statements) start)

-- the block stands at the k-th index of the open blocks, the outermost first: it is open, and holds
-- the blocks above it
pub record IsOnStack (statements : List Sentence) (starts open_blocks : List ℕ)
    (k block : ℕ) : Type 0 where
  pub start : ℕ
  pub there : slice_get starts block ≡ Some start
  pub unclosed : IsUnclosed statements start
  pub above : open_marks (drop start statements) + suc k
      ≡ close_marks (drop start statements) + length open_blocks

-- the block directly holds the statement at the index: no block that holds the statement begins
-- later
pub record DirectlyHolds (statements : List Sentence) (starts : List ℕ)
    (block index : ℕ) : Type 0 where
  pub start : ℕ
  pub there : slice_get starts block ≡ Some start
  pub before : start ≤ index
  pub unclosed : IsUnclosed (take (suc index) statements) start
  pub nearest : (outer : ℕ) → Holds statements outer index → outer < start

-- The blocks of these statements by number: the number of the block that directly holds each
-- statement; each block's end, the index of its `$}` or `never`; and the open blocks, the outermost
-- first.
pub record AreScopes (never : ℕ) (statements : List Sentence)
    (blocks ends open_blocks : List ℕ) : Type 0 where
  -- where the inside of each block begins
  pub starts : List ℕ
  pub held : length blocks ≡ length statements
  pub sized : length ends ≡ length starts
  pub outermost : slice_get starts 0 ≡ Some 0
  pub bottom : slice_get open_blocks 0 ≡ Some 0
  pub rising : (a b x y : ℕ) → slice_get starts a ≡ Some x → slice_get starts b ≡ Some y → a < b
      → x < y
  pub begun : (b x : ℕ) → slice_get starts (suc b) ≡ Some x → IsBegun statements x
  pub stacked : (j k a b : ℕ) → slice_get open_blocks j ≡ Some a → slice_get open_blocks k ≡ Some b
      → j < k → a < b
  pub on_stack : (k b : ℕ) → slice_get open_blocks k ≡ Some b
      → IsOnStack statements starts open_blocks k b
  pub complete : (index : ℕ) → IsOpen statements index
      → (k : ℕ) × (b : ℕ) × (slice_get open_blocks k ≡ Some b)
      × (slice_get starts b ≡ Some (suc index))
  pub ended : (b x c : ℕ) → slice_get starts b ≡ Some x → slice_get ends b ≡ Some c
      → ((c ≡ never) × (k : ℕ) × (slice_get open_blocks k ≡ Some b)) ⊎ IsEnd statements x c
  pub holders : (i b : ℕ) → slice_get blocks i ≡ Some b → DirectlyHolds statements starts b i
