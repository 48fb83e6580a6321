-- Fully shared proofs: compressed proofs that make each subtree of two or more nodes once.
-- Compressed proofs are those of the Metamath book, section 4.4.3 and appendix B; which of them are
-- fully shared is this project's own.
use Rattle.std.specs.Prelude.{ℕ, List}
use Rattle.std.specs.Prelude.{count_by, Bool, true, false}
use Rattle.mm_code.specs.declared.code.Code.{Code}
use Rattle.mm_code.specs.declared.code.Code.TheVariants.{Number, Tag}

abbrev pub is_number : Code → Bool
is_number (Number number) = true
is_number Tag = false

-- how many steps the codes have: a tag is none
abbrev pub steps_of : List Code → ℕ
steps_of codes = count_by is_number codes
