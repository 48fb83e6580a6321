-- A number is that of one index.
use Rattle.std.proofs.Common.{◌≡◌, ℕ, List}
use Rattle.mm_frame.specs.Sentence.{Sentence}
use Rattle.mm_frame.specs.Numbers.{IsNumbered}
use Rattle.mm_frame.proofs.Names.LabelNumbers.{numbered_unique}

-- a number is that of one index
pub one_index : (statements : List Sentence) (id p q : ℕ) (s t : Sentence) → IsNumbered statements id p s → IsNumbered statements id q t → p ≡ q
one_index statements id p q s t n m =
    (numbered_unique statements id p q s t n m).0
