-- The symbols of an expression as words, one after the other.
use Rattle.std.proofs.Common.{◌≡◌, ℕ, ◌+◌, ◌<◌, List, ◌++◌, take, length}
use Rattle.std.proofs.Common.{get_or, slice_get, codes, Some}
use Rattle.std.proofs.Common.{append-nil}
use Rattle.std.proofs.lemmas.List.{take_more, map-append, take_all}
use Rattle.std.proofs.lemmas.Grind.{flat_map-append}
use Rattle.mm_frame.specs.declared.number.Sym.{Sym}
use Rattle.mm_step.specs.Stores.{numbers_in}
use Rattle.mm_rules.specs.Answer.{labels_at}
use Rattle.mm_rules.specs.Shown.{symbols_text}

-- ---- symbols

-- one symbol more
pub one_more_symbol : (names : List (List ℕ)) (symbols : List Sym) (k : ℕ) (d : Sym) (name : List ℕ) → k < length symbols → slice_get names (get_or symbols k d).0 ≡ Some name
    → symbols_text (labels_at names (numbers_in (take (k + 1) symbols))) ≡ symbols_text (labels_at names (numbers_in (take k symbols))) ++ (codes " " ++ name)
one_more_symbol names symbols k d name less is =
    rw (take_more symbols k d less) (simp (map-append, flat_map-append, is, append-nil))

pub ruleset symbol_steps = (take_all, one_more_symbol)
