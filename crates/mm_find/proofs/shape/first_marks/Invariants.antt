-- There is a mark more than symbols so far.
use Rattle.std.proofs.Common.{◌≡◌, ◌∷◌, take, map, true, false}
use Rattle.mm_find.proofs.shape.first_marks.Given as goal

abbrev pub invariant-loop-symbol : goal.invariant-loop-symbol
invariant-loop-symbol l =
    l.marks.items ≡ true ∷ map (λ symbol. false) (take l._symbol-index l.symbols)
