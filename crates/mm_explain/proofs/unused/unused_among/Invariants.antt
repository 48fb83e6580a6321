-- Those of the labels so far are kept that no move is a step by.
use Rattle.std.proofs.Common.{◌≡◌, List, ℕ, take}
use Rattle.mm_code.specs.Layout.{texts}
use Rattle.mm_step.specs.Moves.{Move}
use Rattle.mm_step.specs.Plain.{token_texts}
use Rattle.mm_step.specs.Steps.{AreNumberedMoves}
use Rattle.mm_explain.specs.Unused.{unused_in}
use Rattle.mm_explain.proofs.unused.unused_among.Given as goal

abbrev pub invariant-loop-label : goal.invariant-loop-label
invariant-loop-label l =
    (moves : List (Move (List ℕ))) → AreNumberedMoves l.book.statements l.steps.moves moves
    → texts l.unused.items ≡ unused_in moves (token_texts (take l.label-index l.listed))
