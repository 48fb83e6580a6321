-- The text so far is that of the steps so far, whatever steps the lines tell.
use Rattle.std.proofs.Common.{◌≡◌, List, take}
use Rattle.std.specs.List.{AllZip}
use Rattle.mm_listing.specs.Listing.{ListedStep, TellsStep}
use Rattle.mm_render.specs.Shown.{steps_text}
use Rattle.mm_render.proofs.listing_lines.text_of.Given as goal

abbrev pub invariant-loop-at : goal.invariant-loop-at
invariant-loop-at l =
    (steps : List ListedStep) → AllZip (TellsStep l.book.statements) l.lines steps → l.out.items ≡ steps_text 1 (take l.at steps)
