-- The text so far is that of the steps so far, whatever steps the lines tell.
use Rattle.std.proofs.Common.{◌≡◌, List, take, get_or, false}
use Rattle.mm_listing.specs.Listing.{ListedStep, TellSteps}
use Rattle.mm_listing.specs.Uses.{rows_of}
use Rattle.mm_render.specs.ShownUses.{used_steps_text}
use Rattle.mm_render.proofs.uses_lines.text_of.Given as goal

abbrev pub invariant-loop-at : goal.invariant-loop-at
invariant-loop-at l =
    (steps : List ListedStep)
    → TellSteps l.book.statements (λ index. get_or l.told index false) l.lines steps
    → l.out.items ≡ used_steps_text 1 (take l.at steps) (take l.at (rows_of l.uses))
    (take l.at l.told)
