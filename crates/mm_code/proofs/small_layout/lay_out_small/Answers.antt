-- The pieces are put in their order, and each step says what is left to put.
use Rattle.std.proofs.Common.{[], ◌∷◌, ◌++◌, map, ◌∙◌}
use Rattle.mm_code.specs.Layout.{texts}
use Rattle.mm_code.specs.SmallLayout.{token, letter_pieces, shown}
use Rattle.mm_code.proofs.SmallLines.{small_laid_out, pieces_joined}
use Rattle.mm_code.proofs.small_layout.lay_out_small.Goals as goal

pub returns : goal.returns
returns c =
    let indent = c.args.indent in
    let labels = texts c.args.labels.now in
    let letters = c.args.letters.now in
    let closing = token (41 ∷ []) ∷ (letter_pieces letters ++ []) in
    let put = c.in_ok-add_before_end.ensures ∙ c.in_ok-lettered.ensures []
    ∙ c.in_ok-closed.ensures (letter_pieces letters ++ []) ∙ c.in_ok-listed.ensures closing
    ∙ c.in_ok-opened.ensures (map token (shown labels) ++ closing) in
    small_laid_out indent labels letters c.add_before_end.new.text.items
    (rw (c.in_ok-text.ensures.empty, pieces_joined labels letters) at put)
