use Rattle.std.proofs.Common.{◌≡◌, List, ◌++◌, drop, map}
use Rattle.mm_code.specs.Layout.{texts}
use Rattle.mm_code.specs.SmallLayout.{LinePiece, token}
use Rattle.mm_code.specs.Mirror.SmallLines.{small_rest}
use Rattle.mm_code.proofs.small_layout.add_tokens.Given as goal

-- the tokens that are left follow the text so far
abbrev pub invariant-loop-token : goal.invariant-loop-token
invariant-loop-token l = (more : List LinePiece) →
    l.text.items
    ++ small_rest l.indent l.left (map token (texts (drop l.token-index l.tokens)) ++ more)
    ≡ l.fn.text.items ++ small_rest l.indent l.room (map token (texts l.tokens) ++ more)
