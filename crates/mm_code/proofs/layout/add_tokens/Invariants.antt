use Rattle.std.proofs.Common.{◌≡◌, ℕ, List, ◌++◌, drop}
use Rattle.mm_code.specs.Layout.{texts}
use Rattle.mm_code.specs.Mirror.Lines.{rest_of}
use Rattle.mm_code.proofs.layout.add_tokens.Given as goal

-- the tokens that are left follow the text so far
abbrev pub invariant-loop-token : goal.invariant-loop-token
invariant-loop-token l = (more : List (List ℕ)) → l.text.items ++ rest_of l.left (texts (drop l.token-index l.tokens) ++ more) ≡ l.fn.text.items ++ rest_of l.room (texts l.tokens ++ more)
