-- What stands in one text outside comments: its tokens, up to the first fault (the Metamath book,
-- sections 4.1.1, 4.1.2 and 4.4.1).
use Rattle.std.specs.Prelude.{ℕ, List, [], ◌∷◌, Option, Some, None}
use Rattle.mm_text.specs.declared.comments.Wrong.{Wrong}
use Rattle.mm_text.specs.declared.fault.TextRule.{TextRule}
use Rattle.mm_base.specs.Token.{PlainToken, plain_token, tokens_from}
use Rattle.mm_text.specs.Items.{Shown, Clear, Broken, without_comments}

-- what stands in a text outside comments
abbrev pub shown_in : List ℕ → List Shown
shown_in text = without_comments None (tokens_from 0 0 text)

-- the tokens, up to the first fault
abbrev pub clear_tokens : List Shown → List PlainToken
clear_tokens [] = []
clear_tokens (Clear t ∷ shown) = t ∷ clear_tokens shown
clear_tokens (Broken rule t ∷ shown) = []

-- the first fault: the rule, and the token at which it is broken
abbrev pub first_broken : List Shown → Option (TextRule × PlainToken)
first_broken [] = None
first_broken (Clear t ∷ shown) = first_broken shown
first_broken (Broken rule t ∷ shown) = Some (rule, t)

-- the rule and the token of a fault that the code found
abbrev pub broken_at : Wrong → TextRule × PlainToken
broken_at wrong = (wrong.rule, plain_token wrong.token)
