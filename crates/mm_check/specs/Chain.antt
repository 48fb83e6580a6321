-- The reply to the question why a theorem rests on an assertion, which is this project's own: a line
-- for each label of the first of the shortest chains of uses, from the theorem to the assertion; or
-- why there is none.
use Rattle.std.specs.Prelude.{◌≡◌, ◌⊎◌, ℕ, List, [], ◌∷◌, codes}
use Rattle.mm_base.specs.Statement.{PlainStatement}
use Rattle.mm_rules.specs.Answer.{labels_at}
use Rattle.mm_rules.specs.Verdict.{labels_of}
use Rattle.mm_verdict.specs.Reply.{IsAskReply, line_with, lines_of}
use Rattle.mm_axioms.specs.Chains.{IsChain, IsChainFault}
use Rattle.mm_axioms.specs.declared.chains.ChainFault.{ChainFault}
use Rattle.mm_axioms.specs.declared.chains.ChainFault.TheVariants.{Theorem, Assertion, Independent}
use Rattle.mm_axioms.specs.declared.chains.ChainFault.TheVariants.{Memory}

-- The text and the status where there is no chain: nothing can be asked of the theorem's label, or
-- of the assertion's; or the theorem doesn't rest on the assertion, which the code `A4` says of the
-- theorem.
abbrev pub IsChainFaultReply : ChainFault → (label other : List ℕ) → List ℕ → ℕ → Type 0
IsChainFaultReply (Theorem fault) label other text status = IsAskReply fault label text status
IsChainFaultReply (Assertion fault) label other text status = IsAskReply fault other text status
IsChainFaultReply Independent label other text status =
    (text ≡ line_with (codes "ask") (codes "A4" ∷ label ∷ [])) × (status ≡ 1)
IsChainFaultReply Memory label other text status = ⊥

-- the reply to the question why the theorem with the one label rests on the assertion with the other
abbrev pub IsChainReply : (label other : List ℕ) → List PlainStatement → List ℕ → ℕ → Type 0
IsChainReply label other statements text status =
    ((fault : ChainFault) × IsChainFault statements label other fault
    × IsChainFaultReply fault label other text status)
    ⊎ ((chain : List ℕ) × IsChain statements label other chain
    × (text ≡ lines_of (labels_at (labels_of statements) chain)) × (status ≡ 0))
