-- Laws of what is asked of one theorem alone.
use Rattle.std.specs.Prelude.{◌≡◌, ◌⊎◌, ℕ, List, [], codes}
use Rattle.mm_text.specs.Files.{PlainFile}
use Rattle.mm_base.specs.Statement.{PlainStatement}
use Rattle.mm_frame.specs.Sentence.{sentence_of}
use Rattle.mm_verdict.specs.Alone.{HasProofTokens, IsTheoremAt}
use Rattle.mm_verdict.specs.Reply.{line_with}
use Rattle.mm_check.specs.Reply.{IsKnownFault, IsCheckedPrefix, IsKnownReply}
use Rattle.mm_explain.specs.Reply.{IsTriedFault, IsTriedPrefix, IsTryReply}
use Rattle.mm_verdict.specs.declared.question.Telling.{Telling}
use Rattle.mm_check.specs.Told.{TellsMoves}
use Rattle.mm_rules.specs.ProofText.{proof_words}
use Rattle.mm_rules.specs.Verdict.{proof_of, sentences}

-- What is told of a text and what is told of the theorem's own proof agree: both are proofs; both
-- are incomplete, and break no rule as far as they are known; or both have this first fault, at
-- this step.
abbrev pub TellAlike : Telling → List PlainFile → (before : List PlainStatement) → PlainStatement
    → (proof : PlainFile) → (tried : List ℕ) → (tried_status : ℕ) → (known : List ℕ)
    → (known_status : ℕ) → Type 0
TellAlike telling files before s proof tried tried_status known known_status =
    ((tried ≡ line_with (codes "proof") []) × (tried_status ≡ 0)
    × TellsMoves telling files (sentences before) (sentence_of s) s.proof (proof_of s) known
    × (known_status ≡ 0))
    ⊎ ((IsTriedPrefix proof (sentences before) (sentence_of s) tried tried_status
    × IsCheckedPrefix telling files (sentences before) (sentence_of s) s.proof known known_status)
    ⊎ ((t : IsTriedFault proof (sentences before) (sentence_of s) tried tried_status)
    × (k : IsKnownFault telling files before s known known_status)
    × (t.rule ≡ k.rule) × (t.step ≡ k.step)))

-- They do where the text has the tokens of the theorem's own proof.
abbrev pub OwnProofIsTriedAlike : Type 0
OwnProofIsTriedAlike =
    (telling : Telling) (files : List PlainFile) (label : List ℕ) (before : List PlainStatement)
    (s : PlainStatement)
    (proof : PlainFile) (tried : List ℕ) (tried_status : ℕ) (known : List ℕ) (known_status : ℕ)
    → IsTheoremAt files label before s → HasProofTokens proof.bytes
    → proof_words proof.bytes ≡ proof_of s
    → IsTryReply proof (sentences before) (sentence_of s) tried tried_status
    → IsKnownReply telling files before s known known_status
    → TellAlike telling files before s proof tried tried_status known known_status
