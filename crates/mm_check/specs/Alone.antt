-- One theorem alone, over the statements before it, whatever their proofs: what stands at its
-- label, what a text is as its proof, and what its own proof is (the Metamath book, sections 4.1.4,
-- 4.2, 4.3 and 4.4.4, appendix B). That a theorem may be asked for alone is this project's own.
use Rattle.std.specs.Prelude.{◌≡◌, ◌⊎◌, ℕ, ◌+◌, List, [], ◌++◌}
use Rattle.mm_base.specs.Token.{PlainToken}
use Rattle.mm_text.specs.Files.{PlainFile}
use Rattle.mm_code.specs.Words.{texts_of}
use Rattle.mm_frame.specs.Sentence.{Sentence}
use Rattle.mm_step.specs.Moves.{Move, steps_in}
use Rattle.mm_proof.specs.Tokens.{SayMoves}
use Rattle.mm_verdict.specs.declared.question.Telling.{Telling}
use Rattle.mm_facts.specs.Explained.{judged_tokens}
use Rattle.mm_check.specs.Told.{IsTextOfMoves}

-- ---- the steps of a proof

-- The text tells the steps that the tokens say, as far as they are known, before the step with a
-- number, from 1 on; nothing for step 0, the fault of which is one of all tokens.
abbrev pub AreStepsBefore : Telling → List PlainFile → (before : List Sentence) → Sentence
    → (tokens : List PlainToken) → (step : ℕ) → (text : List ℕ) → Type 0
AreStepsBefore telling files before s tokens step text =
    ((step ≡ 0) × (text ≡ []))
    ⊎ ((earlier : List (Move (List ℕ))) × (left : List (Move (List ℕ)))
    × SayMoves before s (judged_tokens (texts_of tokens)) (earlier ++ left)
    × (step ≡ steps_in earlier + 1) × IsTextOfMoves telling files before tokens earlier text)
