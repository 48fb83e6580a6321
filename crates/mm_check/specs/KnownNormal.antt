-- The reply to `normal --known`: the normal proof of a theorem as far as it is known, over the
-- statements before it (the Metamath book, sections 4.3 and 4.4.4, appendix B). What is told of a
-- proof that is incomplete or at fault is this project's own.
use Rattle.std.specs.Prelude.{◌≡◌, ◌⊎◌, ℕ, ◌+◌, List, [], ◌++◌, Bool, true, false}
use Rattle.mm_base.specs.Statement.{PlainStatement}
use Rattle.mm_frame.specs.Sentence.{Sentence, sentence_of}
use Rattle.mm_step.specs.declared.fault.ProofRule.{ProofRule}
use Rattle.mm_step.specs.declared.profile.Profile.TheVariants.{Lenient}
use Rattle.mm_step.specs.Moves.{Move, steps_in}
use Rattle.mm_proof.specs.CheckedPrefix.{checked_prefix}
use Rattle.mm_proof.specs.Tokens.{is_incomplete, SayMoves}
use Rattle.mm_proof.specs.UnderProfile.{IsProvedUnder, IsPrefixAllowedUnder}
use Rattle.mm_rules.specs.declared.ask.AskFault.TheVariants as ask
use Rattle.mm_rules.specs.declared.rule.AskRule.TheVariants.{L2}
use Rattle.mm_rules.specs.declared.rule.Rule.TheVariants as rules
use Rattle.mm_rules.specs.Verdict.{proof_of, sentences}
use Rattle.mm_verdict.specs.Reply.{IsAskReply, refusal_status}
use Rattle.mm_render.specs.Forms.{IsBeginningText, IsBeginningTooLong}
use Rattle.mm_facts.specs.Explained.{judged_tokens, IsTokensFault}

-- The moves are those that the tokens say, as far as they are known, before the step with a number,
-- from 1 on; none for step 0, the fault of which is one of all tokens.
abbrev pub AreMovesBefore : (before : List Sentence) → Sentence → (tokens : List (List ℕ))
    → (step : ℕ) → List (Move (List ℕ)) → Type 0
AreMovesBefore before s tokens step moves =
    ((step ≡ 0) × (moves ≡ []))
    ⊎ ((left : List (Move (List ℕ))) × SayMoves before s (judged_tokens tokens) (moves ++ left)
    × (step ≡ steps_in moves + 1))

-- The reply is the text of the normal proof that has these moves, or begins with them, with such a
-- status; or it says that the theorem with the label has none that is written.
abbrev pub IsBeginningReply : (unfinished : Bool) → (before : List Sentence)
    → List (Move (List ℕ)) → (label : List ℕ) → (ends : ℕ) → List ℕ → ℕ → Type 0
IsBeginningReply unfinished before moves label ends text status =
    (IsBeginningText unfinished before moves text × (status ≡ ends))
    ⊎ (IsBeginningTooLong before moves × IsAskReply (ask.Rule L2) label text status)

-- The proof is right, and the reply is all of it.
abbrev pub IsWholeNormal : (before : List Sentence) → Sentence → (tokens : List (List ℕ))
    → (label : List ℕ) → List ℕ → ℕ → Type 0
IsWholeNormal before s tokens label text status =
    (is_incomplete tokens ≡ false) × IsProvedUnder Lenient before s tokens
    × (moves : List (Move (List ℕ))) × SayMoves before s tokens moves
    × IsBeginningReply false before moves label 0 text status

-- It is incomplete, its checked prefix breaks no rule, and the reply is that prefix.
abbrev pub IsPrefixNormal : (before : List Sentence) → Sentence → (tokens : List (List ℕ))
    → (label : List ℕ) → List ℕ → ℕ → Type 0
IsPrefixNormal before s tokens label text status =
    (is_incomplete tokens ≡ true) × IsPrefixAllowedUnder Lenient before s tokens
    × (moves : List (Move (List ℕ))) × SayMoves before s (checked_prefix tokens) moves
    × IsBeginningReply true before moves label 3 text status

-- It, or what is known of it, is at fault, and the reply is what stands before the first fault.
abbrev pub IsFaultyNormal : (before : List Sentence) → Sentence → (tokens : List (List ℕ))
    → (label : List ℕ) → List ℕ → ℕ → Type 0
IsFaultyNormal before s tokens label text status =
    (rule : ProofRule) × (step : ℕ) × IsTokensFault Lenient before s tokens rule step
    × (moves : List (Move (List ℕ))) × AreMovesBefore before s tokens step moves
    × IsBeginningReply true before moves label (refusal_status (rules.Proof rule)) text status

-- the reply is the normal proof of the `$p` with the label, as far as it is known, where these are
-- the tokens of its proof
abbrev pub IsKnownNormal : (label : List ℕ) → (before : List Sentence) → Sentence
    → (tokens : List (List ℕ)) → List ℕ → ℕ → Type 0
IsKnownNormal label before s tokens text status =
    IsWholeNormal before s tokens label text status
    ⊎ (IsPrefixNormal before s tokens label text status
    ⊎ IsFaultyNormal before s tokens label text status)

-- the reply to the question for that
abbrev pub IsKnownNormalReply : (label : List ℕ) → (before : List PlainStatement)
    → PlainStatement → List ℕ → ℕ → Type 0
IsKnownNormalReply label before s text status =
    IsKnownNormal label (sentences before) (sentence_of s) (proof_of s) text status
