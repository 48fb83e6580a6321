-- The steps are those of the codes that the letters say.
use Rattle.std.proofs.Common.{◌-◌, List, ℕ, length, take, drop, ◌∷◌, subst, sym}
use Rattle.std.proofs.lemmas.Result.{IfOk-weaker}
use Rattle.mm_base.specs.declared.token.Token.{Token}
use Rattle.mm_step.specs.Plain.{token_texts}
use Rattle.mm_proof.specs.Tokens.{SayMoves, opening_token}
use Rattle.mm_proof.proofs.ProofTokens.ProofCodes.{letters_spelled}
use Rattle.mm_places.specs.StepLetters.{AreStepLetters}
use Rattle.mm_places.proofs.ProofPlaces.StepLetters.{code_letters, endless_moves, said_codes}
use Rattle.mm_places.proofs.ProofPlaces.WholePlaces.{after_first}
use Rattle.mm_places.proofs.letters.code_steps.Goals as goal

pub unreachable-requires : goal.unreachable-requires
unreachable-requires c =
    let tokens : List Token = c.args.tokens.now in
    let rest : List Token = take (length tokens - 1) (drop 1 tokens) in
    let (before, s, moves, says) = c.requires.said in
    endless_moves (token_texts rest) c.in_default.ensures before s moves
    (subst (λ (ts : List (List ℕ)). SayMoves before s ts moves) (after_first tokens c.requires.begun)
    says)

pub codes_of-requires : goal.codes_of-requires
codes_of-requires c =
    let tokens : List Token = c.args.tokens.now in
    let rest : List Token = take (length tokens - 1) (drop 1 tokens) in
    let (before, s, moves, says) = c.requires.said in
    said_codes (token_texts rest) _ _ c.in-Some.ensures before s moves
    (subst (λ (ts : List (List ℕ)). SayMoves before s ts moves) (after_first tokens c.requires.begun)
    says)

pub steps_of-requires : goal.steps_of-requires
steps_of-requires c =
    rw c.deref.ensures.value (letters_spelled _ c.in_ok-codes.codes.items c.in_ok-codes.ensures)

pub returns : goal.returns
returns c =
    let tokens : List Token = c.args.tokens.now in
    let rest : List Token = take (length tokens - 1) (drop 1 tokens) in
    IfOk-weaker c.steps_of.result _ _
    (λ steps are.
    subst (λ (ts : List (List ℕ)). AreStepLetters ts steps.items)
    (sym (after_first tokens c.requires.begun))
    (code_letters (opening_token ∷ token_texts rest) _ _ c.in_ok-codes.codes.items
    c.in-Some.ensures c.in_ok-codes.ensures steps.items (rw c.deref.ensures.value at are)))
    c.steps_of.ensures
