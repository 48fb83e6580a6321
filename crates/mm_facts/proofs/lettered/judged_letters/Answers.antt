-- The judged tokens are those of the checked prefix, or all.
use Rattle.std.proofs.Common.{List, ℕ, sym, subst, ◌∙◌}
use Rattle.mm_step.specs.Plain.{token_texts}
use Rattle.mm_proof.specs.Tokens.{SayMoves}
use Rattle.mm_facts.proofs.TokenHalts.{judged_known}
use Rattle.mm_facts.proofs.lettered.judged_letters.Goals as goal

pub letters_of_steps-requires : goal.letters_of_steps-requires
letters_of_steps-requires c =
    let judged = judged_known (token_texts c.args.tokens.now)
    (sym c.is_incomplete.ensures ∙ c.if-is_incomplete.true) in
    let (before, s, moves, says) = c.requires in (
      before,
      s,
      moves,
      subst (λ (ts : List (List ℕ)). SayMoves before s ts moves) (sym (rw c.deref.ensures.value c.in_ok-prefix.ensures)) (subst (λ (ts : List (List ℕ)). SayMoves before s ts moves) judged says),
    )
