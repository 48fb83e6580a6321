-- They are those of the list, or there is none.
use Rattle.std.proofs.Common.{List, ℕ, inl, subst, sym}
use Rattle.mm_proof.specs.Tokens.{IsCompressed}
use Rattle.mm_step.specs.Plain.{token_texts}
use Rattle.mm_facts.proofs.listed.listed_texts.Goals as goal

pub returns-in_ok-fill_texts-in-Some : goal.returns-in_ok-fill_texts-in-Some
returns-in_ok-fill_texts-in-Some c =
    let letters = c.in-Some.ensures.0 in
    inl (
      letters,
      subst
          (λ (ls : List (List ℕ)). IsCompressed (token_texts c.args.tokens.now) ls letters)
          (sym c.in_ok-fill_texts-in-Some.ensures) c.in-Some.ensures.1,
    )
