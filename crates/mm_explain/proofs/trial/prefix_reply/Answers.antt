-- The line tells that a step is unknown, and what follows is what the known prefix leaves.
use Rattle.std.proofs.Common.{◌≡◌, ℕ, List, [], ◌∷◌, true, take, subst}
use Rattle.mm_base.specs.Token.{PlainToken}
use Rattle.mm_text.specs.Files.{plain_file}
use Rattle.mm_step.specs.declared.profile.Profile.TheVariants.{Lenient}
use Rattle.mm_proof.specs.Tokens.{is_incomplete}
use Rattle.mm_proof.specs.UnderProfile.{IsPrefixAllowedUnder}
use Rattle.mm_facts.specs.Explained.{AreLeftOver}
use Rattle.mm_explain.proofs.trial.prefix_reply.Goals as goal

pub push_left_over-requires-clause-incomplete : goal.push_left_over-requires-clause-incomplete
push_left_over-requires-clause-incomplete c =
    (c.requires.tried c.requires.proof.0 c.requires.proof.1 c.requires.proof.2).0

pub push_left_over-requires-clause-allowed : goal.push_left_over-requires-clause-allowed
push_left_over-requires-clause-allowed c = λ index s number. (c.requires.tried index s number).1

pub returns : goal.returns
returns c = λ index s number.
    let told = c.in_ok-push_left_over.ensures index s number in
    record {
      incomplete = subst (λ (ts : List (List ℕ)). is_incomplete ts ≡ true) c.requires.tokens
          (c.requires.tried index s number).0;
      allowed = subst
          (λ (ts : List (List ℕ)). IsPrefixAllowedUnder Lenient
          (take index c.args.book.now.statements) s ts)
          c.requires.tokens (c.requires.tried index s number).1;
      line = c.in_ok-text.text.items;
      told = (c.in_ok-text.ensures, c.text_status.ensures);
      details = told.0;
      left = subst
          (λ (ts : List PlainToken). AreLeftOver (plain_file c.args.proof.now ∷ []) Lenient
          (take index c.args.book.now.statements) s ts told.0)
          c.requires.places told.1;
      said = told.2;
    }
