-- What follows the lines is what the known prefix leaves.
use Rattle.std.proofs.Common.{◌≡◌, ℕ, List, true, map, take, refl, subst}
use Rattle.mm_frame.specs.Sentence.{Sentence}
use Rattle.mm_step.specs.declared.profile.Profile.TheVariants.{Lenient}
use Rattle.mm_proof.specs.CheckedPrefix.{checked_prefix}
use Rattle.mm_proof.specs.Tokens.{is_incomplete}
use Rattle.mm_proof.specs.UnderProfile.{IsPrefixAllowedUnder}
use Rattle.mm_base.specs.Token.{plain_token}
use Rattle.mm_text.specs.Files.{plain_file}
use Rattle.mm_check.specs.Told.{TellsMoves}
use Rattle.mm_rules.proofs.Judgements.JudgedProofs.{texts_of}
use Rattle.mm_check.proofs.checked_prefix.prefix_reply.Goals as goal

pub returns : goal.returns
returns c = λ telling shown index s number.
    let told = c.in_ok-push_left_over.ensures index s number in
    let same = texts_of c.args.tokens.now in
    let before : List Sentence = take index c.args.book.now.statements in
    record {
      incomplete = subst (λ (ts : List (List ℕ)). is_incomplete ts ≡ true) same
          c.requires.incomplete;
      allowed = subst (λ (ts : List (List ℕ)). IsPrefixAllowedUnder Lenient before s ts) same
          (c.requires.allowed index s number);
      lines = c.args.lines.items;
      shown = subst
          (λ (ts : List (List ℕ)). TellsMoves telling (map plain_file c.args.files.now) before s
          (map plain_token c.args.tokens.now) (checked_prefix ts) c.args.lines.items)
          same (shown index s number);
      details = told.0;
      left = told.1;
      said = told.2;
      ends = refl;
    }
