-- The line tells the fault, and what follows has its place and its token.
use Rattle.std.proofs.Common.{ℕ, List, [], ◌∷◌, ◌++◌, None, ap, sym, ◌∙◌, append-nil}
use Rattle.mm_base.specs.Token.{plain_token}
use Rattle.mm_text.specs.Files.{plain_file}
use Rattle.mm_rules.specs.declared.rule.Rule.TheVariants as rules
use Rattle.mm_facts.specs.Explained.{detail_text, token_at_fault}
use Rattle.mm_explain.specs.Why.{head_at}
use Rattle.mm_explain.proofs.trial.wrong_reply.Goals as goal

pub returns : goal.returns
returns c =
    let fact : List ℕ = detail_text (token_at_fault c.args.wrong.token.text.now) in
    let line : List ℕ = c.in_ok-text.text.items in
    let head : List ℕ = head_at (plain_file c.args.proof.now ∷ []) 0 c.args.wrong.token.at
    (rules.Text c.args.wrong.rule) None 0 in
    record {
      taken = c.requires.size;
      rule = c.args.wrong.rule;
      token = plain_token c.args.wrong.token;
      broken = c.requires.broken;
      line = line;
      told = (c.in_ok-text.ensures, c.text_status.ensures);
      said = c.in_ok-push_token.ensures
          ∙ ap (λ (lines : List ℕ). lines ++ fact) c.in_ok-push_head_at.ensures
          ∙ ap (λ (told : List ℕ). (line ++ head) ++ told) (sym (append-nil fact));
    }
