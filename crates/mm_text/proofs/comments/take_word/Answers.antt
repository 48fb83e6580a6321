use Rattle.std.proofs.Common.{◌≡◌, ◌∷◌, None, false, sym, ap, ◌∙◌, arith}
use Rattle.mm_base.specs.Token.{PlainToken, plain_token}
use Rattle.mm_text.specs.Items.{Clear, without_comments, holds_dollar}
use Rattle.mm_text.proofs.Tokens.WordsAndComments.{outside_token, outside-clear, no_dollar-spells}
use Rattle.mm_text.proofs.Tokens.WordsAndComments.{token_printable, tokens_from-step}
use Rattle.mm_text.proofs.comments.take_word.Goals as goal

-- a token without `$` neither begins nor closes a comment
pub returns-then-end-position-clause-takes : goal.returns-then-end-position-clause-takes
returns-then-end-position-clause-takes c =
    let p = c.args.position.now in
    let t = plain_token c.make_token.result in
    let word = c.in-Some.ensures in
    let printable = token_printable _ _ _ _ _ _ c.make_token.ensures.token c.requires.prefix
    (omega arith) (omega arith) word.ink in
    let lacks : holds_dollar t.text ≡ false =
    ap (λ (u : PlainToken). holds_dollar u.text) c.make_token.ensures.token ∙ word.dollar in (
      outside_token p _ _ t c.skip_space-start.ensures.same_tokens
          word.token c.make_token.ensures.token
          ∙ outside-clear t _ printable
          (no_dollar-spells t.text 40 lacks) (no_dollar-spells t.text 41 lacks)
          ∙ ap (λ tokens. Clear t ∷ without_comments None tokens)
          (tokens_from-step _ p.file _ word.within word.space),
      record {
        at = c.make_token.ensures.at;
        begins = no_dollar-spells t.text 40 lacks;
        closes = no_dollar-spells t.text 41 lacks;
        dollar = sym lacks;
      },
    )

pub returns-clause-takes : goal.returns-clause-takes
returns-clause-takes c =
    let p = c.args.position.now in
    let t = plain_token c.make_token-2.result in
    let printable = token_printable _ _ _ _ _ _ c.make_token-2.ensures.token c.requires.prefix
    (omega arith) (omega arith) c.token_end-end.ensures.ink in
    let lacks : holds_dollar t.text ≡ false =
    ap (λ (u : PlainToken). holds_dollar u.text) c.make_token-2.ensures.token
    ∙ sym c.token_end-end.ensures.dollar ∙ c.if-has_dollar.false in (
      outside_token p _ _ t c.skip_space-start.ensures.same_tokens
          c.token_end-end.ensures.token c.make_token-2.ensures.token
          ∙ outside-clear t _ printable
          (no_dollar-spells t.text 40 lacks) (no_dollar-spells t.text 41 lacks)
          ∙ ap (λ tokens. Clear t ∷ without_comments None tokens) (c.after_blank-position.ensures.same_tokens p.file),
      record {
        at = c.make_token-2.ensures.at;
        begins = no_dollar-spells t.text 40 lacks;
        closes = no_dollar-spells t.text 41 lacks;
        dollar = sym lacks;
      },
    )
