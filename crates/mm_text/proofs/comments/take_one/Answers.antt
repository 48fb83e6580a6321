use Rattle.std.proofs.Common.{sym, ap, ◌∙◌, arith, codes}
use Rattle.std.specs.Cmp.Lexicographic.{bytes_decides}
use Rattle.std.proofs.lemmas.Result.{err_from_is_err_and}
use Rattle.mm_base.specs.Token.{PlainToken, plain_token}
use Rattle.mm_text.specs.Items.{without_comments, holds_dollar}
use Rattle.mm_base.specs.Spelling.{spells}
use Rattle.mm_text.proofs.Tokens.WordsAndComments.{tokens_from-end, outside_token, outside-end}
use Rattle.mm_text.proofs.Tokens.WordsAndComments.{outside-illegal, outside-close, outside-begin}
use Rattle.mm_text.proofs.Tokens.WordsAndComments.{outside-clear, token_printable, token_illegal}
use Rattle.mm_text.proofs.Tokens.WordsAndComments.{skipped_legal}
use Rattle.mm_text.proofs.comments.take_one.Goals as goal

-- nothing but white space is left
pub returns-then-start-position-clause-takes : goal.returns-then-start-position-clause-takes
returns-then-start-position-clause-takes c =
    let p = c.args.position.now in
    ap (without_comments _) (c.skip_space-start.ensures.same_tokens p.file ∙ tokens_from-end p.bytes.now p.file c.skip_space-start.result (omega arith))
    ∙ outside-end

pub returns-then-position-end-clause-takes : goal.returns-then-position-end-clause-takes
returns-then-position-end-clause-takes c =
    let p = c.args.position.now in
    let illegal = token_illegal _ _ _ _ _ _ c.make_token-token.ensures.token (c.legal_prefix-position.ensures.judged.stops (omega arith)) (skipped_legal _ _ p.at _ _ c.legal_prefix-position.ensures.judged (omega arith) (omega arith) c.skip_space-start.ensures.space) (omega arith) (omega arith) c.token_end-end.ensures.ink in (
      outside_token p _ _ _ c.skip_space-start.ensures.same_tokens c.token_end-end.ensures.token c.make_token-token.ensures.token
          ∙ outside-illegal _ _ illegal,
      c.make_token-token.ensures.at,
    )

pub returns-then-is_close-clause-takes : goal.returns-then-is_close-clause-takes
returns-then-is_close-clause-takes c =
    let printable = token_printable _ _ _ _ _ _ c.make_token-token.ensures.token c.legal_prefix-position.ensures.judged.prefix (omega arith) (omega arith) c.token_end-end.ensures.ink in
    let close = sym c.is_close.ensures ∙ c.if-is_close.true in
    let none = ap (λ l. spells l (codes "$(")) ((bytes_decides (plain_token c.make_token-token.result).text (codes "$)")).0 close) in (
      outside_token c.args.position.now _ _ _ c.skip_space-start.ensures.same_tokens c.token_end-end.ensures.token c.make_token-token.ensures.token
          ∙ outside-close _ _ printable none close,
      c.make_token-token.ensures.at,
    )

pub returns-in_err-position-clause-takes : goal.returns-in_err-position-clause-takes
returns-in_err-position-clause-takes c =
    let printable = token_printable _ _ _ _ _ _ c.make_token-token.ensures.token c.legal_prefix-position.ensures.judged.prefix (omega arith) (omega arith) c.token_end-end.ensures.ink in
    let e = err_from_is_err_and c.from_residual.result c.from_residual.ensures.1 in
    rw (e.1, e.2) (
      (outside_token c.args.position.now _ _ _ c.skip_space-start.ensures.same_tokens c.token_end-end.ensures.token c.make_token-token.ensures.token
          ∙ outside-begin _ _ printable (sym c.is_begin.ensures ∙ c.if-is_begin.true)
          ∙ c.in_err-position.ensures.0),
      c.in_err-position.ensures.1,
    )

pub returns-then-is_begin-clause-takes : goal.returns-then-is_begin-clause-takes
returns-then-is_begin-clause-takes c =
    let printable = token_printable _ _ _ _ _ _ c.make_token-token.ensures.token c.legal_prefix-position.ensures.judged.prefix (omega arith) (omega arith) c.token_end-end.ensures.ink in (
      omega (arith, c.in_ok-position.ensures.0.after),
      outside_token c.args.position.now _ _ _ c.skip_space-start.ensures.same_tokens c.token_end-end.ensures.token c.make_token-token.ensures.token
          ∙ outside-begin _ _ printable (sym c.is_begin.ensures ∙ c.if-is_begin.true)
          ∙ c.in_ok-position.ensures.1,
    )

pub returns-clause-takes : goal.returns-clause-takes
returns-clause-takes c =
    let printable = token_printable _ _ _ _ _ _ c.make_token-token.ensures.token c.legal_prefix-position.ensures.judged.prefix (omega arith) (omega arith) c.token_end-end.ensures.ink in
    let begins = sym c.is_begin.ensures ∙ c.if-is_begin.false in
    let closes = sym c.is_close.ensures ∙ c.if-is_close.false in (
      outside_token c.args.position.now _ _ _ c.skip_space-start.ensures.same_tokens c.token_end-end.ensures.token c.make_token-token.ensures.token
          ∙ outside-clear _ _ printable begins closes,
      record {
        at = c.make_token-token.ensures.at;
        begins = begins;
        closes = closes;
        dollar =
            c.token_end-end.ensures.dollar
            ∙ ap (λ (u : PlainToken). holds_dollar u.text) (sym c.make_token-token.ensures.token);
      },
    )
