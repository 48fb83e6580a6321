use Rattle.std.proofs.Common.{refl, sym, ◌∙◌, ◌+◌, arith}
use Rattle.std.proofs.lemmas.Bool.{and_parts}
use Rattle.mm_base.specs.Token.{plain_token}
use Rattle.mm_text.proofs.Tokens.WordsAndComments.{comment_token, passed_all, in_comment-illegal}
use Rattle.mm_text.proofs.Tokens.WordsAndComments.{in_comment-close, in_comment-mark}
use Rattle.mm_text.proofs.Tokens.WordsAndComments.{in_comment-more, token_printable, token_illegal}
use Rattle.mm_text.proofs.Tokens.WordsAndComments.{later_position, legal_behind_mark, closed_at}
use Rattle.mm_text.proofs.comments.comment_step.Goals as goal

-- no `$)` is left
pub returns-then-stop-position : goal.returns-then-stop-position
returns-then-stop-position c =
    let p = c.args.position in (
      passed_all (plain_token c.args.begin) p.bytes.now p.file p.at (omega (arith, c.requires.position.within, c.requires.position.prefix.within))
          (λ k low high. c.comment_stop-stop.ensures.quiet k low (omega arith)),
      c.requires.begin,
    )

-- a `$)` is told at once
pub returns-then-is_closed_at : goal.returns-then-is_closed_at
returns-then-is_closed_at c =
    let p = c.args.position in
    let stop = c.comment_stop-stop.result in
    let legal = c.max-legal.result in
    let quiet = c.comment_stop-stop.ensures.quiet in
    let closed = c.is_closed_at.ensures c.if-is_closed_at.true in
    let prefix = legal_behind_mark p.bytes.now 41 p.at stop p.legal legal refl closed.mark c.requires.position.prefix c.requires.position.within
    (λ k low high. (and_parts _ _ (quiet k low high)).0) (omega (arith, c.max-legal.ensures, c.requires.position.prefix.within, closed.mark.within)) (λ more. omega (arith, c.max-legal.ensures, more)) in (
      later_position p (stop + 2) legal prefix (omega (arith, c.max-legal.ensures)) (omega arith) c.requires.position.small,
      closed_at (plain_token c.args.begin) p stop legal (omega arith) quiet closed,
    )

pub returns-then-position-end : goal.returns-then-position-end
returns-then-position-end c =
    let begin = plain_token c.args.begin in
    let illegal = token_illegal _ _ _ _ _ _ c.make_token-token.ensures.token (c.legal_prefix.ensures.judged.stops (omega arith)) (omega arith) (omega arith) (omega arith) c.token_end-end.ensures.ink in (
      comment_token begin c.args.position _ _ _ _ (omega arith) (omega arith) (omega arith)
          c.comment_stop-stop.ensures.quiet c.token_start-start.ensures.apart c.token_end-end.ensures.token c.make_token-token.ensures.token
          ∙ in_comment-illegal begin _ _ illegal,
      c.make_token-token.ensures.at,
    )

pub returns-then-is_close : goal.returns-then-is_close
returns-then-is_close c =
    let p = c.args.position in
    let begin = plain_token c.args.begin in
    let printable = token_printable _ _ _ _ _ _ c.make_token-token.ensures.token c.legal_prefix.ensures.judged.prefix (omega arith) (omega arith) c.token_end-end.ensures.ink in (
      later_position p _ _ c.legal_prefix.ensures.judged.prefix (omega arith) (omega arith) c.requires.position.small,
      comment_token begin p _ _ _ _ (omega arith) (omega arith) (omega arith)
          c.comment_stop-stop.ensures.quiet c.token_start-start.ensures.apart c.token_end-end.ensures.token c.make_token-token.ensures.token
          ∙ in_comment-close begin _ _ printable (sym c.is_close.ensures ∙ c.if-is_close.true),
    )

pub returns-then-holds_mark : goal.returns-then-holds_mark
returns-then-holds_mark c =
    let begin = plain_token c.args.begin in
    let printable = token_printable _ _ _ _ _ _ c.make_token-token.ensures.token c.legal_prefix.ensures.judged.prefix (omega arith) (omega arith) c.token_end-end.ensures.ink in (
      comment_token begin c.args.position _ _ _ _ (omega arith) (omega arith) (omega arith)
          c.comment_stop-stop.ensures.quiet c.token_start-start.ensures.apart c.token_end-end.ensures.token c.make_token-token.ensures.token
          ∙ in_comment-mark begin _ _ printable
          (sym c.is_close.ensures ∙ c.if-is_close.false) (sym c.holds_mark.ensures ∙ c.if-holds_mark.true),
      c.make_token-token.ensures.at,
    )

pub returns : goal.returns
returns c =
    let p = c.args.position in
    let begin = plain_token c.args.begin in
    let printable = token_printable _ _ _ _ _ _ c.make_token-token.ensures.token c.legal_prefix.ensures.judged.prefix (omega arith) (omega arith) c.token_end-end.ensures.ink in (
      later_position p _ _ c.legal_prefix.ensures.judged.prefix (omega arith) (omega arith) c.requires.position.small,
      comment_token begin p _ _ _ _ (omega arith) (omega arith) (omega arith)
          c.comment_stop-stop.ensures.quiet c.token_start-start.ensures.apart c.token_end-end.ensures.token c.make_token-token.ensures.token
          ∙ in_comment-more begin _ _ printable
          (sym c.is_close.ensures ∙ c.if-is_close.false) (sym c.holds_mark.ensures ∙ c.if-holds_mark.false),
    )
