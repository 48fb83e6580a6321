use Rattle.std.proofs.Common.{refl, ◌+◌, arith}
use Rattle.std.proofs.lemmas.Bool.{or_right}
use Rattle.mm_base.specs.Token.{plain_token}
use Rattle.mm_text.proofs.Tokens.WordsAndComments.{begins_at, later_position, legal_behind_mark}
use Rattle.mm_text.proofs.comments.next_begin.Goals as goal

-- a `$(` is told at once
pub returns-then-is_mark_at : goal.returns-then-is_mark_at
returns-then-is_mark_at c =
    let p = c.args.position in
    let start = c.skip_space-start.result in
    let legal = c.max-legal.result in
    let mark = c.is_mark_at.ensures c.if-is_mark_at.true in
    let prefix = legal_behind_mark p.bytes.now 40 p.at start p.legal legal refl mark c.requires.prefix c.requires.within
    (λ k low high. or_right _ _ (c.skip_space-start.ensures.space k low high)) (omega (arith, c.max-legal.ensures, c.requires.prefix.within, mark.within)) (λ more. omega (arith, c.max-legal.ensures, more)) in (
      later_position p (start + 2) legal prefix (omega (arith, c.max-legal.ensures)) (omega arith) c.requires.small,
      begins_at p start legal (plain_token c.make_token-begin.result) c.skip_space-start.ensures.same_tokens mark
          c.make_token-begin.ensures.token,
      c.make_token-begin.ensures.at,
    )
