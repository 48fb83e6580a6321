-- One code more, or one that says another move.
use Rattle.std.proofs.Common.{◌<◌, length, sym, ◌∙◌, arith}
use Rattle.std.proofs.lemmas.Bool.{false≢true}
use Rattle.mm_alike.proofs.SharedTrees.{codes_apart, codes_more}
use Rattle.mm_alike.proofs.moves.say_same_moves.Goals as goal

pub returns-then-not-say_one_move : goal.returns-then-not-say_one_move
returns-then-not-say_one_move c =
    let within : c.loop-at.at < length c.args.other_codes.now = omega arith in (
      (λ t. absurd (false≢true t)),
      (λ same. absurd (codes_apart c.args.old.now.statements c.args.new.now.statements
          c.args.entries.now c.args.others.now c.args.codes.now c.args.other_codes.now c.loop-at.at
          _ c.loop-at-test.true within
          (λ one. false≢true (sym c.if-not-say_one_move.true ∙ c.say_one_move.ensures.1 one))
          same)),
    )

pub loop-at-preserved : goal.loop-at-preserved
loop-at-preserved c =
    let within : c.loop-at.at < length c.args.other_codes.now = omega arith in
    codes_more c.args.old.now.statements c.args.new.now.statements c.args.entries.now
    c.args.others.now c.args.codes.now c.args.other_codes.now c.loop-at.at _ c.loop-at-test.true
    within c.loop-at.invariant (c.say_one_move.ensures.0 c.if-not-say_one_move.false)
