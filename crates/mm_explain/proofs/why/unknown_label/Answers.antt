-- It is the token at which P2 is broken; and where moves stop another rule is.
use Rattle.std.proofs.Common.{take}
use Rattle.mm_explain.proofs.LaterLabels.{none_unknown, some_unknown, whole_step}
use Rattle.mm_facts.proofs.TokenHalts.{moves_caused, token_caused}
use Rattle.mm_explain.proofs.why.unknown_label.Goals as goal

pub unreachable-requires : goal.unreachable-requires
unreachable-requires c =
    let (profile, st, id, index, s, tokens, step, number, r) = c.requires in
    (moves_caused c.in-Moves.is r).0
    (whole_step profile (take index st) s tokens step
    (rw c.in-P2.is at (r.fault index s number)))

pub returns-in-Token : goal.returns-in-Token
returns-in-Token c = λ profile st id index s tokens step number r.
    let caused = token_caused c.in-Token.is r in
    some_unknown (take index st) s tokens c.args.rule c.in-P2.is _ _ c.in-Token.text.now
    (caused.1 index s number) caused.2

pub returns-in_default : goal.returns-in_default
returns-in_default c = λ profile st id index s tokens step number r.
    none_unknown (take index st) tokens c.args.rule c.in_default.not-P2
