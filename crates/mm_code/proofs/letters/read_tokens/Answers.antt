-- At the end of the tokens, and at a fault, the invariant gives the answer.
use Rattle.std.proofs.Common.{Ok, refl, sym, ap, ◌∙◌, arith}
use Rattle.std.proofs.lemmas.List.{append-nil, drop_all}
use Rattle.mm_code.proofs.LetterSteps.{read_end, read_cut_by_end, fault_ends}
use Rattle.mm_code.proofs.letters.read_tokens.Goals as goal

pub returns-in-Err : goal.returns-in-Err
returns-in-Err c =
    fault_ends c.in-Err.fault c.fault_with_tokens.result c.loop-at.codes.items c.loop-at.value c.args.tokens.now c.loop-at.at _ _ (omega arith) c.in-Err.ensures c.fault_with_tokens.ensures c.loop-at.invariant

pub returns-then-value-gt0 : goal.returns-then-value-gt0
returns-then-value-gt0 c =
    let none = drop_all c.loop-at.at c.args.tokens.now (omega arith) in
    sym c.loop-at.invariant ∙ rw (none, read_cut_by_end c.loop-at.value (omega arith)) refl

pub returns : goal.returns
returns c =
    let none = drop_all c.loop-at.at c.args.tokens.now (omega arith) in
    let read = read_end c.loop-at.value (omega arith) in
    sym c.loop-at.invariant ∙ rw (none, read) (ap Ok (append-nil _))
