use Rattle.std.proofs.Common.{arith, ap, length}
use Rattle.std.proofs.lemmas.Result.{err_from_is_err_and}
use Rattle.mm_step.proofs.StoreRanges.{parts-grow, parts-push}
use Rattle.mm_step.proofs.flat.FlatStore.push.Goals as goal

pub returns-in_err-push-clause-refused : goal.returns-in_err-push-clause-refused
returns-in_err-push-clause-refused c =
    let p = err_from_is_err_and c.from_residual-in_err-push.result c.from_residual-in_err-push.ensures.1 in
    rw (p.1, c.in_err-push.ensures.items, c.in_ok-append.ensures.appended) (parts-grow _ _ _ c.args.self.now.stacked)

pub returns-in_err-push-clause-kept : goal.returns-in_err-push-clause-kept
returns-in_err-push-clause-kept c =
    rw c.in_ok-append.ensures.appended (parts-grow _ _ _ c.args.self.now.saved)

pub returns-clause-pushed : goal.returns-clause-pushed
returns-clause-pushed c =
    rw (c.in_ok-push.ensures.items, c.in_ok-append.ensures.appended)
    (parts-push c.args.self.now.symbols c.args.expression.now c.args.self.now.stack.items _ c.args.self.now.stacked (omega arith) (omega (arith, ap length c.in_ok-append.ensures.appended)))

pub returns-clause-kept : goal.returns-clause-kept
returns-clause-kept c =
    rw c.in_ok-append.ensures.appended (parts-grow _ _ _ c.args.self.now.saved)

pub returns-in_err-append-clause-refused : goal.returns-in_err-append-clause-refused
returns-in_err-append-clause-refused c =
    let p = err_from_is_err_and c.from_residual.result c.from_residual.ensures.1 in
    rw (p.1, c.append.ensures.grown.1) (parts-grow _ _ _ c.args.self.now.stacked)

pub returns-in_err-append-clause-kept : goal.returns-in_err-append-clause-kept
returns-in_err-append-clause-kept c =
    rw c.append.ensures.grown.1 (parts-grow _ _ _ c.args.self.now.saved)
