use Rattle.std.proofs.lemmas.Bool.{MatchBool-at_true, MatchBool-at_false}
use Rattle.std.proofs.Common.{◌≤◌, length, ap, ◌∙◌, arith}
use Rattle.std.proofs.lemmas.List.{length-append}
use Rattle.mm_frame.proofs.BookLists.GrownLists.{on_err}
use Rattle.mm_step.specs.Mirror.Buffer.{AreParts}
use Rattle.mm_step.proofs.StoreRanges.{parts-grow, within-later, within-put, concluded}
use Rattle.mm_step.proofs.StoreRanges.{concluded-entry}
use Rattle.mm_step.proofs.flat.FlatStore.conclude.Goals as goal

pub returns-in_err-put_said-clause-refused : goal.returns-in_err-put_said-clause-refused
returns-in_err-put_said-clause-refused c = on_err c.from_residual.result (rw c.put_said.ensures.grown.1 (parts-grow _ _ _ c.args.self.now.stacked))

pub returns-in_err-put_said-clause-kept : goal.returns-in_err-put_said-clause-kept
returns-in_err-put_said-clause-kept c = rw c.put_said.ensures.grown.1 (parts-grow _ _ _ c.args.self.now.saved)

pub returns-then-not-branch-clause-said : goal.returns-then-not-branch-clause-said
returns-then-not-branch-clause-said c =
    let over = rw c.deref.ensures.value at (MatchBool-at_false _ _ c.if-not-branch.true c.in_ok-put_said.ensures.said) in
    (over, rw c.put_said.ensures.grown.1 (parts-grow _ _ _ c.args.self.now.stacked))

pub returns-then-not-branch-clause-kept : goal.returns-then-not-branch-clause-kept
returns-then-not-branch-clause-kept c = rw c.put_said.ensures.grown.1 (parts-grow _ _ _ c.args.self.now.saved)

pub returns-in_err-conclude_at_cut-clause-refused : goal.returns-in_err-conclude_at_cut-clause-refused
returns-in_err-conclude_at_cut-clause-refused c =
    on_err c.from_residual-in_err-conclude_at_cut.result
    (c.in_err-conclude_at_cut.ensures.refused ∙ rw c.put_said.ensures.grown.1 (parts-grow _ _ _ c.args.self.now.stacked))

pub returns-in_err-conclude_at_cut-clause-kept : goal.returns-in_err-conclude_at_cut-clause-kept
returns-in_err-conclude_at_cut-clause-kept c =
    c.conclude_at_cut.ensures.kept ∙ rw c.put_said.ensures.grown.1 (parts-grow _ _ _ c.args.self.now.saved)

pub returns-then-len-self-clause-said : goal.returns-then-len-self-clause-said
returns-then-len-self-clause-said c =
    let said = rw c.deref.ensures.value at (MatchBool-at_true _ _ c.if-not-branch.false c.in_ok-put_said.ensures.said) in (
      said.0,
      c.in_ok-conclude_at_cut.ensures.said
          ∙ concluded c.args.self.now.symbols c.put_said.new.symbols said.1 c.args.self.now.stack.items c.args.base c.len-start.result _ c.args.self.now.stacked c.len-start.ensures said.2 said.3,
    )

pub returns-then-len-self-clause-kept : goal.returns-then-len-self-clause-kept
returns-then-len-self-clause-kept c =
    c.conclude_at_cut.ensures.kept ∙ rw c.put_said.ensures.grown.1 (parts-grow _ _ _ c.args.self.now.saved)

pub returns-in_err-put_last-clause-refused : goal.returns-in_err-put_last-clause-refused
returns-in_err-put_last-clause-refused c =
    on_err c.from_residual-in_err-put_last.result
    (rw (c.in_err-put_last.ensures.same, c.put_said.ensures.grown.1) (parts-grow _ _ _ c.args.self.now.stacked))

pub returns-in_err-put_last-clause-kept : goal.returns-in_err-put_last-clause-kept
returns-in_err-put_last-clause-kept c = rw c.put_said.ensures.grown.1 (parts-grow _ _ _ c.args.self.now.saved)

pub returns-clause-said : goal.returns-clause-said
returns-clause-said c =
    let said = rw c.deref.ensures.value at (MatchBool-at_true _ _ c.if-not-branch.false c.in_ok-put_said.ensures.said) in
    rw c.in_ok-put_last.ensures.put
    (said.0, concluded-entry c.args.self.now.symbols c.put_said.new.symbols said.1 c.args.self.now.stack.items c.args.base _ _ c.args.self.now.stacked c.len-start.ensures c.len-2.ensures said.2 said.3)

pub returns-clause-kept : goal.returns-clause-kept
returns-clause-kept c = rw c.put_said.ensures.grown.1 (parts-grow _ _ _ c.args.self.now.saved)

pub invariant_of-self-2 : goal.invariant_of-self-2
invariant_of-self-2 c =
    let grown = c.put_said.ensures.grown in
    let longer = length-append c.args.self.now.symbols grown.0 in
    let later : length c.args.self.now.symbols ≤ length c.put_said.new.symbols = omega (arith, ap length grown.1, longer) in
    let stack : AreParts (length c.put_said.new.symbols) c.put_last.new.list.items =
    within-put _ c.args.base c.put_last.result c.args.self.now.stack.items _ _ c.put_last.ensures.put c.put_last.ensures.same
    (within-later _ _ _ later c.args.self.now.stacked)
    (record { order = omega (arith, c.len-start.ensures, c.len-2.ensures, later); within = omega (arith, c.len-2.ensures) }) in
    record { stacked = stack; saved = within-later _ _ _ later c.args.self.now.saved }
