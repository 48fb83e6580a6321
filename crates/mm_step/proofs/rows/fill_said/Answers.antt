use Rattle.std.proofs.Common.{drop, ap, ◌+◌, ◌∙◌, length, arith}
use Rattle.std.proofs.lemmas.List.{length-map}
use Rattle.mm_step.specs.Stores.{rows_in, said_by, IsWithinIndices}
use Rattle.mm_step.proofs.ByNumbers.NumberedSymbols.{said_over, said_appended, within_at}
use Rattle.mm_step.proofs.rows.fill_said.Goals as goal

pub append_said-requires-clause-within : goal.append_said-requires-clause-within
append_said-requires-clause-within c =
    rw (c.piece.ensures ∙ c.piece-item.is) (within_at (IsWithinIndices (length (drop c.args.base (rows_in c.args.rows.now)))) c.args.pieces.now c.loop-piece.piece-index _ c.requires.within c.loop-piece-test.true)

pub returns-then-not-branch : goal.returns-then-not-branch
returns-then-not-branch c =
    let said = rw (c.piece.ensures ∙ c.piece-item.is) at c.in_ok-append_said.ensures.made in
    let made = said_appended (said_by (drop c.args.base (rows_in c.args.rows.now))) c.args.pieces.now
    _ c.piece-item.result _ _ c.loop-piece-test.true c.loop-piece.invariant said in
    said_over (said_by (drop c.args.base (rows_in c.args.rows.now))) c.args.pieces.now
    (c.loop-piece.piece-index + 1) c.args.limit (omega (arith, c.in_ok-append_said.ensures.over c.if-not-branch.true, ap length made, length-map c.append_said.new.made.items (λ s. s.0)))

pub loop-piece-preserved : goal.loop-piece-preserved
loop-piece-preserved c =
    let said = rw (c.piece.ensures ∙ c.piece-item.is) at c.in_ok-append_said.ensures.made in
    said_appended (said_by (drop c.args.base (rows_in c.args.rows.now))) c.args.pieces.now
    _ c.piece-item.result _ _ c.loop-piece-test.true c.loop-piece.invariant said
