use Rattle.std.proofs.Common.{drop, sym, ◌∙◌, length}
use Rattle.std.proofs.lemmas.Bool.{false≢true}
use Rattle.std.proofs.lemmas.Bool.Decides.{Decides-eqb}
use Rattle.mm_step.specs.Stores.{numbers_in, said_by, IsWithinIndices}
use Rattle.mm_step.proofs.ByNumbers.NumberedSymbols.{said_step, said_none, said_end, within_at}
use Rattle.mm_step.proofs.substitution.is_said.Goals as goal

pub after_said-requires-clause-within : goal.after_said-requires-clause-within
after_said-requires-clause-within g c =
    rw c.piece-item.is (within_at (IsWithinIndices (length (drop c.args.base (g.S.Store.stack c.args.store.now)))) c.args.pieces.now c.loop-piece.piece-index _ c.requires.within c.loop-piece-test.true)

pub returns-in-None : goal.returns-in-None
returns-in-None g c = (
  λ f. absurd (false≢true f),
  λ is. absurd (said_none (said_by (drop c.args.base (g.S.Store.stack c.args.store.now))) c.args.pieces.now
      _ c.piece-item.result _ _ c.loop-piece-test.true c.loop-piece.invariant (rw c.piece-item.is at c.in-None.ensures) is),
)

pub loop-piece-preserved : goal.loop-piece-preserved
loop-piece-preserved g c =
    said_step (said_by (drop c.args.base (g.S.Store.stack c.args.store.now))) c.args.pieces.now
    _ c.piece-item.result _ _ _ c.loop-piece-test.true c.loop-piece.invariant
    (rw c.piece-item.is at c.in-Some.ensures)

pub returns : goal.returns
returns g c =
    said_end (said_by (drop c.args.base (g.S.Store.stack c.args.store.now))) c.args.pieces.now
    c.loop-piece.piece-index (numbers_in c.args.symbols.now) c.loop-piece.rest.now c.is_empty.result c.loop-piece-test.false c.loop-piece.invariant
    (λ t. (Decides-eqb (length c.loop-piece.rest.now) 0).0 (sym c.is_empty.ensures ∙ t)) (λ e. c.is_empty.ensures ∙ (Decides-eqb (length c.loop-piece.rest.now) 0).1 e)
