use Rattle.std.proofs.lemmas.Bool.{MatchBool-at_true}
use Rattle.std.proofs.Common.{◌++◌, ◌∷◌, [], take, drop, ap, sym, ◌∙◌}
use Rattle.std.proofs.lemmas.List.{take-map}
use Rattle.mm_step.specs.Stores.{numbers_in, rows_in, all_said_by}
use Rattle.mm_step.proofs.StoreRanges.{push-seen}
use Rattle.mm_step.proofs.rows.RowsStore.conclude.Goals as goal

pub returns-clause-said : goal.returns-clause-said
returns-clause-said c =
    let stack = c.args.self.now.stack.items in
    let whole = all_said_by (drop c.args.base (rows_in stack)) c.args.pieces.now in
    let said = rw c.deref.ensures.value at (MatchBool-at_true _ _ c.if-not-branch.false c.in_ok-fill_said.ensures) in
    rw c.in_ok-put_last.ensures.put (
      said.0,
      push-seen (λ r. numbers_in r.items) (take c.args.base stack) c.fill_said.new.made whole said.1
          ∙ ap (λ l. l ++ whole ∷ []) (sym (take-map (λ r. numbers_in r.items) c.args.base stack)),
    )
