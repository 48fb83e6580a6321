use Rattle.std.proofs.Common.{rules, length, Some, ap, ◌∙◌, subst, arith}
use Rattle.mm_frame.specs.Mirror.Declaring.{HasSpace}
use Rattle.mm_frame.proofs.Rules.RepeatedSymbols.{texts_of, text_at}
use Rattle.mm_frame.proofs.BookLists.Declarations.{taken_none, taken_next, latest_variable}
use Rattle.mm_frame.proofs.BookLists.Declarations.{latest_none}
use Rattle.mm_frame.proofs.tables.Tables.declare_each.Goals.{then-eq, else-eq}
use Rattle.mm_frame.proofs.tables.Tables.declare_each.Goals as goal

pub loop-token-init : goal.loop-token-init
loop-token-init c = record {
  taken = taken_none c.args.self.now c.args.kind c.requires.tables c.requires.kind;
  space = subst (HasSpace c.args.self.now) (omega arith) c.requires.room;
  latest = elim c.if-eq.branch [
    | then-eq w ↦ w.variable-is ∙ ap Some (search rules) ∙ latest_variable c.args.kind (length c.args.self.now.log.items) (search rules)
    | else-eq w ↦ w.variable-is ∙ latest_none _ _ c.requires.kind (search rules)
  ];
}

pub loop-token-preserved : goal.loop-token-preserved
loop-token-preserved c = record {
  taken = taken_next c.requires.tables c.requires.kind c.loop-token.invariant.latest
      c.declare.ensures.taken (texts_of c.args.symbols.now) c.loop-token.token-index
      (text_at c.args.symbols.now c.loop-token.token-index _ (search rules))
      c.loop-token.invariant.taken;
  space = c.declare.ensures.room _ (subst (HasSpace c.loop-token.self) (omega arith) c.loop-token.invariant.space);
  latest = c.loop-token.invariant.latest;
}
