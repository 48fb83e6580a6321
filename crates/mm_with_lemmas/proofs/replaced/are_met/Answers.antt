-- One more statement is met, or none is left.
use Rattle.std.proofs.Common.{List, [], ◌∷◌, ◌++◌, map, sym, ap, ◌∙◌, append_assoc}
use Rattle.std.proofs.lemmas.Bool.{eqb-true}
use Rattle.mm_base.specs.Statement.{PlainStatement, plain_statement}
use Rattle.mm_text.specs.Files.{plain_file}
use Rattle.mm_with_lemmas.proofs.ReplaceableProofs.{met_all}
use Rattle.mm_with_lemmas.proofs.replaced.are_met.Goals as goal

pub loop-statement-preserved : goal.loop-statement-preserved
loop-statement-preserved c =
    let inv = c.loop-statement.invariant in
    let next = rw c.if-branch.true at c.in_ok-more.ensures.on in
    let s : PlainStatement = plain_statement c.more.new.into in
    record {
      seen = inv.seen ++ s ∷ [];
      whole = inv.whole ∙ ap (λ (ss : List PlainStatement). inv.seen ++ ss) next.0
          ∙ sym (append_assoc inv.seen (s ∷ []) c.more.new.self.statements);
      within = c.in_ok-met.ensures.within;
      each = c.in_ok-met.ensures.each inv.seen inv.each;
    }

pub returns : goal.returns
returns c = λ t.
    let inv = c.loop-statement.invariant in
    let next = rw c.if-branch.false at c.in_ok-more.ensures.on in
    met_all (map plain_file c.args.files.now) c.args.number c.args.statements.now.statements inv.seen
    c.loop-statement.statements.statements c.args.proofs.now c.loop-statement.met inv.whole next.0
    (eqb-true c.loop-statement.met _ t) inv.each
