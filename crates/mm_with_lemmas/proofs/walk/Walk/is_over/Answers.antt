-- Nothing is left of both.
use Rattle.std.proofs.Common.{sym, ◌∙◌}
use Rattle.std.proofs.lemmas.List.{length-map}
use Rattle.mm_base.specs.Statement.{plain_statement}
use Rattle.mm_with_lemmas.specs.declared.lone.Put.{Put}
use Rattle.mm_with_lemmas.proofs.walk.Walk.is_over.Goals as goal

pub returns : goal.returns
returns c = λ t.
    let read = rw c.if-branch.false at c.in_ok-more.ensures.on in
    let last = c.is_last.ensures t in
    record {
      none = read.0;
      outside = last.0;
      all = last.1
          ∙ sym (length-map c.args.sides.now.put.now (λ (p : Put). plain_statement p.statement));
    }
