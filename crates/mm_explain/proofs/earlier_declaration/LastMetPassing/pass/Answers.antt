-- What the next statement has comes before what was met.
use Rattle.mm_base.specs.Statement.{plain_statement}
use Rattle.mm_explain.proofs.NamesMet.{statement_more}
use Rattle.mm_explain.proofs.earlier_declaration.LastMetPassing.pass.Goals as goal

pub returns : goal.returns
returns c = λ first passed has. record {
  rule = has.rule;
  name = has.name;
  met = rw c.or-self.ensures (statement_more first.rule first.name.now passed
      (plain_statement c.args.statement.now) c.last_in.result c.args.self.now.last
      (rw (has.rule, has.name) at c.last_in.ensures) has.met);
}
