-- The line of a theorem with a shorter proof is put, and its sizes are added.
use Rattle.mm_base.specs.Statement.{plain_statement}
use Rattle.mm_minimize.proofs.ShorterTheorems.ShorterLists.{lists_found, may_list_found}
use Rattle.mm_minimize.proofs.shorter_list.list_theorem.Goals as goal

pub tell-requires-clause-may : goal.tell-requires-clause-may
tell-requires-clause-may g c =
    may_list_found c.args.shortening.now.checked.now c.args.id.0 (plain_statement c.args.statement.now)
    c.requires.theorem.statements c.in_ok-found.found c.requires.theorem.reads c.requires.formed
    c.requires.theorem.complete c.requires.labels c.in_ok-found.ensures.shorter

pub returns-clause-listed : goal.returns-clause-listed
returns-clause-listed g c =
    lists_found c.args.shortening.now.checked.now c.args.id.0 (plain_statement c.args.statement.now)
    c.label_of.result.now c.in_ok-found.found c.args.list.now c.tell.new.self
    c.in_ok-found.ensures.shorter c.label_of.ensures c.in_ok-tell.ensures
