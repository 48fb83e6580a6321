-- The next theorem is listed.
use Rattle.std.proofs.Common.{◌++◌, ◌∷◌, [], arith}
use Rattle.mm_base.specs.Statement.{plain_statement}
use Rattle.mm_minimize.proofs.ShorterTheorems.ShorterLists.{listed_on, listed_past}
use Rattle.mm_verdict.proofs.Questions.TheoremsAgain.{at_in}
use Rattle.mm_minimize.proofs.ShorterTheorems.ComparedAgain.{fewer_left}
use Rattle.mm_minimize.proofs.shorter_list.list_all.Goals as goal

pub list_theorem-requires-clause-theorem : goal.list_theorem-requires-clause-theorem
list_theorem-requires-clause-theorem g c =
    let inv = c.loop-reading.invariant in
    let goes = rw c.in-Some.is at (c.in_ok-id.ensures.next inv.taken inv.read) in
    at_in c.args.shortening.now.checked.now.files (inv.taken ++ goes.0) c.in-Some.id.0
    c.next_theorem.new.self goes.2

pub loop-reading-smaller : goal.loop-reading-smaller
loop-reading-smaller g c =
    let inv = c.loop-reading.invariant in
    let goes = rw c.in-Some.is at (c.in_ok-id.ensures.next inv.taken inv.read) in
    let less = fewer_left c.args.shortening.now.checked.now.files inv.taken goes.0 c.in-Some.id.0
    c.loop-reading.reading c.next_theorem.new.self inv.read goes.2 in omega (arith, less)

pub loop-reading-preserved : goal.loop-reading-preserved
loop-reading-preserved g c =
    let inv = c.loop-reading.invariant in
    let goes = rw c.in-Some.is at (c.in_ok-id.ensures.next inv.taken inv.read) in
    record {
      taken = (inv.taken ++ goes.0) ++ plain_statement c.next_theorem.new.self.statement ∷ [];
      read = goes.2.read;
      listed = listed_on c.args.shortening.now.checked.now (inv.taken ++ goes.0)
          (plain_statement c.next_theorem.new.self.statement) c.in-Some.id.0 c.loop-reading.list
          c.list_theorem.new.list goes.2.formed goes.2.complete goes.2.number
          (listed_past c.args.shortening.now.checked.now inv.taken goes.0 c.loop-reading.list
          inv.listed) c.in_ok-list_theorem.ensures.listed;
      whole = λ before. c.in_ok-list_theorem.ensures.whole (inv.whole before);
    }

pub returns-clause-listed : goal.returns-clause-listed
returns-clause-listed g c =
    let inv = c.loop-reading.invariant in
    let goes = rw c.in_default.is at (c.in_ok-id.ensures.next inv.taken inv.read) in
    record {
      statements = inv.taken ++ goes.0;
      reads = goes.2;
      so_far = listed_past c.args.shortening.now.checked.now inv.taken goes.0 c.loop-reading.list
          inv.listed;
    }
