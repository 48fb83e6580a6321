use Rattle.mm_frame.specs.Mirror.Layout.{statements_of}
use Rattle.mm_frame.proofs.DistinctPairs.StatedPairs.{latest_has, none_has}
use Rattle.mm_frame.proofs.tables.Tables.is_stated.Goals as goal
use Rattle.mm_frame.proofs.BookLists.GrownLists.{few_statements}

pub returns-in-Some : goal.returns-in-Some
returns-in-Some c =
    let t = c.args.self.now in
    let tables = c.requires.tables in
    let (before, tell) =
    latest_has tables.stated c.args.pair c.args.at c.in-Some.index c.requires.within
    c.in-Some.ensures in
    let active = c.is_active.ensures (statements_of t) tables.scopes (few_statements _ tables) in
    ((λ is. tell.0 (active.0 is)), (λ has. active.1 (tell.1 has)))

pub returns-in-None : goal.returns-in-None
returns-in-None c =
    let t = c.args.self.now in
    let none = none_has (statements_of t) t.distinct.stated.pairs c.args.pair c.args.at
    c.in-None.ensures in
    ((λ is. absurd (cc)), (λ has. absurd (none has)))
