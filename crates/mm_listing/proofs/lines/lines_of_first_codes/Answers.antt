use Rattle.mm_listing.proofs.lines.lines_of_first_codes.Goals as goal

pub lines_of_front-requires-clause-pass : goal.lines_of_front-requires-clause-pass
lines_of_front-requires-clause-pass c =
    let site = c.new-site.ensures in
    rw (site.statements, site.number, site.limit) c.requires.pass

pub returns : goal.returns
returns c =
    let site = c.new-site.ensures in
    rw (site.statements, site.number) at c.lines_of_front.ensures
