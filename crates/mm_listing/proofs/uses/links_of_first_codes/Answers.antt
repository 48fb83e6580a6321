use Rattle.mm_listing.proofs.uses.links_of_first_codes.Goals as goal

pub links_of_front-requires-clause-pass : goal.links_of_front-requires-clause-pass
links_of_front-requires-clause-pass c =
    let site = c.new-site.ensures in
    rw (site.statements, site.number, site.limit) c.requires.pass

pub returns : goal.returns
returns c =
    let site = c.new-site.ensures in
    rw (site.statements, site.number) at c.links_of_front.ensures
