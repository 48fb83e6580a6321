use Rattle.mm_listing.proofs.uses.links_of_proof.Goals as goal

pub returns-clause-linked : goal.returns-clause-linked
returns-clause-linked c =
    let site = c.new-site.ensures in
    rw (site.statements, site.number, site.limit) at c.links_in_frame.ensures.linked
