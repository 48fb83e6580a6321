use Rattle.mm_listing.proofs.lines.lines_of_proof.Goals as goal

pub returns-clause-listed : goal.returns-clause-listed
returns-clause-listed c =
    let site = c.new-site.ensures in
    rw (site.statements, site.number, site.limit) at c.lines_in_frame.ensures.listed
