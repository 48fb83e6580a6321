use Rattle.std.proofs.Common.{Err, ap, subst, sym}
use Rattle.std.proofs.lemmas.List.{take-map}
use Rattle.std.proofs.lemmas.Result.{IfOk-weaker}
use Rattle.mm_proof.specs.Mirror.CodeSteps.{code_move, code_moves}
use Rattle.mm_listing.specs.Uses.{rows_of}
use Rattle.mm_listing.specs.Mirror.CodeLines.{BreaksAt}
use Rattle.mm_listing.proofs.Machines.ListedEnd.{no_front_fault}
use Rattle.mm_listing.proofs.Machines.ProofHalts.{front_made, front_named, meant_before}
use Rattle.mm_listing.proofs.Machines.StepUses.{made_among, rows_long, front_linked}
use Rattle.mm_listing.proofs.uses.links_of_front.Goals as goal

pub link_codes-requires-clause-meant : goal.link_codes-requires-clause-meant
link_codes-requires-clause-meant c = meant_before c.args.table.now.site c.requires.site

pub link_codes-requires-clause-usable : goal.link_codes-requires-clause-usable
link_codes-requires-clause-usable c =
    front_made c.args.table.now.ids c.args.codes.now c.args.passed c.args.table.now.site
    c.requires.site c.requires.steps

pub link_codes-requires-clause-names : goal.link_codes-requires-clause-names
link_codes-requires-clause-names c =
    front_named c.args.table.now.ids c.args.codes.now c.args.passed c.args.table.now.site
    c.requires.steps

pub used_steps-requires-clause-among : goal.used_steps-requires-clause-among
used_steps-requires-clause-among c =
    let site = c.args.table.now.site in
    let links = c.in-Ok.links in
    made_among site.limit site.statements site.index _ links.sources.items
    c.in-Ok.ensures.sources.0
    (front_named c.args.table.now.ids c.args.codes.now c.args.passed site c.requires.steps) _
    links.origins.items c.in-Ok.ensures.origins

pub used_steps-requires-clause-long : goal.used_steps-requires-clause-long
used_steps-requires-clause-long c =
    let site = c.args.table.now.site in
    let links = c.in-Ok.links in
    rows_long site.limit site.statements site.index _ links.sources.items
    c.in-Ok.ensures.sources.0
    (front_named c.args.table.now.ids c.args.codes.now c.args.passed site c.requires.steps)
    c.args.essential _ c.in-Ok.ensures.uses.0

pub used_steps-requires-clause-no_later : goal.used_steps-requires-clause-no_later
used_steps-requires-clause-no_later c = c.in-Ok.ensures.sources.1

pub used_steps-requires-clause-earlier : goal.used_steps-requires-clause-earlier
used_steps-requires-clause-earlier c = c.in-Ok.ensures.uses.1

pub returns-in-Ok : goal.returns-in-Ok
returns-in-Ok c =
    let site = c.args.table.now.site in
    let links = c.in-Ok.links in
    IfOk-weaker c.used_steps.result _ _
    (λ used h. rw (h.0, h.1, h.2)
    (front_linked site c.args.table.now.ids c.args.codes.now c.args.passed c.requires.site
    c.args.essential _ _ _ links.lines.items (rows_of links.uses.items) links.origins.items
    links.sources.items c.in-Ok.ensures.run c.in-Ok.ensures.lines c.in-Ok.ensures.origins
    c.in-Ok.ensures.sources.0 c.in-Ok.ensures.uses.0))
    c.used_steps.ensures

pub unreachable-requires : goal.unreachable-requires
unreachable-requires c =
    let site = c.args.table.now.site in
    let ids = c.args.table.now.ids in
    let n = c.args.passed in
    let stop = c.in-Err-Rule in
    no_front_fault site (code_moves ids c.args.codes.now) n c.requires.site stop.field-0-0
    stop.field-0-1 c.requires.steps c.requires.pass
    (subst (λ l. BreaksAt site.limit site.statements site.index l stop.field-0-0 stop.field-0-1)
    (sym (take-map (code_move ids) n c.args.codes.now))
    (stop.ensures.fault stop.field-0-0 stop.field-0-1 (ap Err stop.field-0-is)))
