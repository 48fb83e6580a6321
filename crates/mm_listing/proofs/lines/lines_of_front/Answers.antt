use Rattle.std.proofs.Common.{Err, ap, subst, sym}
use Rattle.std.proofs.lemmas.List.{take-map}
use Rattle.mm_proof.specs.Mirror.CodeSteps.{code_move, code_moves}
use Rattle.mm_listing.specs.Mirror.CodeLines.{AreLinesAt, BreaksAt, expresses}
use Rattle.mm_listing.proofs.Machines.ListedEnd.{no_front_fault, front_listed}
use Rattle.mm_listing.proofs.Machines.ProofHalts.{front_made, front_named}
use Rattle.mm_listing.proofs.lines.lines_of_front.Goals as goal

pub lines_of-requires-clause-usable : goal.lines_of-requires-clause-usable
lines_of-requires-clause-usable c =
    front_made c.args.table.now.ids c.args.codes.now c.args.passed c.args.table.now.site
    c.requires.site c.requires.steps

pub lines_of-requires-clause-names : goal.lines_of-requires-clause-names
lines_of-requires-clause-names c =
    front_named c.args.table.now.ids c.args.codes.now c.args.passed c.args.table.now.site
    c.requires.steps

pub returns-in-Ok : goal.returns-in-Ok
returns-in-Ok c =
    let site = c.args.table.now.site in
    let ids = c.args.table.now.ids in
    let n = c.args.passed in
    front_listed site (code_moves ids c.args.codes.now) n c.requires.site
    (expresses c.args.expressed) c.in-Ok.lines.items
    (subst
    (λ l. AreLinesAt site.statements (expresses c.args.expressed) site.index l c.in-Ok.lines.items)
    (sym (take-map (code_move ids) n c.args.codes.now)) c.in-Ok.ensures.lines)

pub unreachable-requires : goal.unreachable-requires
unreachable-requires c =
    let site = c.args.table.now.site in
    let ids = c.args.table.now.ids in
    let n = c.args.passed in
    let stop = c.in-Err-Rule in
    no_front_fault site (code_moves ids c.args.codes.now) n c.requires.site stop.field-0-0
    stop.field-0-1 c.requires.steps c.requires.pass
    (subst (λ l. BreaksAt site.limit site.statements site.index l stop.field-0-0 stop.field-0-1)
    (sym (take-map (code_move ids) n c.args.codes.now))
    (stop.ensures.fault stop.field-0-0 stop.field-0-1 (ap Err stop.field-0-is)))
