use Rattle.std.proofs.Common.{rules, List, length, refl, sym, ap, subst, ◌∙◌}
use Rattle.std.proofs.lemmas.List.{length-map}
use Rattle.mm_listing.specs.declared.lines.Line.{Line}
use Rattle.mm_proof.specs.Mirror.CodeSteps.{code_moves}
use Rattle.mm_step.specs.Mirror.Sites.{CodeSite}
use Rattle.mm_listing.specs.Mirror.CodeLines.{AreLinesAt, expresses}
use Rattle.mm_proof.proofs.ProofVerdicts.JudgedMoves.{refused, judged_none, stopped_fault}
use Rattle.mm_listing.proofs.Machines.ListedLines.{lists_none, listed_run}
use Rattle.mm_listing.proofs.Machines.NextMoves.{next_listed}
use Rattle.mm_listing.proofs.lines.lines_of.Goals as goal

pub run-requires-clause-begun : goal.run-requires-clause-begun
run-requires-clause-begun g c =
    lists_none g.S.Store.stack g.S.Store.kept _
    (judged_none g.S.Store.stack g.S.Store.kept _ c.requires.stack c.requires.kept refl refl
    (c.in_ok-unmark.ensures.long ∙ sym (length-map c.table.inside.entries.now (λ i. i.0))
    ∙ ap (λ (t : CodeSite). length t.ids) c.table.view_is)
    (c.in_ok-unmark.ensures.none _))
    c.new-lines.ensures.items c.new-tags.ensures.items

pub run-requires-clause-allowed : goal.run-requires-clause-allowed
run-requires-clause-allowed g c index move there =
    next_listed c.args.table.now.site c.args.table.now.ids c.args.codes.now c.requires.usable
    c.requires.names index move there c.requires.room

pub returns-in_err-run-clause-fault : goal.returns-in_err-run-clause-fault
returns-in_err-run-clause-fault g c rule at is =
    let s = c.in_err-run.ensures.stops in
    stopped_fault c.args.table.now.site _ s.index s.move _ s.there s.known rule at
    (refused _ _ _ c.from_residual-in_err-run.ensures.1 is)

pub returns-clause-run : goal.returns-clause-run
returns-clause-run g c = search (rules, listed_run)

pub returns-clause-lines : goal.returns-clause-lines
returns-clause-lines g c =
    let site = c.args.table.now.site in
    let moves = code_moves c.args.table.now.ids c.args.codes.now in
    subst (λ (lines : List Line).
    AreLinesAt site.statements (expresses c.args.expressed) site.index moves lines)
    (search rules) c.in_ok-run.ensures.ran.listed
