use Rattle.std.proofs.Common.{rules, length, refl, sym, ap, ◌∙◌}
use Rattle.std.proofs.lemmas.List.{length-map}
use Rattle.mm_proof.specs.Mirror.CodeSteps.{code_moves}
use Rattle.mm_step.specs.Mirror.Sites.{CodeSite}
use Rattle.mm_proof.proofs.ProofVerdicts.JudgedMoves.{refused, judged_none}
use Rattle.mm_listing.proofs.Machines.NextMoves.{next_made, next_named}
use Rattle.mm_listing.proofs.Machines.StackOrigins.{tracks_none, same_origins}
use Rattle.mm_listing.proofs.Machines.StackOrigins.{stopped_at, tracked_run}
use Rattle.mm_listing.proofs.origins.track_codes.Goals as goal

pub run-requires-clause-begun : goal.run-requires-clause-begun
run-requires-clause-begun g c =
    tracks_none g.S.Store.stack g.S.Store.kept _
    (judged_none g.S.Store.stack g.S.Store.kept _ c.requires.stack c.requires.kept refl refl
    (c.in_ok-unmark.ensures.long ∙ sym (length-map c.table.inside.entries.now (λ i. i.0))
    ∙ ap (λ (t : CodeSite). length t.ids) c.table.view_is)
    (c.in_ok-unmark.ensures.none _))
    c.requires.stack c.new-origins.ensures.items

pub run-requires-clause-allowed : goal.run-requires-clause-allowed
run-requires-clause-allowed g c index move there = (
  next_made c.args.table.now.site c.args.table.now.ids c.args.codes.now c.requires.usable
      c.requires.names index move there,
  next_named c.args.table.now.site c.args.table.now.ids c.args.codes.now c.requires.usable
      c.requires.names index move there,
  c.requires.meant,
)

pub returns-in_err-run-clause-stop : goal.returns-in_err-run-clause-stop
returns-in_err-run-clause-stop g c rule passed is =
    let s = c.in_err-run.ensures.stops in
    stopped_at c.args.table.now.site _ s.index s.move _ rule passed s.there s.known
    (refused _ _ _ c.from_residual-in_err-run.ensures.1 is)

pub returns-clause-run : goal.returns-clause-run
returns-clause-run g c = search (rules, tracked_run)

pub returns-clause-origins : goal.returns-clause-origins
returns-clause-origins g c =
    let site = c.args.table.now.site in
    let moves = code_moves c.args.table.now.ids c.args.codes.now in
    same_origins site.limit site.statements site.index moves _ _ _ _ c.in_ok-run.ensures.ran.made
    (search rules) (search rules)
