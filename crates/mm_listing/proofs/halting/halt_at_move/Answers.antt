use Rattle.std.proofs.Common.{Err, refl, ap, arith}
use Rattle.std.proofs.lemmas.List.{length-take-le}
use Rattle.std.proofs.lemmas.Option.{slice_get-get_or}
use Rattle.mm_code.specs.declared.code.Code.TheVariants.{Number}
use Rattle.mm_step.specs.Mirror.Sites.{CodeSite}
use Rattle.mm_listing.proofs.Machines.ProofHalts.{meant_before, front_made, front_named, place_there}
use Rattle.mm_listing.proofs.Machines.ProofHalts.{no_earlier_code, halts_code, origins_count}
use Rattle.mm_listing.proofs.halting.halt_at_move.Goals as goal

pub track_codes-requires-clause-meant : goal.track_codes-requires-clause-meant
track_codes-requires-clause-meant c = meant_before c.args.table.now.site c.requires.site

pub track_codes-requires-clause-usable : goal.track_codes-requires-clause-usable
track_codes-requires-clause-usable c =
    front_made c.args.table.now.ids c.args.codes.now c.args.passed c.args.table.now.site
    c.requires.site c.requires.steps

pub track_codes-requires-clause-names : goal.track_codes-requires-clause-names
track_codes-requires-clause-names c =
    front_named c.args.table.now.ids c.args.codes.now c.args.passed c.args.table.now.site
    c.requires.steps

pub offset_bounds-codes-passed : goal.offset_bounds-codes-passed
offset_bounds-codes-passed c =
    let site = c.args.table.now.site in
    let within = place_there c.args.table.now.ids c.args.codes.now c.args.passed site
    c.args.rule c.requires.broken in
    omega (arith, within)

pub bounds-codes-passed : goal.bounds-codes-passed
bounds-codes-passed c =
    place_there c.args.table.now.ids c.args.codes.now c.args.passed c.args.table.now.site
    c.args.rule c.requires.broken

pub place-requires : goal.place-requires
place-requires c =
    let site = c.args.table.now.site in
    let within = place_there c.args.table.now.ids c.args.codes.now c.args.passed site
    c.args.rule c.requires.broken in
    c.requires.spelled c.args.passed (Number 0) within

pub invariant_of-result : goal.invariant_of-result
invariant_of-result c = record {
  made = let site = c.args.table.now.site in
      rw c.new.ensures (origins_count site.limit site.statements site.index _ _ _
      c.in-Ok.ensures.origins
      (front_named c.args.table.now.ids c.args.codes.now c.args.passed site c.requires.steps));
  few = omega (
    arith,
    c.in-Ok.ensures.count,
    c.requires.room,
    length-take-le c.args.passed c.args.codes.now (
        let within = place_there c.args.table.now.ids c.args.codes.now c.args.passed
        c.args.table.now.site c.args.rule c.requires.broken in omega (arith, within)),
    place_there c.args.table.now.ids c.args.codes.now c.args.passed c.args.table.now.site
        c.args.rule c.requires.broken,
  );
}

pub returns-in-Ok : goal.returns-in-Ok
returns-in-Ok c =
    let site = c.args.table.now.site in
    let ids = ap (λ (t : CodeSite). t.ids) c.table.view_is in
    let within = place_there c.args.table.now.ids c.args.codes.now c.args.passed site
    c.args.rule c.requires.broken in
    halts_code site c.args.table.now.ids c.args.codes.now _ _ _ _ _ c.args.rule c.requires.site
    c.requires.broken c.in-Ok.ensures.run refl c.new.ensures c.in-Ok.ensures.origins
    (slice_get-get_or c.args.codes.now c.args.passed (Number 0) within)
    (rw ids at c.place.ensures) refl

pub unreachable-requires : goal.unreachable-requires
unreachable-requires c =
    let site = c.args.table.now.site in
    let stop = c.in-Err-Rule in
    no_earlier_code c.args.table.now.ids c.args.codes.now c.args.passed site c.args.rule
    stop.field-0-0 stop.field-0-1 c.requires.site c.requires.steps c.requires.broken
    (stop.ensures.stop stop.field-0-0 stop.field-0-1 (ap Err stop.field-0-is))
