use Rattle.std.proofs.Common.{ap}
use Rattle.mm_step.specs.Mirror.CodeAsked.{number_pairs}
use Rattle.mm_step.specs.Mirror.Sites.{CodeSite}
use Rattle.mm_proof.proofs.ProofVerdicts.JudgedMoves.{steps_made}
use Rattle.mm_distinct.proofs.LackingPairs.LackingMoves.{lacking_named}
use Rattle.mm_distinct.proofs.lacking.lacking_in_frame.Goals as goal

pub lacking_of_codes-requires-clause-usable : goal.lacking_of_codes-requires-clause-usable
lacking_of_codes-requires-clause-usable g c =
    let same = ap (λ (t : CodeSite). t.site) c.table.view_is in
    let own = rw same at c.expression-own.ensures.site in
    steps_made _ _ _ _ own.s own.sound.0 c.requires.steps own.proof.numbered

pub put_in_order-requires : goal.put_in_order-requires
put_in_order-requires g c p has = (c.in_ok-lacking.ensures.0.variables p has).missing.differ

pub returns : goal.returns
returns g c =
    let same = ap (λ (t : CodeSite). t.site) c.table.view_is in
    let own = rw same at c.expression-own.ensures.site in
    lacking_named c.one_number.ensures c.args.table.now.site own.s _
    c.put_in_order.new.pairs.items own.sound.0 own.proof.numbered (
      number_pairs c.in_ok-lacking.lacking.items,
      c.in_ok-lacking.ensures,
      c.put_in_order.ensures,
    )
