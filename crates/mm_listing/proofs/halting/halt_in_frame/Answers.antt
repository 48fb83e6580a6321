use Rattle.std.proofs.Common.{refl, sym, ap, arith}
use Rattle.std.proofs.lemmas.List.{length-map}
use Rattle.mm_proof.specs.Mirror.CodeSteps.{code_move, code_moves}
use Rattle.mm_step.specs.Mirror.Sites.{CodeSite}
use Rattle.mm_listing.proofs.Machines.ProofHalts.{meant_before, made_before, halts_end, origins_count}
use Rattle.mm_listing.proofs.halting.halt_in_frame.Goals.{then-prefix, else-prefix}
use Rattle.mm_listing.proofs.halting.halt_in_frame.Goals as goal

pub track_codes-requires-clause-meant : goal.track_codes-requires-clause-meant
track_codes-requires-clause-meant c =
    let same = ap (λ (t : CodeSite). t.site) c.table.view_is in
    let own = rw same at c.expression-expression.ensures.site in
    meant_before c.args.table.now.site own

pub track_codes-requires-clause-usable : goal.track_codes-requires-clause-usable
track_codes-requires-clause-usable c =
    let same = ap (λ (t : CodeSite). t.site) c.table.view_is in
    let own = rw same at c.expression-expression.ensures.site in
    made_before c.args.table.now.site _ own c.requires.steps

pub invariant_of-result : goal.invariant_of-result
invariant_of-result c = record {
  made = let site = c.args.table.now.site in
      rw c.new.ensures (origins_count site.limit site.statements site.index _ _ _
      c.in-Ok.ensures.origins (c.requires.steps.moves, c.requires.steps.numbered));
  few = omega (arith, c.in-Ok.ensures.count, c.requires.room);
}

pub returns-after-prefix : goal.returns-after-prefix
returns-after-prefix c =
    let same = ap (λ (t : CodeSite). t.site) c.table.view_is in
    let site = c.args.table.now.site in
    let f = code_move c.args.table.now.ids in
    let own = rw same at c.expression-expression.ensures.site in
    let symbols = rw same at c.expression-expression.ensures.symbols in
    halts_end site (code_moves c.args.table.now.ids c.args.codes.now) _ _ _ _ own _ c.args.prefix
    c.one_number.ensures symbols c.in-Ok.ensures.run refl
    c.new.ensures c.in-Ok.ensures.origins
    (elim c.if-prefix.branch [
      | then-prefix w ↦ rw (w.if-prefix.true, w.rule-is) refl
      | else-prefix w ↦ rw (w.if-prefix.false, w.rule-is) w.rule_at_end-rule.ensures
    ])
    refl (sym (length-map c.args.codes.now f))

pub returns-in-Err-Rule : goal.returns-in-Err-Rule
returns-in-Err-Rule c = c.halt_at_move.ensures c.args.prefix
